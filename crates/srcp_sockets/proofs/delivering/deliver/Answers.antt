use Rattle.std.proofs.Common.{◌≡◌, ◌==◌, ℕ, Some, ap, arith, length, refl, subst, sym, ◌∙◌, inl, inr, true≢false}
use Rattle.std.specs.Prelude.{fold, take}
use Rattle.srcp_peers.specs.AllPeers.{AreApart}
use Rattle.srcp_peers.specs.declared.readiness.Flush.TheVariants as flush
use Rattle.srcp_peers.specs.Listeners.{woken_listening}
use Rattle.srcp_peers.specs.Steps.{Clocks, SaysNothing, Waits}
use Rattle.srcp_peers.proofs.QueuedIsOffered.{all_offered_then, offered_first}
use Rattle.srcp_peers.proofs.CallsAreOfTheDoor.{says_none, says_step, says_then}
use Rattle.srcp_peers.proofs.OnePeerChanges.{apart_later, clocked_all, waited_all, woken_apart}
use Rattle.srcp_log.specs.Delivery.{HasWaited, HaveEnded}
use Rattle.srcp_log.specs.Doors.{AreStanding}
use Rattle.srcp_log.proofs.EndsAreDelivered.{looked_free, looked_none, looked_step, looked_then}
use Rattle.srcp_log.proofs.EndsAreDelivered.{are_delivered, has_ended, waited_clocked, waited_keeps, waited_more, waited_none}
use Rattle.srcp_log.proofs.SocketsLingerAndClose.{stands_clocked}
use Rattle.srcp_log.proofs.SocketsStayStanding.{stands_turned}
use Rattle.srcp_log.proofs.WaitsKeepSockets.{stands_waited}
use Rattle.srcp_sockets.proofs.delivering.deliver.Goals as goal

pub loop-look-init : goal.loop-look-init
loop-look-init g c = record {
  kept = c.requires.kept;
  apart = c.requires.apart;
  standing = λ stands. stands;
  calls = says_none c.args.system.now.log.steps;
  first = λ e. (refl, refl);
  offered = λ some. absurd (omega (arith, some));
  ready = c.requires.ready;
  looked = looked_none c.args.system.now.log.steps;
  waited = waited_none c.args.system.now.log.steps;
}

pub returns-then-are_delivered : goal.returns-then-are_delivered
returns-then-are_delivered g c =
    let first = c.args.system.now.log.steps in
    let old = c.loop-look.system.log.steps in
    let new = c.flush.new.system.log.steps in
    let peers = c.flush.new.peers in
    let f = c.flush.ensures in
    let ended : HaveEnded c.args.until first new peers =
    inl (are_delivered new peers f.kept (c.are_delivered.ensures c.if-are_delivered.true)) in
    let stands : AreStanding first c.args.peers.now → AreStanding new peers = λ stood.
    let was = c.loop-look.invariant.standing stood in (
      was.0,
      was.1,
      stands_turned old new c.loop-look.peers peers was.0 was.1 c.flush.auto.peers f.kept f.those f.others was.2,
    ) in
    record {
      kept = f.kept;
      ended = ended;
      standing = stands;
      all = λ stood. has_ended c.args.until first new peers (stands stood) ended;
      looked = looked_then first old new c.loop-look.invariant.looked (looked_free old new f.calls f.times);
      offered = offered_first c.loop-look._look flush.All c.args.peers.now c.loop-look.peers first old new c.loop-look.invariant.first
          c.loop-look.invariant.offered f.calls f.offered;
    }

pub returns-then-is_over : goal.returns-then-is_over
returns-then-is_over g c =
    let first = c.args.system.now.log.steps in
    let old = c.loop-look.system.log.steps in
    let turned = c.flush.new.system.log.steps in
    let clocked = c.clock-clock.new.self.log.steps in
    let peers = c.flush.new.peers in
    let f = c.flush.ensures in
    let ended : HaveEnded c.args.until first clocked peers =
    inr (inl (turned, c.clock-clock.result, c.clock-clock.ensures.log, sym c.is_over.ensures ∙ c.if-is_over.true)) in
    let stands : AreStanding first c.args.peers.now → AreStanding clocked peers = λ stood.
    let was = c.loop-look.invariant.standing stood in (
      was.0,
      was.1,
      stands_clocked turned clocked peers was.0 was.1 c.clock-clock.result c.clock-clock.ensures.log
          (stands_turned old turned c.loop-look.peers peers was.0 was.1 c.flush.auto.peers f.kept f.those f.others was.2),
    ) in
    record {
      kept = clocked_all turned clocked peers c.clock-clock.result c.clock-clock.ensures.log f.kept;
      ended = ended;
      standing = stands;
      all = λ stood. has_ended c.args.until first clocked peers (stands stood) ended;
      looked = looked_then first turned clocked
          (looked_then first old turned c.loop-look.invariant.looked (looked_free old turned f.calls f.times))
          (looked_step turned clocked (Clocks c.clock-clock.result) c.clock-clock.ensures.log refl);
      offered = all_offered_then flush.All c.args.peers.now first turned clocked
          (offered_first c.loop-look._look flush.All c.args.peers.now c.loop-look.peers first old turned c.loop-look.invariant.first
          c.loop-look.invariant.offered f.calls f.offered)
          (says_step turned clocked (Clocks c.clock-clock.result) c.clock-clock.ensures.log refl);
    }

pub loop-look-preserved : goal.loop-look-preserved
loop-look-preserved g c =
    let first = c.args.system.now.log.steps in
    let old = c.loop-look.system.log.steps in
    let turned = c.flush.new.system.log.steps in
    let clocked = c.clock-clock.new.self.log.steps in
    let waited = c.wait-count.new.self.log.steps in
    let was = c.loop-look.invariant in
    let f = c.flush.ensures in
    let peers = c.flush.new.peers in
    let count = c.wait-count.result in
    let ready = c.wait-count.new.ready in
    let all : length ready ≡ 128 = c.wait-count.auto.ready ∙ was.ready in
    let more : SaysNothing turned waited = says_then turned clocked waited
    (says_step turned clocked (Clocks c.clock-clock.result) c.clock-clock.ensures.log refl)
    (says_step clocked waited (Waits (Some 8) count ready) c.wait-count.ensures.log refl) in
    let apart : AreApart peers = apart_later c.loop-look.peers peers c.flush.auto.peers f.those was.apart in
    record {
      kept = waited_all clocked waited peers c.wake.new.peers (Some 8) count ready (λ e. absurd (true≢false e))
          c.wait-count.ensures.log c.wake.auto.peers c.wake.ensures
          (clocked_all turned clocked peers c.clock-clock.result c.clock-clock.ensures.log f.kept);
      calls = says_then first turned waited (says_then first old turned was.calls f.calls) more;
      first = λ e. absurd (omega (arith, e));
      offered = λ some. all_offered_then flush.All c.args.peers.now first turned waited
          (offered_first c.loop-look._look flush.All c.args.peers.now c.loop-look.peers first old turned was.first was.offered f.calls
          f.offered) more;
      apart = woken_apart peers c.wake.new.peers (take count ready) c.wake.auto.peers c.wake.ensures apart;
      standing = λ stood.
          let stands = was.standing stood in (
            fold woken_listening stands.0 (take count ready),
            stands.1,
            stands_waited clocked waited peers c.wake.new.peers (Some 8) count ready stands.0 stands.1
                (λ e. absurd (true≢false e)) (λ e. absurd (true≢false e)) c.wait-count.ensures.log c.wake.auto.peers c.wake.ensures
                (stands_clocked turned clocked peers stands.0 stands.1 c.clock-clock.result c.clock-clock.ensures.log
                (stands_turned old turned c.loop-look.peers peers stands.0 stands.1 c.flush.auto.peers f.kept f.those f.others stands.2)),
          );
      ready = all;
      looked = looked_then first turned waited
          (looked_then first old turned was.looked (looked_free old turned f.calls f.times))
          (looked_then turned clocked waited
          (looked_step turned clocked (Clocks c.clock-clock.result) c.clock-clock.ensures.log refl)
          (looked_step clocked waited (Waits (Some 8) count ready) c.wait-count.ensures.log (ap (λ n. n == 128) all)));
      waited = waited_more c.loop-look._look first clocked waited (Some 8) count ready c.wait-count.ensures.log
          (waited_clocked c.loop-look._look first turned clocked c.clock-clock.result c.clock-clock.ensures.log
          (waited_keeps c.loop-look._look first old turned was.waited f.times));
    }

pub returns-clause-ended : goal.returns-clause-ended
returns-clause-ended g c =
    let all : c.loop-look._look ≡ 1000000 = omega arith in
    inr (inr (subst (λ (n : ℕ). HasWaited n c.args.system.now.log.steps c.loop-look.system.log.steps) all
    c.loop-look.invariant.waited))

pub returns-clause-offered : goal.returns-clause-offered
returns-clause-offered g c = c.loop-look.invariant.offered (omega arith)
