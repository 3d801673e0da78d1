use Rattle.std.proofs.Common.{◌≡◌, ◌∙◌, ℕ, Bool, true, false, ap, refl, subst, sym, true≢false}
use Rattle.std.specs.Prelude.{◌&&◌, ◌||◌, cond, not}
use Rattle.srcp_door.specs.Pacing.{is_short_pace}
use Rattle.srcp_peers.specs.declared.readiness.Flush.{Flush}
use Rattle.srcp_peers.specs.declared.turn.Turn.{Turn}
use Rattle.srcp_peers.specs.AllPeers.{AreOffered}
use Rattle.srcp_peers.specs.Peers.{IsShared, KeepsRest, flushes_all}
use Rattle.srcp_peers.specs.Turns.{flushing, has_ticked}
use Rattle.srcp_peers.proofs.QueuedIsOffered.{all_offered_then}
use Rattle.srcp_peers.proofs.PeersRestByAccount.{and_left, and_right}
use Rattle.srcp_peers.proofs.CallsAreOfTheDoor.{keeps_then, says_then}
use Rattle.srcp_log.specs.Delivery.{HasWaited}
use Rattle.srcp_log.specs.Doors.{flushed_in}
use Rattle.srcp_log.specs.Waits.{AreFlushed}
use Rattle.srcp_log.specs.Work.{AreClosedUp, AreFrom, goes_on}
use Rattle.srcp_log.proofs.EndsAreDelivered.{waited_after, waited_keeps}
use Rattle.srcp_log.proofs.WorkIsDone.{looked_silent, may_tell}
use Rattle.srcp_log.proofs.WaitsAreFlushed.{all_closed, may_wait}
use Rattle.std.proofs.Common.{arith}
use Rattle.srcp_log.proofs.PeersAreFrom.{all_shared, from_then, rest_then}
use Rattle.srcp_sockets.proofs.sockets.Sockets.begin_turn.Goals as goal

pub returns-clause-calls : goal.returns-clause-calls
returns-clause-calls g c =
    let old = c.args.self.now.system.log.steps in
    let flushed = c.flush.new.self.system.log.steps in
    let gone = c.close_gone.new.self.system.log.steps in
    let looked = c.poll_unless_held.new.self.system.log.steps in
    let new = c.begin_visits.new.self.system.log.steps in
    says_then old gone new (says_then old flushed gone c.flush.ensures.calls c.close_gone.ensures.calls)
    (says_then gone looked new c.poll_unless_held.ensures.calls c.begin_visits.ensures.calls)

pub returns-clause-offered : goal.returns-clause-offered
returns-clause-offered g c =
    let was = c.args.self.now in
    let old = was.system.log.steps in
    let flushed = c.flush.new.self.system.log.steps in
    let gone = c.close_gone.new.self.system.log.steps in
    let looked = c.poll_unless_held.new.self.system.log.steps in
    let new = c.begin_visits.new.self.system.log.steps in
    let what = flushed_in was.turn was.peers.items in
    let ticked = has_ticked was.turn in
    let same : c.flushing-what.result ≡ what = c.flushing-what.ensures
    ∙ ap (λ held. flushing ticked held was.turn) (c.goes_on-held.ensures ∙ ap (λ holds. not ticked && holds) c.holds_input-holds.ensures) in
    all_offered_then what was.peers.items old flushed new
    (subst (λ (f : Flush). AreOffered f was.peers.items old flushed) same c.flush.ensures.offered)
    (says_then flushed gone new c.close_gone.ensures.calls
    (says_then gone looked new c.poll_unless_held.ensures.calls c.begin_visits.ensures.calls))

pub returns-clause-waits : goal.returns-clause-waits
returns-clause-waits g c =
    let was = c.args.self.now in
    let old = was.system.log.steps in
    let flushed = c.flush.new.self.system.log.steps in
    let gone = c.close_gone.new.self.system.log.steps in
    let looked = c.poll_unless_held.new.self.system.log.steps in
    let new = c.begin_visits.new.self.system.log.steps in
    let ticked = has_ticked was.turn in
    let held : c.goes_on-held.result ≡ goes_on was.turn was.peers.items = c.goes_on-held.ensures
    ∙ ap (λ holds. not ticked && holds) c.holds_input-holds.ensures in
    subst (λ (h : Bool). HasWaited (cond h 0 1) old new) held
    (waited_keeps (cond c.goes_on-held.result 0 1) old looked new
    (waited_after (cond c.goes_on-held.result 0 1) old gone looked
    (keeps_then old flushed gone c.flush.ensures.times c.close_gone.ensures.times) c.poll_unless_held.ensures.waits)
    c.begin_visits.ensures.times)

not_true : (b : Bool) → not b ≡ true → b ≡ false
not_true true e = absurd (true≢false (sym e))
not_true false e = refl

pub returns-clause-may : goal.returns-clause-may
returns-clause-may g c =
    let was = c.args.self.now in
    let old = was.system.log.steps in
    let flushed = c.flush.new.self.system.log.steps in
    let gone = c.close_gone.new.self.system.log.steps in
    let looked = c.poll_unless_held.new.self.system.log.steps in
    let new = c.begin_visits.new.self.system.log.steps in
    let same : c.begin_visits.new.self.turn ≡ record was.turn { busy = c.goes_on-held.result && was.turn.busy } =
    c.begin_visits.ensures.keeps.3 ∙ c.poll_unless_held.ensures.turn
    ∙ ap (λ (t : Turn). record t { busy = c.goes_on-held.result && t.busy }) (c.close_gone.ensures.keeps.0 ∙ c.flush.ensures.keeps.0) in
    may_tell c.begin_visits.new.self.turn old new was.peers.items was.listening was.last c.goes_on-held.result was.stands
    (says_then old gone new (says_then old flushed gone c.flush.ensures.calls c.close_gone.ensures.calls)
    (says_then gone looked new c.poll_unless_held.ensures.calls c.begin_visits.ensures.calls))
    (λ held. sym c.holds_input-holds.ensures
    ∙ and_right (not (has_ticked was.turn)) c.holds_input-holds.result (sym c.goes_on-held.ensures ∙ held))
    (λ held. ap has_ticked same
    ∙ not_true (has_ticked was.turn) (and_left (not (has_ticked was.turn)) c.holds_input-holds.result (sym c.goes_on-held.ensures ∙ held)))
    (λ none. looked_silent looked new c.begin_visits.ensures.calls (c.poll_unless_held.ensures.looked none))

pub poll_unless_held-requires-clause-may : goal.poll_unless_held-requires-clause-may
poll_unless_held-requires-clause-may g c none =
    let was = c.args.self.now in
    let at = c.close_gone.new.self in
    let flushed = c.flush.new.self.system.log.steps in
    let gone = at.system.log.steps in
    let kept : at.turn ≡ was.turn = c.close_gone.ensures.keeps.0 ∙ c.flush.ensures.keeps.0 in
    let what : c.flushing-what.result ≡ flushing (has_ticked at.turn) false at.turn = c.flushing-what.ensures
    ∙ ap (λ held. flushing (has_ticked was.turn) held was.turn) none ∙ ap (λ (t : Turn). flushing (has_ticked t) false t) (sym kept) in
    may_wait gone at.turn at.timed
    (subst (λ (f : Flush). AreFlushed (flushes_all f) gone) what
    (c.close_gone.ensures.out (flushes_all c.flushing-what.result) c.flush.ensures.out))
    (all_closed flushed gone at.turn at.peers.items at.listening at.last at.stands at.timed c.close_gone.ensures.calls
    (subst (λ (t : Turn). AreClosedUp t.clock at.peers.items flushed gone) (sym c.close_gone.ensures.keeps.0) c.close_gone.ensures.closed))

pub returns-clause-most : goal.returns-clause-most
returns-clause-most g c =
    let a = c.flush.ensures.as_many in
    let b = c.close_gone.ensures.as_few in
    let d = c.poll_unless_held.ensures.as_many in
    let flushed = c.flush.ensures.most in
    let gone = c.close_gone.ensures.most in
    let looked = c.poll_unless_held.ensures.most in
    let begun = c.begin_visits.ensures.most in
    omega (arith, a, b, d, flushed, gone, looked, begun)

pub returns-clause-shares : goal.returns-clause-shares
returns-clause-shares g c =
    let was = c.args.self.now in
    let flushed = c.flush.new.self in
    let gone = c.close_gone.new.self in
    let looked = c.poll_unless_held.new.self in
    let new = c.begin_visits.new.self in
    let begun = c.begin_visits.ensures in
    let late = ap (λ t. t.late) c.poll_unless_held.ensures.turn ∙ ap (λ t. t.late) c.close_gone.ensures.keeps.0
    ∙ ap (λ t. t.late) c.flush.ensures.keeps.0 in
    let pace = ap (λ t. t.pace) c.poll_unless_held.ensures.turn ∙ ap (λ t. t.pace) c.close_gone.ensures.keeps.0
    ∙ ap (λ t. t.pace) c.flush.ensures.keeps.0 in
    let anew : not (is_short_pace looked.turn.pace || looked.turn.late) ≡ not (is_short_pace was.turn.pace || was.turn.late) =
    ap (λ p. not (is_short_pace p || looked.turn.late)) pace ∙ ap (λ l. not (is_short_pace was.turn.pace || l)) late in
    subst (λ (a : Bool). AreFrom (IsShared a) was.peers.items new.peers.items) anew
    (all_shared (not (is_short_pace looked.turn.pace || looked.turn.late)) was.peers.items gone.peers.items looked.peers.items
    new.peers.items
    (from_then KeepsRest KeepsRest KeepsRest rest_then was.peers.items flushed.peers.items gone.peers.items c.flush.ensures.left
    c.close_gone.ensures.left)
    c.poll_unless_held.ensures.shares begun.as_many begun.those begun.shares)

pub returns-clause-rests : goal.returns-clause-rests
returns-clause-rests g c goes =
    let was = c.args.self.now in
    let ticked = has_ticked was.turn in
    let held = c.goes_on-held.ensures ∙ ap (λ holds. not ticked && holds) c.holds_input-holds.ensures ∙ goes in
    c.begin_visits.ensures.keeps.2 ∙ c.poll_unless_held.ensures.rests held ∙ c.close_gone.ensures.keeps.3 ∙ c.flush.ensures.keeps.4

pub returns-clause-heard : goal.returns-clause-heard
returns-clause-heard g c goes =
    let was = c.args.self.now in
    let gone = c.close_gone.new.self in
    let looked = c.poll_unless_held.new.self in
    let old = was.system.log.steps in
    let flushed = c.flush.new.self.system.log.steps in
    let ticked = has_ticked was.turn in
    let held = c.goes_on-held.ensures ∙ ap (λ holds. not ticked && holds) c.holds_input-holds.ensures ∙ goes in
    let waits = c.poll_unless_held.ensures.heard held in
    let heard : gone.listening ≡ was.listening = c.close_gone.ensures.keeps.3 ∙ c.flush.ensures.keeps.4 in
    let turn : gone.turn ≡ was.turn = c.close_gone.ensures.keeps.0 ∙ c.flush.ensures.keeps.0 in
    let limit : gone.most ≡ was.most = c.close_gone.ensures.keeps.2 ∙ c.flush.ensures.keeps.2 in
    record {
      peers = gone.peers.items;
      log = gone.system.log.steps;
      later = looked.system.log.steps;
      left = from_then KeepsRest KeepsRest KeepsRest rest_then was.peers.items c.flush.new.self.peers.items gone.peers.items
          c.flush.ensures.left c.close_gone.ensures.left;
      stands = (gone.listening, gone.last, gone.stands);
      begins = says_then old flushed gone.system.log.steps c.flush.ensures.calls c.close_gone.ensures.calls;
      waits = rw (c.begin_visits.ensures.keeps.2, ← heard, ← turn, ← limit) waits;
      ends = c.begin_visits.ensures.calls;
    }

pub returns-clause-turn : goal.returns-clause-turn
returns-clause-turn g c =
    let was = c.args.self.now in
    let held : c.goes_on-held.result ≡ goes_on was.turn was.peers.items = c.goes_on-held.ensures
    ∙ ap (λ holds. not (has_ticked was.turn) && holds) c.holds_input-holds.ensures in
    c.begin_visits.ensures.keeps.3 ∙ c.poll_unless_held.ensures.turn
    ∙ ap (λ (t : Turn). record t { busy = c.goes_on-held.result && t.busy }) (c.close_gone.ensures.keeps.0 ∙ c.flush.ensures.keeps.0)
    ∙ ap (λ (h : Bool). record was.turn { busy = h && was.turn.busy }) held
