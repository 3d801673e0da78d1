use Rattle.std.proofs.Common.{◌++◌, ◌∷◌, [], ◌≡◌, ◌∙◌, ℕ, List, None, Option, rules, refl, sym, subst, false, true, arith}
use Rattle.std.specs.Prelude.{All}
use Rattle.std.proofs.lemmas.List.{with_items_is}
use Rattle.srcp_peers.specs.declared.peer.Peer.{Peer}
use Rattle.srcp_peers.specs.declared.turn.Turn.{Turn}
use Rattle.srcp_peers.specs.declared.turn.Listening.{Listening}
use Rattle.srcp_peers.specs.Accounts.{is_short_wait}
use Rattle.srcp_log.specs.Doors.{Stands}
use Rattle.srcp_peers.specs.Peers.{KeepsShare, is_resting}
use Rattle.srcp_peers.specs.Steps.{Waits}
use Rattle.srcp_peers.specs.Turns.{after_wait}
use Rattle.srcp_log.specs.KeptTimes.{IsTimed}
use Rattle.srcp_peers.proofs.CallsAreOfTheDoor.{says_step}
use Rattle.srcp_log.proofs.AcceptsAreAsked.{asked_step}
use Rattle.srcp_log.proofs.WorkIsDone.{done_step, done_turn, looked_wait}
use Rattle.srcp_log.proofs.NumbersDiffer.{named_silent}
use Rattle.srcp_log.proofs.WaitsHaveReasons.{long_enough}
use Rattle.srcp_log.proofs.WaitsKeepSockets.{stands_waited}
use Rattle.srcp_log.proofs.WaitsOverWorkAreBrief.{brief_over_work}
use Rattle.srcp_log.proofs.TimesGoOn.{timed_wait}
use Rattle.std.specs.Prelude.{take}
use Rattle.srcp_log.specs.Endings.{AreAsFar}
use Rattle.srcp_log.proofs.EndsAreTold.{far_goes, slackens_step, woken_of}
use Rattle.srcp_peers.proofs.StepsAreCounted.{grows_step}
use Rattle.srcp_log.proofs.SocketsStayStanding.{as_many}
use Rattle.srcp_log.specs.Work.{AreFrom}
use Rattle.srcp_log.proofs.PeersAreFrom.{woken_from}
use Rattle.srcp_sockets.proofs.sockets.Sockets.wait.Goals as goal

pub invariant_of-self : goal.invariant_of-self
invariant_of-self g c =
    let old = c.args.self.now.system.log.steps in
    let new = c.wait-count.new.self.log.steps in
    let most = c.longest_wait-most.result in
    let count = c.wait-count.result in
    let ready = c.wait-count.new.ready in
    let before = c.as_mut_slice.result.now in
    let listening = c.args.self.now.listening in
    let last = c.args.self.now.last in
    let same = sym c.as_mut_slice.ensures.value in
    let long = λ (none : c.args.self.now.most ≡ None). long_enough old c.args.self.now.peers.items listening last
    c.args.self.now.turn c.args.self.now.most most c.args.self.now.stands c.args.self.now.timed none c.longest_wait-most.ensures.exact in
    record {
      stands = subst (λ (ps : List Peer). Stands new ps c.listen-self.result last)
          (sym (with_items_is c.args.self.now.peers c.wake.new.peers (c.wake.auto.peers ∙ search rules)))
          (subst (λ (l : Listening). Stands new c.wake.new.peers l last) (sym c.listen-self.ensures)
          (stands_waited old new before c.wake.new.peers most count ready listening last
          (subst (λ (ps : List Peer). is_short_wait most ≡ false → All (λ peer. is_resting peer ≡ true) ps) same
          c.longest_wait-most.ensures.rest)
          c.longest_wait-most.ensures.accepts c.wait-count.ensures.log c.wake.auto.peers c.wake.ensures
          (subst (λ (ps : List Peer). Stands old ps listening last) same c.args.self.now.stands)));
      named = named_silent old new last (says_step old new (Waits most count ready) c.wait-count.ensures.log refl) c.args.self.now.named;
      timed = subst (λ (t : Turn). IsTimed new t) (sym c.wait.ensures)
          (timed_wait old new c.args.self.now.turn most count ready c.longest_wait-most.ensures.due c.longest_wait-most.ensures.panels
          c.wait-count.ensures.log c.args.self.now.timed);
      asked = asked_step old new (Waits most count ready) c.wait-count.ensures.log refl c.args.self.now.asked;
      done = done_turn c.args.self.now.most new c.args.self.now.turn c.wait.new.self (after_wait c.args.self.now.turn)
          c.wait.ensures refl refl
          (done_step c.args.self.now.most c.args.self.now.turn.timekeeper.wall c.args.self.now.turn.timekeeper.start old new
          (Waits most count ready) c.wait-count.ensures.log (
            c.requires.may,
            brief_over_work old c.args.self.now.peers.items listening last c.args.self.now.turn c.args.self.now.most most
                c.args.self.now.stands c.args.self.now.timed c.longest_wait-most.ensures.exact,
            c.wait-count.auto.ready ∙ c.requires.ready,
            long,
          )
          c.args.self.now.done);
      ending = subst (AreAsFar new)
          (sym (with_items_is c.args.self.now.peers c.wake.new.peers (c.wake.auto.peers ∙ search rules)))
          (far_goes old new before c.wake.new.peers
          (slackens_step old new (Waits most count ready) c.wait-count.ensures.log (λ s x. refl))
          (woken_of before c.wake.new.peers (take count ready) c.wake.auto.peers c.wake.ensures)
          (subst (AreAsFar old) same c.args.self.now.ending));
      places = (
        omega (
          arith,
          c.args.self.now.places.0,
          as_many c.as_mut_slice.result.now c.wake.new.peers c.args.self.now.peers.items _
              (with_items_is c.args.self.now.peers c.wake.new.peers (c.wake.auto.peers ∙ search rules)) c.wake.auto.peers
              c.as_mut_slice.ensures.value,
        ),
        c.args.self.now.places.1,
        c.args.self.now.places.2,
      );
    }

pub returns-clause-calls : goal.returns-clause-calls
returns-clause-calls g c = says_step c.args.self.now.system.log.steps c.wait-count.new.self.log.steps
    (Waits c.longest_wait-most.result c.wait-count.result c.wait-count.new.ready) c.wait-count.ensures.log refl

pub returns-clause-waits : goal.returns-clause-waits
returns-clause-waits g c = (
  c.wait-count.result,
  c.wait-count.new.ready,
  subst (λ (most : Option ℕ). c.wait-count.new.self.log.steps
      ≡ c.args.self.now.system.log.steps ++ Waits most c.wait-count.result c.wait-count.new.ready ∷ [])
      c.longest_wait-most.ensures.exact c.wait-count.ensures.log,
  c.listen-self.ensures,
)

pub returns-clause-looked : goal.returns-clause-looked
returns-clause-looked g c = looked_wait c.args.self.now.system.log.steps c.wait-count.new.self.log.steps
    c.longest_wait-most.result c.wait-count.result c.wait-count.new.ready c.wait-count.ensures.log

pub returns-clause-most : goal.returns-clause-most
returns-clause-most g c = grows_step c.args.self.now.system.log.steps c.wait-count.new.self.log.steps
    (Waits c.longest_wait-most.result c.wait-count.result c.wait-count.new.ready) c.wait-count.ensures.log

pub returns-clause-as_many : goal.returns-clause-as_many
returns-clause-as_many g c = as_many c.as_mut_slice.result.now c.wake.new.peers c.args.self.now.peers.items _
    (with_items_is c.args.self.now.peers c.wake.new.peers (c.wake.auto.peers ∙ search rules)) c.wake.auto.peers
    c.as_mut_slice.ensures.value

pub returns-clause-shares : goal.returns-clause-shares
returns-clause-shares g c =
    let before = c.as_mut_slice.result.now in
    let after = c.wake.new.peers in
    subst (AreFrom KeepsShare c.args.self.now.peers.items)
    (sym (with_items_is c.args.self.now.peers after (c.wake.auto.peers ∙ search rules)))
    (subst (λ (ps : List Peer). AreFrom KeepsShare ps after) c.as_mut_slice.ensures.value
    (woken_from before after (take c.wait-count.result c.wait-count.new.ready) c.wake.auto.peers c.wake.ensures))
