use Rattle.std.proofs.Common.{◌∙◌, List, [], ◌∷◌, length, ap, arith, subst, sym}
use Rattle.srcp_door.specs.Calls.{NowCall}
use Rattle.srcp_peers.specs.Steps.{Answers, Clocks, SaysOne, Step}
use Rattle.srcp_peers.proofs.CallsAreOfTheDoor.{says_after}
use Rattle.srcp_peers.proofs.QueuedIsOffered.{all_offered_more}
use Rattle.srcp_log.specs.Doors.{flushed_in}
use Rattle.srcp_log.proofs.AnswersAreBounded.{answered_more, answered_now}
use Rattle.srcp_log.proofs.SharesAreWhole.{shares_now}
use Rattle.srcp_door.specs.Pacing.{is_short_pace}
use Rattle.srcp_log.specs.Work.{AreFrom}
use Rattle.srcp_peers.specs.Peers.{IsShared}
use Rattle.std.specs.Prelude.{◌||◌, not}
use Rattle.srcp_sockets.proofs.door.SocketDoorDoor.now.Goals as goal

pub returns-else-is_err-clause-trace : goal.returns-else-is_err-clause-trace
returns-else-is_err-clause-trace g c =
    let old = c.args.self.now.sockets.system.log.steps in
    let begun = c.begin_turn.new.self.system.log.steps in
    let new = c.now-answer.new.self.system.log.steps in
    says_after old begun new (NowCall c.now-answer.result) c.begin_turn.ensures.calls c.now-answer.ensures.trace

pub returns-then-is_err-clause-trace : goal.returns-then-is_err-clause-trace
returns-then-is_err-clause-trace g c =
    let old = c.args.self.now.sockets.system.log.steps in
    let begun = c.begin_turn.new.self.system.log.steps in
    let new = c.now-answer.new.self.system.log.steps in
    let call = NowCall c.now-answer.result in
    subst (λ (log : List Step). SaysOne old call log)
    (sym (ap (λ sockets. sockets.system.log.steps) c.failed.ensures.sockets))
    (says_after old begun new call c.begin_turn.ensures.calls c.now-answer.ensures.trace)

pub invariant_of-self-clause-fair : goal.invariant_of-self-clause-fair
invariant_of-self-clause-fair g c =
    let sockets = c.args.self.now.sockets in
    let begun = c.begin_turn.new.self.system.log.steps in
    let new = c.now-answer.new.self.system.log.steps in
    let clock = c.now-answer.ensures.clock in
    answered_more sockets.system.log.steps new (NowCall c.now-answer.result)
    (answered_now (length sockets.peers.items) sockets.system.log.steps begun new clock.0 c.now-answer.result
    (omega (arith, sockets.places.0))
    c.begin_turn.ensures.calls c.begin_turn.ensures.most clock.2) tt c.args.self.now.fair

pub returns-else-is_err-clause-offered : goal.returns-else-is_err-clause-offered
returns-else-is_err-clause-offered g c =
    let was = c.args.self.now.sockets in
    let clock = c.now-answer.ensures.clock in
    all_offered_more (flushed_in was.turn was.peers.items) was.peers.items was.system.log.steps
    c.begin_turn.new.self.system.log.steps (Clocks clock.0 ∷ Answers (NowCall c.now-answer.result) ∷ [])
    c.now-answer.new.self.system.log.steps c.begin_turn.ensures.offered clock.2

pub returns-then-is_err-clause-offered : goal.returns-then-is_err-clause-offered
returns-then-is_err-clause-offered g c =
    let was = c.args.self.now.sockets in
    let clock = c.now-answer.ensures.clock in
    all_offered_more (flushed_in was.turn was.peers.items) was.peers.items was.system.log.steps
    c.begin_turn.new.self.system.log.steps (Clocks clock.0 ∷ Answers (NowCall c.now-answer.result) ∷ [])
    c.failed.new.self.sockets.system.log.steps c.begin_turn.ensures.offered
    (ap (λ sockets. sockets.system.log.steps) c.failed.ensures.sockets ∙ clock.2)

pub invariant_of-self-clause-shares : goal.invariant_of-self-clause-shares
invariant_of-self-clause-shares g c =
    let was = c.args.self.now.sockets in
    let begun = c.begin_turn.new.self in
    let new = c.now-answer.new.self in
    let clock = c.now-answer.ensures.clock in
    let turn = c.begin_turn.ensures.turn in
    let Shared = IsShared (not (is_short_pace was.turn.pace || was.turn.late)) in
    shares_now was.system.log.steps begun.system.log.steps new.system.log.steps was.turn begun.turn new.turn was.services new.services
    was.peers.items new.peers.items clock.0 c.now-answer.result c.begin_turn.ensures.calls clock.2
    (ap (λ t. t.timekeeper) turn) (ap (λ t. t.pace) turn) (ap (λ t. t.late) turn) c.now-answer.ensures.clocks
    (c.now-answer.ensures.services ∙ c.begin_turn.ensures.keeps.2) begun.timed
    (subst (AreFrom Shared was.peers.items) (sym (ap (λ peers. peers.items) c.now-answer.ensures.keeps.3)) c.begin_turn.ensures.shares)
    c.args.self.now.shares
