use Rattle.std.proofs.Common.{◌∙◌, ap}
use Rattle.srcp_door.specs.Calls.{AcceptCall}
use Rattle.srcp_peers.specs.Steps.{calls}
use Rattle.srcp_log.proofs.AnswersAreBounded.{answered_more, says_answered}
use Rattle.srcp_log.proofs.ServicesAreCounted.{Comes, ordered_came}
use Rattle.srcp_log.proofs.SharesAreWhole.{came_from, shares_called}
use Rattle.std.proofs.Common.{refl}
use Rattle.srcp_sockets.proofs.door.SocketDoorDoor.accept.Goals as goal

pub invariant_of-self-clause-fair : goal.invariant_of-self-clause-fair
invariant_of-self-clause-fair g c = answered_more c.args.self.now.sockets.system.log.steps
    c.accept-answer.new.self.system.log.steps (AcceptCall c.accept-answer.result) c.accept-answer.ensures.answers tt
    c.args.self.now.fair

pub returns-then-is_err-clause-trace : goal.returns-then-is_err-clause-trace
returns-then-is_err-clause-trace g c = ap (λ sockets. calls sockets.system.log.steps) c.failed.ensures.sockets
    ∙ says_answered c.args.self.now.sockets.system.log.steps c.accept-answer.new.self.system.log.steps
    (AcceptCall c.accept-answer.result) c.accept-answer.ensures.answers

pub returns-else-is_err-clause-trace : goal.returns-else-is_err-clause-trace
returns-else-is_err-clause-trace g c = says_answered c.args.self.now.sockets.system.log.steps
    c.accept-answer.new.self.system.log.steps (AcceptCall c.accept-answer.result) c.accept-answer.ensures.answers

pub invariant_of-self-clause-shares : goal.invariant_of-self-clause-shares
invariant_of-self-clause-shares g c =
    let was = c.args.self.now.sockets in
    let new = c.accept-answer.new.self in
    let now = c.accept-answer.ensures in
    let answer = c.accept-answer.result in
    let old = was.system.log.steps in
    let log = new.system.log.steps in
    let comes : Comes old (AcceptCall answer) log = (now.answers.0, now.answers.1, now.answers.2) in
    shares_called old log (AcceptCall answer) was.turn new.turn was.services new.services was.peers.items
    new.peers.items comes refl (ap (λ turn. turn.timekeeper) now.turn) now.services
    (ordered_came answer new.services was.last new.last was.peers.items new.peers.items now.next now.last new.stands.within now.came
    now.shares)
    (came_from old log answer was.last new.last was.peers.items new.peers.items comes now.next now.last new.stands.within now.shares)
    c.args.self.now.shares
