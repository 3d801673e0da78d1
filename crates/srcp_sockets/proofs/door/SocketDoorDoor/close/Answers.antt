use Rattle.srcp_door.specs.Calls.{CloseCall}
use Rattle.srcp_log.proofs.AnswersAreBounded.{answered_once}
use Rattle.srcp_log.proofs.ServicesAreCounted.{unserved_all}
use Rattle.srcp_log.proofs.SharesAreWhole.{comes_once, shares_called}
use Rattle.std.proofs.Common.{ap, refl}
use Rattle.srcp_sockets.proofs.door.SocketDoorDoor.close.Goals as goal

pub invariant_of-self-clause-fair : goal.invariant_of-self-clause-fair
invariant_of-self-clause-fair g c = answered_once c.args.self.now.sockets.system.log.steps
    c.close-answer.new.self.system.log.steps (CloseCall c.args.peer c.close-answer.result) c.close-answer.ensures.log tt
    c.args.self.now.fair

pub invariant_of-self-clause-shares : goal.invariant_of-self-clause-shares
invariant_of-self-clause-shares g c =
    let was = c.args.self.now.sockets in
    let new = c.close-answer.new.self in
    let now = c.close-answer.ensures in
    let call = CloseCall c.args.peer c.close-answer.result in
    shares_called was.system.log.steps new.system.log.steps call was.turn new.turn was.services new.services was.peers.items
    new.peers.items (comes_once was.system.log.steps new.system.log.steps call now.log) refl (ap (λ turn. turn.timekeeper) now.turn)
    now.keeps.0 (unserved_all call new.services was.peers.items new.peers.items refl now.shares) (λ k d lt free. now.shares k d lt)
    c.args.self.now.shares
