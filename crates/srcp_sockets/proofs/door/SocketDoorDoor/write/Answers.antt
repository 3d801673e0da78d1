use Rattle.srcp_door.specs.Calls.{WriteCall}
use Rattle.srcp_door.proofs.CallsAreFair.{fair_write}
use Rattle.srcp_log.proofs.AnswersAreBounded.{answered_once}
use Rattle.srcp_log.proofs.ServicesAreCounted.{unserved_all}
use Rattle.srcp_log.proofs.SharesAreWhole.{comes_once, shares_called}
use Rattle.std.proofs.Common.{ap, refl}
use Rattle.srcp_sockets.proofs.door.SocketDoorDoor.write.Goals as goal

pub invariant_of-self-clause-fair : goal.invariant_of-self-clause-fair
invariant_of-self-clause-fair g c =
    let answer = c.write-answer.result in
    answered_once c.args.self.now.sockets.system.log.steps c.write-answer.new.self.system.log.steps
    (WriteCall c.args.peer c.args.bytes.now answer) c.write-answer.ensures.log
    (fair_write c.args.peer c.args.bytes.now answer c.write-answer.ensures.count) c.args.self.now.fair

pub invariant_of-self-clause-shares : goal.invariant_of-self-clause-shares
invariant_of-self-clause-shares g c =
    let was = c.args.self.now.sockets in
    let new = c.write-answer.new.self in
    let now = c.write-answer.ensures in
    let call = WriteCall c.args.peer c.args.bytes.now c.write-answer.result in
    shares_called was.system.log.steps new.system.log.steps call was.turn new.turn was.services new.services was.peers.items
    new.peers.items (comes_once was.system.log.steps new.system.log.steps call now.log) refl (ap (λ turn. turn.timekeeper) now.turn)
    now.keeps.0 (unserved_all call new.services was.peers.items new.peers.items refl now.shares) (λ k d lt free. now.shares k d lt)
    c.args.self.now.shares
