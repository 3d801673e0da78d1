use Rattle.srcp_log.proofs.AnswersAreBounded.{answered_first}
use Rattle.srcp_log.proofs.SharesAreWhole.{shares_first}
use Rattle.srcp_sockets.proofs.door.SocketDoor.open.Goals as goal

pub invariant_of-result-clause-fair : goal.invariant_of-result-clause-fair
invariant_of-result-clause-fair g c = answered_first c.in_ok-new.field-0.system.log.steps c.in_ok-new.ensures.1

pub invariant_of-result-clause-shares : goal.invariant_of-result-clause-shares
invariant_of-result-clause-shares g c =
    let sockets = c.in_ok-new.field-0 in
    let first = c.in_ok-new.ensures in
    shares_first sockets.system.log.steps sockets.turn sockets.services sockets.peers.items first.1 first.7 first.8
