use Rattle.srcp_peers.specs.Accounts.{account, may_shut}
use Rattle.srcp_peers.specs.Steps.{Waits}
use Rattle.srcp_log.proofs.WaitsAreFlushed.{unless_lost}
use Rattle.srcp_sockets.proofs.laws.gone_are_closed.Goals as goal

pub returns-clause-closed : goal.returns-clause-closed
returns-clause-closed g c before after most count ready is few socket =
    (c.args.door.now.sockets.done before after (Waits most count ready) is).0.closed few socket

pub returns-clause-shut : goal.returns-clause-shut
returns-clause-shut g c before after most count ready is socket may =
    let done = (c.args.door.now.sockets.done before after (Waits most count ready) is).0 in
    unless_lost (may_shut (account socket before)) (account socket before).sent.lost (done.flushed socket).shut may
