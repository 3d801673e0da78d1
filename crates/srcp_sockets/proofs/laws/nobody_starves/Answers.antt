use Rattle.srcp_log.proofs.TurnsAreTaken.{nobody_starves}
use Rattle.srcp_sockets.proofs.laws.nobody_starves.Goals as goal

pub returns-clause-in_turn : goal.returns-clause-in_turn
returns-clause-in_turn g c = c.args.door.now.shares.in_turn

pub returns-clause-between : goal.returns-clause-between
returns-clause-between g c =
    let sockets = c.args.door.now.sockets in
    nobody_starves sockets.turn.timekeeper.wall sockets.turn.timekeeper.start sockets.system.log.steps
    c.args.door.now.shares.in_turn
