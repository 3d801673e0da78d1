use Rattle.srcp_peers.specs.Steps.{Waits}
use Rattle.srcp_sockets.proofs.laws.waits_have_reasons.Goals as goal

pub returns-clause-delay : goal.returns-clause-delay
returns-clause-delay g c none before after most count ready is =
    ((c.args.door.now.sockets.done before after (Waits most count ready) is).3 none).delay

pub returns-clause-sleep : goal.returns-clause-sleep
returns-clause-sleep g c none before after most count ready is =
    ((c.args.door.now.sockets.done before after (Waits most count ready) is).3 none).sleep
