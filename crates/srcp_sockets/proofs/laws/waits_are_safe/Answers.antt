use Rattle.std.proofs.Common.{◌∙◌, ap, sym}
use Rattle.srcp_peers.specs.Accounts.{account}
use Rattle.srcp_peers.specs.Steps.{Waits}
use Rattle.srcp_log.proofs.EachStepWasMadeSo.{rested_then}
use Rattle.srcp_log.proofs.WaitsOverWorkAreBrief.{works_held}
use Rattle.srcp_sockets.proofs.laws.waits_are_safe.Goals as goal

pub returns-clause-long : goal.returns-clause-long
returns-clause-long g c before after most count ready is long socket there =
    rested_then socket before after most count ready
    (ap (λ log. (account socket log).rested) (sym is) ∙ (c.args.door.now.sockets.stands.sound socket).rested) long there

pub returns-clause-peers : goal.returns-clause-peers
returns-clause-peers g c before after most count ready is =
    (c.args.door.now.sockets.done before after (Waits most count ready) is).1.peers

pub returns-clause-held : goal.returns-clause-held
returns-clause-held g c before after most count ready is socket takes =
    (c.args.door.now.sockets.done before after (Waits most count ready) is).1.peers socket (works_held (account socket before) takes)

pub returns-clause-panels : goal.returns-clause-panels
returns-clause-panels g c before after most count ready is =
    (c.args.door.now.sockets.done before after (Waits most count ready) is).1.panels
