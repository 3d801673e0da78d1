use Rattle.std.proofs.Common.{◌∙◌, ap, sym}
use Rattle.srcp_peers.specs.Accounts.{account}
use Rattle.srcp_log.proofs.EachStepWasMadeSo.{failed_before, unwritten_before}
use Rattle.srcp_sockets.proofs.laws.faults_are_true.Goals as goal

pub returns-clause-read : goal.returns-clause-read
returns-clause-read g c before after socket fault buffer is = failed_before socket before after fault buffer
    (ap (λ log. (account socket log).honest) (sym is) ∙ (c.args.door.now.sockets.stands.sound socket).honest)

pub returns-clause-write : goal.returns-clause-write
returns-clause-write g c before after socket bytes fault is = unwritten_before socket before after bytes fault
    (ap (λ log. (account socket log).honest) (sym is) ∙ (c.args.door.now.sockets.stands.sound socket).honest)
