use Rattle.std.proofs.Common.{◌∙◌, ap, sym}
use Rattle.srcp_peers.specs.Accounts.{account}
use Rattle.srcp_log.proofs.EachStepWasMadeSo.{ended_before}
use Rattle.srcp_sockets.proofs.laws.ends_are_true.Goals as goal

pub returns : goal.returns
returns g c before after socket buffer is = ended_before socket before after buffer
    (ap (λ log. (account socket log).honest) (sym is) ∙ (c.args.door.now.sockets.stands.sound socket).honest)
