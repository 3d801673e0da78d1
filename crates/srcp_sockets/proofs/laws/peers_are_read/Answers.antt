use Rattle.std.proofs.Common.{◌∙◌, ap, sym}
use Rattle.srcp_peers.specs.Accounts.{account}
use Rattle.srcp_log.proofs.EachStepWasMadeSo.{read_then}
use Rattle.srcp_sockets.proofs.laws.peers_are_read.Goals as goal

pub returns : goal.returns
returns g c before after socket answer is = read_then socket before after answer
    (ap (λ log. (account socket log).served) (sym is) ∙ (c.args.door.now.sockets.stands.sound socket).served)
