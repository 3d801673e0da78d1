use Rattle.std.proofs.Common.{subst, sym}
use Rattle.srcp_peers.specs.Peers.{IsKept}
use Rattle.srcp_peers.proofs.PeersLingerByAccount.{kept_dropped}
use Rattle.srcp_peers.proofs.peer.Peer.skip.Goals as goal

pub fill-requires : goal.fill-requires
fill-requires g c = subst (IsKept c.args.system.now.log.steps) (sym c.drop_input.ensures)
    (kept_dropped c.args.system.now.log.steps c.args.self.now c.requires.gone c.requires.kept)
