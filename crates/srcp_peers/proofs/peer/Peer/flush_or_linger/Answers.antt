use Rattle.srcp_peers.proofs.QueuedIsOffered.{due_here, flushed_now}
use Rattle.srcp_peers.proofs.peer.Peer.flush_or_linger.Goals as goal

pub returns-then-is_here-clause-offered : goal.returns-then-is_here-clause-offered
returns-then-is_here-clause-offered g c =
    let p = c.args.self.now in
    let old = c.args.system.now.log.steps in
    let new = c.flush.new.system.log.steps in
    due_here c.args.what p old new (c.is_here.ensures.yes c.if-is_here.true)
    (flushed_now c.args.what p c.flush.new.self old new c.flush.ensures.offered)
