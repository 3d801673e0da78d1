use Rattle.srcp_peers.specs.declared.readiness.Flush.TheVariants as flush
use Rattle.srcp_peers.proofs.QueuedIsOffered.{due_all, flushed_now, offered_then}
use Rattle.srcp_peers.proofs.OnePeerChanges.{calls_then}
use Rattle.srcp_peers.proofs.peer.Peer.drain_output.Goals as goal

pub returns-then-not-is_lost-clause-alone : goal.returns-then-not-is_lost-clause-alone
returns-then-not-is_lost-clause-alone g c = calls_then c.flush.ensures.alone c.shut_down.ensures.alone

pub returns-then-not-is_lost-clause-offered : goal.returns-then-not-is_lost-clause-offered
returns-then-not-is_lost-clause-offered g c =
    let p = c.args.self.now in
    let old = c.args.system.now.log.steps in
    let flushed = c.flush.new.system.log.steps in
    let new = c.shut_down.new.system.log.steps in
    due_all p old new (λ due. offered_then p.number p.outgoing old flushed new
    (flushed_now flush.All p c.flush.new.self old flushed c.flush.ensures.offered due) c.shut_down.ensures.alone.calls)

pub returns-else-is_empty-clause-offered : goal.returns-else-is_empty-clause-offered
returns-else-is_empty-clause-offered g c =
    let p = c.args.self.now in
    let old = c.args.system.now.log.steps in
    let new = c.flush.new.system.log.steps in
    due_all p old new (flushed_now flush.All p c.flush.new.self old new c.flush.ensures.offered)
