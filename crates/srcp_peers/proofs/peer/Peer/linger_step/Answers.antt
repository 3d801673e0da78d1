use Rattle.srcp_peers.proofs.QueuedIsOffered.{shut_offered}
use Rattle.srcp_peers.proofs.peer.Peer.linger_step.Goals as goal

pub returns-in-Shut-clause-offered : goal.returns-in-Shut-clause-offered
returns-in-Shut-clause-offered g c gone = shut_offered c.args.self.now c.in-Shut.since c.args.system.now.log.steps
    c.drain_input.new.system.log.steps c.in-Shut.is c.requires c.drain_input.ensures.alone.calls
