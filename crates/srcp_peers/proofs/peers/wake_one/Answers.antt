use Rattle.srcp_peers.proofs.OnePeerChanges.{woken_set}
use Rattle.srcp_peers.proofs.peers.wake_one.Goals as goal

pub returns : goal.returns
returns c =
    let x = c.index-peers-index.result in
    woken_set c.args.peers.now c.in-Some.index x c.wake.new.self c.args.ready c.in-Some.ensures.found.0 (c.in-Some.ensures.found.1 x)
    c.wake.ensures c.requires
