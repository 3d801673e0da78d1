use Rattle.std.proofs.Common.{◌≡◌, arith, get_or}
use Rattle.srcp_peers.specs.declared.peer.Peer.{Peer}
use Rattle.srcp_peers.proofs.OnePeerChanges.{calls_next, set_each, set_rest}
use Rattle.srcp_peers.proofs.QueuedIsOffered.{set_offered}
use Rattle.srcp_peers.proofs.StepsAreCounted.{grows_flush, grows_peer}
use Rattle.srcp_peers.specs.Peers.{KeepsRest, calls_in, stay_after}
use Rattle.srcp_peers.proofs.peers.flush.Goals as goal

pub loop-peer-preserved : goal.loop-peer-preserved
loop-peer-preserved g c =
    let first = c.args.peers.now in
    let peers = c.loop-peer.peers in
    let i = c.loop-peer.peer-index in
    let d = c.peer-item.result in
    let was = c.loop-peer.invariant in
    let begin = c.args.system.now.log.steps in
    let old = c.loop-peer.system.log.steps in
    let new = c.flush_or_linger.new.system.log.steps in
    let p = c.flush_or_linger.new.self in
    let one = c.flush_or_linger.ensures in
    record {
      each = calls_next first peers i d p (omega arith) c.loop-peer.auto.peers was.each one.alone;
      most = grows_peer (calls_in c.reads_each-reads.result) first i (get_or peers i d) d begin old new (omega arith)
          (was.rest i d (omega arith)) was.most one.alone.most;
      offered = set_offered begin old new c.args.what first peers i d (omega arith) was.rest was.each.calls one.alone.calls
          one.offered was.offered;
      shut = set_each (λ (x y : Peer). y.stay ≡ stay_after x.stay y.outgoing y.output) first peers i d p (omega arith) one.stay
          was.rest was.shut;
      keeps = set_each KeepsRest first peers i d p (omega arith) one.keeps was.rest was.keeps;
      rest = set_rest first peers i p was.rest;
    }

pub returns-clause-most : goal.returns-clause-most
returns-clause-most g c = grows_flush c.args.peers.now c.loop-peer.peer-index c.args.system.now.log.steps c.loop-peer.system.log.steps
    (rw (← c.reads_each-reads.ensures) c.loop-peer.invariant.most)
