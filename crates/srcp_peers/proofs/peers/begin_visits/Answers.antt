use Rattle.std.proofs.Common.{◌≡◌, ap, arith}
use Rattle.srcp_peers.specs.Ends.{begun}
use Rattle.srcp_peers.specs.Peers.{IsShared, is_over}
use Rattle.srcp_door.specs.declared.pacing.Share.{Share}
use Rattle.srcp_peers.specs.declared.peer.Peer.{Peer}
use Rattle.srcp_peers.proofs.OnePeerChanges.{calls_next, set_each, set_read, set_rest}
use Rattle.srcp_peers.proofs.peers.begin_visits.Goals as goal

pub loop-peer-preserved : goal.loop-peer-preserved
loop-peer-preserved g c =
    let first = c.args.peers.now in
    let peers = c.loop-peer.peers in
    let i = c.loop-peer.peer-index in
    let d = c.peer-item.result in
    let was = c.loop-peer.invariant in
    let old = c.loop-peer.system.log.steps in
    let new = c.begin_visit.new.system.log.steps in
    let p = c.begin_visit.new.self in
    let one = c.begin_visit.ensures in
    record {
      each = calls_next first peers i d p (omega arith) c.loop-peer.auto.peers was.each one.alone;
      most = omega (arith, was.most, one.alone.most);
      read = set_read old new peers i d p (omega arith) was.each.apart one.alone.number one.alone.others one.read was.read;
      shared = set_each (IsShared c.args.anew) first peers i d p (omega arith)
          (ap (λ (s : Share). s.rest) one.share, ap (λ (x : Peer). x.served) one.same) was.rest was.shared;
      lines_left = set_each (λ (x y : Peer). y.lines_left ≡ c.args.lines_left) first peers i d p (omega arith) (cc) was.rest
          was.lines_left;
      begun = set_each (λ (x y : Peer). (y.stay ≡ x.stay) × (y.ending ≡ begun x.ending (is_over y.incoming y.input)))
          first peers i d p (omega arith) (one.stay, one.ending) was.rest was.begun;
      rest = set_rest first peers i p was.rest;
    }
