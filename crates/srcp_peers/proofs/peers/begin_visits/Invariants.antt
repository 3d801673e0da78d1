use Rattle.std.specs.Prelude.{◌≡◌, ℕ, ◌<◌, ◌≤◌, slice_index_or}
use Rattle.srcp_peers.specs.declared.peer.Peer.{Peer}
use Rattle.srcp_peers.specs.Steps.{GrowsBy}
use Rattle.srcp_peers.specs.Ends.{begun}
use Rattle.srcp_peers.specs.Peers.{IsShared, IsRead, is_over}
use Rattle.srcp_peers.proofs.OnePeerChanges.{CallsForEach}
use Rattle.srcp_peers.proofs.peers.begin_visits.Given as goal

abbrev pub invariant-loop-peer : goal.invariant-loop-peer
invariant-loop-peer g l = record {
  each : CallsForEach l.fn.peers l.peers l.fn.system.log.steps l.system.log.steps;
  most : GrowsBy l.peer-index l.fn.system.log.steps l.system.log.steps;
  read : (k : ℕ) (d : Peer) → k < l.peer-index → IsRead l.system.log.steps (slice_index_or l.peers k d).number;
  shared : (k : ℕ) (d : Peer) → k < l.peer-index
      → IsShared l.anew (slice_index_or l.fn.peers k d) (slice_index_or l.peers k d);
  lines_left : (k : ℕ) (d : Peer) → k < l.peer-index → (slice_index_or l.peers k d).lines_left ≡ l.lines_left;
  begun : (k : ℕ) (d : Peer) → k < l.peer-index → (let p = slice_index_or l.peers k d in
      (p.stay ≡ (slice_index_or l.fn.peers k d).stay)
      × (p.ending ≡ begun (slice_index_or l.fn.peers k d).ending (is_over p.incoming p.input)));
  rest : (k : ℕ) (d : Peer) → l.peer-index ≤ k → slice_index_or l.peers k d ≡ slice_index_or l.fn.peers k d;
}
