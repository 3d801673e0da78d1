use Rattle.std.specs.Prelude.{◌≡◌, ℕ, ◌<◌, ◌≤◌, slice_index_or, take}
use Rattle.std.specs.List.{sum_by}
use Rattle.srcp_peers.specs.declared.peer.Peer.{Peer}
use Rattle.srcp_peers.specs.Steps.{GrowsBy}
use Rattle.srcp_peers.specs.Peers.{KeepsRest, OffersDue, calls_in, stay_after}
use Rattle.srcp_peers.proofs.OnePeerChanges.{CallsForEach}
use Rattle.srcp_peers.proofs.peers.flush.Given as goal

abbrev pub invariant-loop-peer : goal.invariant-loop-peer
invariant-loop-peer g l = record {
  each : CallsForEach l.fn.peers l.peers l.fn.system.log.steps l.system.log.steps;
  most : GrowsBy (sum_by (calls_in l.reads) (take l.peer-index l.fn.peers)) l.fn.system.log.steps l.system.log.steps;
  offered : (k : ℕ) (d : Peer) → k < l.peer-index
      → OffersDue l.fn.what (slice_index_or l.fn.peers k d) l.fn.system.log.steps l.system.log.steps;
  shut : (k : ℕ) (d : Peer) → k < l.peer-index → (let p = slice_index_or l.peers k d in
      p.stay ≡ stay_after (slice_index_or l.fn.peers k d).stay p.outgoing p.output);
  keeps : (k : ℕ) (d : Peer) → k < l.peer-index → KeepsRest (slice_index_or l.fn.peers k d) (slice_index_or l.peers k d);
  rest : (k : ℕ) (d : Peer) → l.peer-index ≤ k → slice_index_or l.peers k d ≡ slice_index_or l.fn.peers k d;
}
