use Rattle.std.proofs.Common.{ℕ, ◌<◌, ◌≡◌}
use Rattle.std.specs.Prelude.{false, slice_index_or}
use Rattle.srcp_peers.specs.declared.peer.Peer.{Peer}
use Rattle.srcp_peers.specs.Peers.{is_here}
use Rattle.srcp_sockets.proofs.sockets.Sockets.find.Given as goal

abbrev pub invariant-loop-index : goal.invariant-loop-index
invariant-loop-index g l = (k : ℕ) (d : Peer) → k < l.index → (slice_index_or l.self.peers.items k d).number ≡ l.number
    → is_here (slice_index_or l.self.peers.items k d).stay ≡ false
