use Rattle.std.proofs.Common.{◌≡◌, ℕ, ◌<◌}
use Rattle.std.specs.Prelude.{fold, length, slice_index_or, take}
use Rattle.srcp_peers.specs.declared.peer.Peer.{Peer}
use Rattle.srcp_peers.specs.AllPeers.{AreApart}
use Rattle.srcp_peers.specs.Peers.{after_wake}
use Rattle.srcp_peers.proofs.peers.wake.Given as goal

abbrev pub invariant-loop-one : goal.invariant-loop-one
invariant-loop-one l = record {
  apart : AreApart l.peers;
  woken : (k : ℕ) (d : Peer) → k < length l.fn.peers
      → slice_index_or l.peers k d ≡ fold after_wake (slice_index_or l.fn.peers k d) (take l.one-index l.ready);
}
