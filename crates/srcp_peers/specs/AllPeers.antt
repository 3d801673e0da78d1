-- What holds of all peers of a door.
use Rattle.std.specs.Prelude.{◌≡◌, ◌≢◌, ℕ, ◌<◌, ◌≤◌, Bool, List, length, slice_index_or}
use Rattle.srcp_peers.specs.declared.peer.Peer.{Peer}
use Rattle.srcp_peers.specs.Steps.{Step}
use Rattle.srcp_peers.specs.declared.readiness.Flush.{Flush}
use Rattle.srcp_peers.specs.Ends.{begun}
use Rattle.srcp_peers.specs.Peers.{IsKept, IsShared, KeepsRest, OffersDue, is_over, stay_after}

-- each is what its account says
abbrev pub AreKept : List Step → List Peer → Type 0
AreKept log peers = (k : ℕ) (d : Peer) → k < length peers → IsKept log (slice_index_or peers k d)

-- no two have one socket
abbrev pub AreApart : List Peer → Type 0
AreApart peers = (j k : ℕ) (d : Peer) → j < length peers → k < length peers → j ≢ k
    → (slice_index_or peers j d).number ≢ (slice_index_or peers k d).number

-- their sockets are numbered from 1 on
abbrev pub AreWithin : ℕ → List Peer → Type 0
AreWithin last peers = (k : ℕ) (d : Peer) → k < length peers → (0 < (slice_index_or peers k d).number)
    × ((slice_index_or peers k d).number ≤ last)

-- none has this socket
abbrev pub IsAbsent : ℕ → List Peer → Type 0
IsAbsent socket peers = (k : ℕ) (d : Peer) → k < length peers → (slice_index_or peers k d).number ≢ socket

-- they are the same peers
abbrev pub AreThose : List Peer → List Peer → Type 0
AreThose old new = (k : ℕ) (d : Peer) → k < length old → (slice_index_or new k d).number
    ≡ (slice_index_or old k d).number

-- the share of each is given anew, or is what was left of it
abbrev pub AreShared : (anew : Bool) → (old new : List Peer) → Type 0
AreShared anew old new = (k : ℕ) (d : Peer) → k < length old
    → IsShared anew (slice_index_or old k d) (slice_index_or new k d)

-- a turn that flushes `what` offers the socket of each what is queued for it, if that is flushed
abbrev pub AreOffered : Flush → List Peer → (old new : List Step) → Type 0
AreOffered what peers old new = (k : ℕ) (d : Peer) → k < length peers
    → OffersDue what (slice_index_or peers k d) old new

-- each that lingers is shut down once its socket took all
abbrev pub AreShutDown : (old new : List Peer) → Type 0
AreShutDown old new = (k : ℕ) (d : Peer) → k < length old
    → (let p = slice_index_or new k d in p.stay ≡ stay_after (slice_index_or old k d).stay p.outgoing p.output)

-- each keeps what a flush leaves
abbrev pub AllKeepRest : (old new : List Peer) → Type 0
AllKeepRest old new = (k : ℕ) (d : Peer) → k < length old → KeepsRest (slice_index_or old k d) (slice_index_or new k d)

-- each stays, and goes on on that way as a visit begins
abbrev pub AreBegun : (old new : List Peer) → Type 0
AreBegun old new = (k : ℕ) (d : Peer) → k < length old
    → (let p = slice_index_or new k d in (p.stay ≡ (slice_index_or old k d).stay)
    × (p.ending ≡ begun (slice_index_or old k d).ending (is_over p.incoming p.input)))
