-- What holds of all sockets of a door.
use Rattle.std.specs.Prelude.{◌≡◌, ℕ, ◌<◌, ◌&&◌, Bool, true, false, not, List, [], length, slice_index_or}
use Rattle.std.specs.Io.{StartsWith}
use Rattle.std.specs.List.{list_any}
use Rattle.srcp_peers.specs.declared.peer.Peer.{Peer}
use Rattle.srcp_peers.specs.declared.readiness.Flush.{Flush}
use Rattle.srcp_peers.specs.declared.stay.Stay.TheVariants as stay
use Rattle.srcp_peers.specs.declared.turn.Turn.{Turn}
use Rattle.srcp_peers.specs.declared.turn.Listening.{Listening}
use Rattle.srcp_peers.specs.declared.turn.Listening.TheVariants as listening
use Rattle.srcp_peers.specs.Steps.{Step}
use Rattle.srcp_peers.specs.Accounts.{Account, account}
use Rattle.srcp_peers.specs.Peers.{IsRead, holds_input, is_here}
use Rattle.srcp_peers.specs.Turns.{flushing, has_ticked}
use Rattle.srcp_peers.specs.AllPeers.{AreKept, AreApart, AreWithin, IsAbsent}

-- ---- the peers that are there

-- one of them has this socket
pub record IsThere (socket : ℕ) (peers : List Peer) : Type 0 where
  pub index : ℕ
  pub within : index < length peers
  pub same : (d : Peer) → (slice_index_or peers index d).number ≡ socket

-- it has this socket, and is there
abbrev pub IsPresent : ℕ → Peer → Type 0
IsPresent socket p = (p.number ≡ socket) × (p.stay ≡ stay.Here)

-- none is there that has this socket
abbrev pub IsMissing : ℕ → List Peer → Type 0
IsMissing socket peers = (k : ℕ) (d : Peer) → k < length peers → (slice_index_or peers k d).number ≡ socket
    → is_here (slice_index_or peers k d).stay ≡ false

-- ---- each socket that ever was

-- what is to hold of a socket: it took a prefix of what the door said it took for its peer; what the door handed out
-- is a prefix of what it gave; its end was reported only after a read had found it; each long wait found it at rest;
-- and it was shut down and closed only when it might be
pub record Sound (a : Account) : Type 0 where
  pub took : StartsWith a.sent.written a.sent.took
  pub handed : StartsWith a.received.gave a.received.handed
  pub honest : a.honest ≡ true
  pub rested : a.rested ≡ true
  pub rightly : a.lingering.rightly ≡ true
  pub served : a.served ≡ true

abbrev pub AreSound : List Step → Type 0
AreSound log = (socket : ℕ) → Sound (account socket log)

-- nothing was given to it or came of it
pub record Fresh (a : Account) : Type 0 where
  pub written : a.sent.written ≡ []
  pub took : a.sent.took ≡ []
  pub gave : a.received.gave ≡ []
  pub handed : a.received.handed ≡ []

-- so it is for all numbers that no socket had
abbrev pub AreFresh : List Step → ℕ → Type 0
AreFresh log last = (socket : ℕ) → last < socket → Fresh (account socket log)

-- it is neither there nor kept
pub record Closed (a : Account) : Type 0 where
  pub watched : a.watched ≡ false
  pub kept : a.lingering.kept ≡ false

-- so it is for all of which no peer is kept
abbrev pub AreClosed : List Step → List Peer → Type 0
AreClosed log peers = (socket : ℕ) → IsAbsent socket peers → Closed (account socket log)

-- ---- who is read

abbrev pub AreRead : List Step → Type 0
AreRead log = (socket : ℕ) → IsRead log socket

-- ---- what a turn flushes

-- a turn goes on with held input until the clock goes on
abbrev pub flushed_in : Turn → List Peer → Flush
flushed_in turn peers = flushing (has_ticked turn) (not (has_ticked turn) && list_any holds_input peers) turn

-- ---- the listener

-- no connection is pending, for all that is known
abbrev pub is_quiet : Listening → Bool
is_quiet listening.Ready = false
is_quiet listening.BackingOff = false
is_quiet listening.Quiet = true

pub record Hears (a : Account) (listening : Listening) : Type 0 where
  pub fresh : Fresh a
  pub lost : a.sent.lost ≡ false
  pub cut : a.sent.cut ≡ false
  pub ended : a.received.ended ≡ false
  pub failed : a.received.failed ≡ false
  pub heard : a.received.quiet ≡ is_quiet listening

-- ---- a door

pub record Stands (log : List Step) (peers : List Peer) (listening : Listening) (last : ℕ) : Type 0 where
  pub kept : AreKept log peers
  pub apart : AreApart peers
  pub within : AreWithin last peers
  pub sound : AreSound log
  pub fresh : AreFresh log last
  pub closed : AreClosed log peers
  pub heard : Hears (account 0 log) listening

-- so it is whatever the listener said, and however many peers came
abbrev pub AreStanding : List Step → List Peer → Type 0
AreStanding log peers = (listening : Listening) × (last : ℕ) × Stands log peers listening last
