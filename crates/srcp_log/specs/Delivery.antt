-- When a door ends: what its sockets took of what is queued.
use Rattle.std.specs.Prelude.{◌≡◌, ◌⊎◌, ℕ, ◌+◌, ◌<◌, ◌==◌, ◌&&◌, ◌∷◌, ◌++◌, nat_le, Bool, true, false, List, [], length}
use Rattle.std.specs.Prelude.{min, slice_index_or, Option, Some, None}
use Rattle.std.specs.List.{list_all}
use Rattle.srcp_info.specs.Limits.{greatest_u64}
use Rattle.srcp_peers.specs.declared.peer.Peer.{Peer}
use Rattle.srcp_peers.specs.Accounts.{account, is_owed}
use Rattle.srcp_peers.specs.Limits.{linger, retry_delay}
use Rattle.srcp_log.specs.Limits.{most_last_waits, most_ready}
use Rattle.srcp_peers.specs.Steps.{Clocks, Step, Waits}
use Rattle.srcp_peers.specs.Times.{times}

-- the socket of each of these peers took all that was taken for it, or a write found that it takes no more
abbrev pub AreDelivered : List Step → List Peer → Type 0
AreDelivered log peers = (k : ℕ) (d : Peer) → k < length peers
    → (let a = account (slice_index_or peers k d).number log in (is_owed a.sent ≡ false) ⊎ (a.sent.lost ≡ true))

-- so did each socket that was accepted and is not closed
abbrev pub IsAllDelivered : List Step → Type 0
IsAllDelivered log = (socket : ℕ) → (account socket log).lingering.kept ≡ true
    → (is_owed (account socket log).sent ≡ false) ⊎ ((account socket log).sent.lost ≡ true)

-- the time of the clock until which is delivered at most, if it showed this: as long as a peer lingers
abbrev pub linger_end : (clock : ℕ) → ℕ
linger_end clock = min (clock + linger) greatest_u64

-- a clock that shows that time or a later one, or cannot be read
abbrev pub is_over : (until : ℕ) → Option ℕ → Bool
is_over until (Some now) = nat_le until now
is_over until None = true

-- the step that came last found it so
abbrev pub IsOver : (until : ℕ) → List Step → Type 0
IsOver until log = (before : List Step) × (answer : Option ℕ) × (log ≡ before ++ Clocks answer ∷ [])
    × (is_over until answer ≡ true)

-- `count` waits were made
abbrev pub HasWaited : (count : ℕ) (old new : List Step) → Type 0
HasWaited count old new = (wall start : ℕ) → (times wall start new).waits ≡ (times wall start old).waits + count

-- if it is a wait, it is one for as long as the retry delay, that can find as many sockets ready as may be at once
abbrev pub is_last_wait : Step → Bool
is_last_wait (Waits (Some most) count ready) = (most == retry_delay) && (length ready == most_ready)
is_last_wait (Waits None count ready) = false
is_last_wait other = true

-- each wait that came is such
abbrev pub HasLooked : (old new : List Step) → Type 0
HasLooked old new = (came : List Step) × (new ≡ old ++ came) × (list_all is_last_wait came ≡ true)

-- these peers are delivered, or the time is over, or a million waits were made
abbrev pub HaveEnded : (until : ℕ) (old new : List Step) → List Peer → Type 0
HaveEnded until old new peers = AreDelivered new peers ⊎ (IsOver until new ⊎ HasWaited most_last_waits old new)

-- every socket is delivered, or the time is over, or a million waits were made
abbrev pub HasEnded : (until : ℕ) (old new : List Step) → Type 0
HasEnded until old new = IsAllDelivered new ⊎ (IsOver until new ⊎ HasWaited most_last_waits old new)
