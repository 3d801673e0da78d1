-- What a door does in a turn, whatever it answers.
use Rattle.std.specs.Prelude.{◌≡◌, ◌⊎◌, ℕ, ◌<◌, ◌∷◌, ◌++◌, Bool, true, false, ◌&&◌, ◌||◌, not, nat_le, List, []}
use Rattle.std.specs.Prelude.{All, Any, filter, fold, length, position, slice_index_or, take, Option, Some, None}
use Rattle.std.specs.Prelude.{Result, Ok, Err}
use Rattle.std.specs.List.{list_any}
use Rattle.std.specs.declared.io.ErrorKind.{ErrorKind}
use Rattle.srcp_door.specs.Calls.{AcceptCall, NowCall}
use Rattle.srcp_door.specs.declared.door.DoorFault.{DoorFault}
use Rattle.srcp_door.specs.declared.door.DoorFault.TheVariants as fault
use Rattle.srcp_door.specs.declared.door.Got.{Got}
use Rattle.srcp_door.specs.Pacing.{is_short_pace, share_after}
use Rattle.srcp_peers.specs.declared.peer.Peer.{Peer}
use Rattle.srcp_peers.specs.declared.system.Ready.{Ready}
use Rattle.srcp_peers.specs.declared.turn.Listening.{Listening}
use Rattle.srcp_peers.specs.declared.turn.Listening.TheVariants as listening
use Rattle.srcp_peers.specs.declared.turn.Turn.{Turn}
use Rattle.srcp_peers.specs.Listeners.{listening_after_failure, woken_listening}
use Rattle.srcp_peers.specs.Peers.{KeepsRest, Makes, enqueued, holds_input, is_gone, is_shut}
use Rattle.srcp_peers.specs.Peers.{is_turn_before}
use Rattle.srcp_peers.specs.Reports.{IsAnswered}
use Rattle.srcp_peers.specs.Steps.{Accepts, Answers, Clocks, Closes, SaysNothing, Step, Waits, failure_of}
use Rattle.srcp_peers.specs.Times.{accept_answer}
use Rattle.srcp_peers.specs.Turns.{has_ticked, moment_at}
use Rattle.srcp_peers.specs.Waiting.{longest_wait}
use Rattle.srcp_log.specs.Doors.{AreStanding, IsPresent, is_quiet}
use Rattle.srcp_log.specs.Limits.{most_lingering, most_peers}

-- ---- who is closed

-- a socket is closed
abbrev pub is_close : Step → Bool
is_close (Closes who) = true
is_close other = false

-- of those that linger nobody is left for whom nothing is left to do, or as many sockets as may linger were closed
abbrev pub AreClosedUp : (clock : ℕ) → List Peer → (old new : List Step) → Type 0
AreClosedUp clock peers old new = (position (is_gone clock) peers ≡ None) ⊎ Makes is_close most_lingering old new

-- ---- what the peers keep

-- it was one of these, which its number says, and became what it is so
abbrev pub IsFrom : (Holds : (old new : Peer) → Type 0) → List Peer → Peer → Type 0
IsFrom Holds old p = Any (λ was. (p.number ≡ was.number) × Holds was p) old

-- each was one of those
abbrev pub AreFrom : (Holds : (old new : Peer) → Type 0) → (old new : List Peer) → Type 0
AreFrom Holds old new = All (IsFrom Holds old) new

-- ---- when the door waits, and what time it is

-- the turn goes on with held input, and does not wait: the clock did not go on since the turn before
abbrev pub goes_on : Turn → List Peer → Bool
goes_on turn peers = not (has_ticked turn) && list_any holds_input peers

-- the step that came is a wait of that length, and the listener is heard as that found it
abbrev pub IsWaiting : (most : Option ℕ) → (before after : Listening) → (old new : List Step) → Type 0
IsWaiting most before after old new = (count : ℕ) × (ready : List Ready) × (new ≡ old ++ Waits most count ready ∷ [])
    × (after ≡ fold woken_listening before (take count ready))

-- among the steps that came is such a wait. Its length follows of the peers that were left of the first ones: each was
-- flushed, and some were closed
pub record WaitsAmong (turn : Turn) (most : Option ℕ) (before after : Listening) (first : List Peer)
    (old new : List Step) : Type 0 where
  pub peers : List Peer  -- those that were left
  pub log : List Step  -- the steps before the wait
  pub later : List Step  -- those steps, and the wait
  pub left : AreFrom KeepsRest first peers
  pub stands : AreStanding log peers
  pub begins : SaysNothing old log
  pub waits : IsWaiting (longest_wait peers before turn most) before after log later
  pub ends : SaysNothing later new

-- the moment that is reported, if the clock shows this
abbrev pub moment_of : Turn → (shown : Option ℕ) → Result ℕ DoorFault
moment_of turn None = Err fault.Now
moment_of turn (Some time) = Ok (moment_at turn time)

-- the steps that came are a look at the clock, and the moment that follows of it
abbrev pub IsClocked : Turn → Result ℕ DoorFault → (old new : List Step) → Type 0
IsClocked turn answer old new = (shown : Option ℕ) × (answer ≡ moment_of turn shown)
    × (new ≡ old ++ Clocks shown ∷ Answers (NowCall answer) ∷ [])

-- ---- who is accepted

-- one that lingers has to be closed first: there is no place for one more, or as many as may linger are owed nothing
abbrev pub is_crowded : List Peer → Bool
is_crowded peers = nat_le most_peers (length peers)
    || nat_le most_lingering (length (filter (λ peer. is_shut peer.stay) peers))

-- how the listener is heard after an accept of the system that answered so
abbrev pub after_accept : Listening → Result Unit ErrorKind → Listening
after_accept heard (Ok done) = heard
after_accept heard (Err fault) = listening_after_failure (failure_of fault)

-- the steps that came are an accept of the system under that number, and the answer that follows of it; the listener is
-- heard as the system answered
abbrev pub IsAccepting : (number : ℕ) → Result (Option ℕ) DoorFault → (before after : Listening) → (old new : List Step)
    → Type 0
IsAccepting number answer before after old new = (said : Result Unit ErrorKind)
    × (answer ≡ accept_answer number said) × (after ≡ after_accept before said)
    × (new ≡ old ++ Accepts number said ∷ Answers (AcceptCall answer) ∷ [])

-- the number of the last peer that came, after an accept that answered so
abbrev pub last_after : (last : ℕ) → Result (Option ℕ) DoorFault → ℕ
last_after last (Ok (Some number)) = number
last_after last other = last

-- the next pending connection may be accepted
abbrev pub may_accept : Listening → List Peer → Bool
may_accept heard peers = not (is_quiet heard) && not (is_crowded peers)

-- a place is made: the first peer that lingers and is owed nothing is closed. Without one the listener rests
pub record FreesPlace (peers : List Peer) (before after : Listening) (old new : List Step) : Type 0 where
  pub none : position (λ peer. is_shut peer.stay) peers ≡ None → after ≡ listening.BackingOff
  pub one : (index : ℕ) → position (λ peer. is_shut peer.stay) peers ≡ Some index
      → (after ≡ before) × Makes is_close 1 old new

-- ---- who is read

-- its lines go behind those of others: not every line may go, and input is held of a peer that was served longer ago
abbrev pub goes_behind : Turn → List Peer → Peer → Bool
goes_behind turn peers p = is_short_pace turn.pace && list_any (is_turn_before p.served) peers

-- the read of a peer that is there answered what that peer's read answers. What is left of the peer's share follows
abbrev pub IsPeerRead : Turn → (peers later : List Peer) → (number space : ℕ) → Result Got DoorFault
    → (handed : List ℕ) → Type 0
IsPeerRead turn peers later number space answer handed = (k : ℕ) (d : Peer) → k < length peers
    → IsPresent number (slice_index_or peers k d)
    → (let p = slice_index_or peers k d in
    IsAnswered turn (goes_behind turn peers p) p space answer handed
    × ((slice_index_or later k d).share ≡ share_after turn.pace p.share handed))

-- ---- who is written

-- for a peer that is there so many bytes were taken as that peer's write takes
abbrev pub IsPeerWritten : List Peer → (number : ℕ) → (bytes : List ℕ) → Result ℕ DoorFault → Type 0
IsPeerWritten peers number bytes answer = (k : ℕ) (d : Peer) → k < length peers
    → IsPresent number (slice_index_or peers k d) → answer ≡ Ok (enqueued (slice_index_or peers k d) bytes)
