-- Whom the door served when, and whose turn it is.
use Rattle.std.specs.Prelude.{◌≡◌, ◌≢◌, ℕ, ◌+◌, ◌<◌, ◌≤◌, ◌==◌, Bool, true, false, All, cond, min, List, ◌∷◌, ◌++◌}
use Rattle.std.specs.Prelude.{fold, length, Option, Some, None, Result, Ok}
use Rattle.std.specs.List.{list_any}
use Rattle.srcp_info.specs.Limits.{greatest_u64}
use Rattle.srcp_door.specs.Calls.{Call, AcceptCall, ReadCall}
use Rattle.srcp_door.specs.Pacing.{is_short_pace, weight_of}
use Rattle.srcp_door.specs.declared.door.DoorFault.{DoorFault}
use Rattle.srcp_door.specs.declared.door.Got.{Got}
use Rattle.srcp_door.specs.declared.door.Got.TheVariants as got
use Rattle.srcp_peers.specs.declared.peer.Peer.{Peer}
use Rattle.srcp_peers.specs.Accounts.{account}
use Rattle.srcp_peers.specs.Peers.{KeepsShare}
use Rattle.srcp_peers.specs.Steps.{Answers, Step, calls}
use Rattle.srcp_peers.specs.Times.{times}
use Rattle.srcp_peers.specs.Turns.{got_bytes}
use Rattle.srcp_log.specs.Duties.{takes_input}
use Rattle.srcp_log.specs.Work.{IsFrom}

-- the peer that a call serves: one that came, or of which input was handed out
abbrev pub serves : Call → Option ℕ
serves (AcceptCall (Ok peer)) = peer
serves (ReadCall peer answer buffer) = cond (length (got_bytes answer buffer) == 0) None (Some peer)
serves other = None

-- how many services there were, and the number of a socket's last one, counted from 1; 0 if there was none
pub record Services : Type 0 where
  pub count : ℕ
  pub last : ℕ

abbrev pub served : (socket : ℕ) → Services → Option ℕ → Services
served socket s None = s
served socket s (Some peer) = record { count = s.count + 1; last = cond (peer == socket) (s.count + 1) s.last }

abbrev pub services : (socket : ℕ) → List Call → Services
services socket calls = fold (λ s call. served socket s (serves call)) (record { count = 0; last = 0 }) calls

-- the number of a socket's last service
abbrev pub last_service : (socket : ℕ) → List Step → ℕ
last_service socket log = (services socket (calls log)).last

-- fewer services were made than a number can count
abbrev pub IsCountable : List Step → Type 0
IsCountable log = (services 0 (calls log)).count < greatest_u64

-- ---- whose turn it is

-- lines that weigh something are handed out while not every line may go: then the door holds input of no peer that was
-- served longer ago
abbrev pub IsInTurn : (wall start : ℕ) → List Step → (who : ℕ) → Result Got DoorFault → (buffer : List ℕ) → Type 0
IsInTurn wall start log who answer buffer = IsCountable log → is_short_pace (times wall start log).turn.pace ≡ true
    → 0 < weight_of ((times wall start log).lines who) (got_bytes answer buffer)
    → (other : ℕ) → takes_input (account other log) ≡ true → last_service who log ≤ last_service other log

-- each read was such, by the steps before it
abbrev pub EachRead : (IsSuch : List Step → ℕ → Result Got DoorFault → List ℕ → Type 0) → List Step → Type 0
EachRead IsSuch log = (before after : List Step) (who : ℕ) (answer : Result Got DoorFault) (buffer : List ℕ)
    → log ≡ before ++ Answers (ReadCall who answer buffer) ∷ after → IsSuch before who answer buffer

abbrev pub AreInTurn : (wall start : ℕ) → List Step → Type 0
AreInTurn wall start log = EachRead (IsInTurn wall start) log

-- among these calls is a service of that socket
abbrev pub is_of : (socket : ℕ) → Option ℕ → Bool
is_of socket None = false
is_of socket (Some peer) = peer == socket

abbrev pub is_served : (socket : ℕ) → List Call → Bool
is_served socket calls = list_any (λ call. is_of socket (serves call)) calls

-- between two services of one peer, the later of lines that weigh something while not every line may go, each other
-- peer of which the door then holds input was served
abbrev pub NobodyStarves : (wall start : ℕ) → List Step → Type 0
NobodyStarves wall start log = (before mid after : List Step) (who other : ℕ) (first second : Result Got DoorFault)
    (one two : List ℕ)
    → log ≡ before ++ Answers (ReadCall who first one) ∷ (mid ++ Answers (ReadCall who second two) ∷ after)
    → serves (ReadCall who first one) ≡ Some who
    → (let then = before ++ Answers (ReadCall who first one) ∷ mid in
    IsCountable then → is_short_pace (times wall start then).turn.pace ≡ true
    → 0 < weight_of ((times wall start then).lines who) (got_bytes second two)
    → other ≢ who → takes_input (account other then) ≡ true → is_served other (calls mid) ≡ true)

-- ---- a door

-- how many services a door counted after one more
abbrev pub one_more_service : ℕ → ℕ
one_more_service made = min (made + 1) greatest_u64

abbrev pub made_by : Option ℕ → (made : ℕ) → ℕ
made_by None made = made
made_by (Some peer) made = one_more_service made

-- and after a call
abbrev pub made_after : Call → (made : ℕ) → ℕ
made_after call made = made_by (serves call) made

-- the number of a peer's last service after input of the peer `who` was handed out, as the service with the number
-- `made`
abbrev pub served_in : (who : ℕ) (handed : List ℕ) (made : ℕ) → Peer → ℕ
served_in who handed made p = cond (p.number == who) (cond (length handed == 0) p.served made) p.served

-- what a read leaves of a peer
abbrev pub AfterRead : (who : ℕ) (handed : List ℕ) (made : ℕ) → (was p : Peer) → Type 0
AfterRead who handed made was p = (p.number ≢ who → KeepsShare was p) × (p.served ≡ served_in who handed made was)

-- a read handed out input
abbrev pub hands_bytes : Result Got DoorFault → Bool
hands_bytes (Ok (got.Bytes count)) = true
hands_bytes other = false

-- a peer was served by the call, as the last one so far, or was there and keeps its number
abbrev pub IsOrdered : Call → (made : ℕ) → List Peer → Peer → Type 0
IsOrdered call made peers p = (serves call ≡ Some p.number → p.served ≡ made)
    × (serves call ≢ Some p.number → IsFrom (λ was q. q.served ≡ was.served) peers p)

-- the door counts its services, and knows of each peer which was its last
pub record AreCounted (log : List Step) (made : ℕ) (peers : List Peer) : Type 0 where
  pub count : (socket : ℕ) → made ≡ min (services socket (calls log)).count greatest_u64
  pub last : All (λ peer. peer.served ≡ min (last_service peer.number log) greatest_u64) peers
