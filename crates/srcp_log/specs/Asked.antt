-- When nobody is accepted, or a fault is answered, though the system was not asked.
use Rattle.std.specs.Prelude.{⊤, ◌≡◌, ℕ, ◌==◌, ◌∷◌, ◌++◌, ◌-◌, ◌||◌, ◌&&◌, nat_le, Bool, true, false, List}
use Rattle.std.specs.Prelude.{filter_map, length, Option, Some, None, Result, Ok, Err}
use Rattle.std.specs.List.{list_any}
use Rattle.std.proofs.Props.{props}
use Rattle.srcp_info.specs.Limits.{greatest_id}
use Rattle.srcp_door.specs.Calls.{AcceptCall, peer_of}
use Rattle.srcp_door.specs.declared.door.DoorFault.{DoorFault}
use Rattle.srcp_peers.specs.Accounts.{Account, account, is_lingering}
use Rattle.srcp_peers.specs.Steps.{Answers, Step, calls}
use Rattle.srcp_peers.specs.Times.{times}
use Rattle.srcp_log.specs.Limits.{most_lingering, most_peers}

-- a list that has all such sockets
abbrev pub Covers : (is_such : Account → Bool) → List Step → List ℕ → Type 0
Covers is_such log sockets = (socket : ℕ) → is_such (account socket log) ≡ true
    → list_any (λ other. socket == other) sockets ≡ true

-- it lingers and was shut down, so it is owed nothing
abbrev pub is_shut_down : Account → Bool
is_shut_down a = is_lingering a && a.lingering.shut

-- there is no place, whatever lists have them: so many sockets were accepted and are not closed, or so many linger and
-- are owed nothing, that one more is the most. One of the most may have been closed just now to make a place
abbrev pub IsCrowded : List Step → Type 0
IsCrowded log = (kept shut : List ℕ) → Covers (λ a. a.lingering.kept) log kept → Covers is_shut_down log shut
    → (nat_le (most_peers - 1) (length kept) || nat_le (most_lingering - 1) (length shut)) ≡ true

-- nobody need be accepted: the system was asked since `accept` was answered last, or the listener was found quiet, or
-- there is no place
abbrev pub IsExcused : List Step → Type 0
IsExcused log = (wall start : ℕ) → (times wall start log).heard ≡ None → (account 0 log).received.quiet ≡ false
    → IsCrowded log

-- a fault may be answered: the system was asked since `accept` was answered last, or the numbers ran out, since as many
-- peers came as there are
abbrev pub MayFault : List Step → Type 0
MayFault log = (wall start : ℕ) → (times wall start log).heard ≡ None
    → length (filter_map peer_of (calls log)) ≡ greatest_id

-- `accept` may answer so
abbrev pub MayAnswer : List Step → Result (Option ℕ) DoorFault → Type 0
MayAnswer log (Ok None) = IsExcused log
MayAnswer log (Ok (Some number)) = ⊤
MayAnswer log (Err fault) = MayFault log

-- so it might each time
abbrev pub AreAsked : List Step → Type 0
AreAsked log = (before after : List Step) (answer : Result (Option ℕ) DoorFault)
    → log ≡ before ++ Answers (AcceptCall answer) ∷ after → MayAnswer before answer

MayAnswer-prop : (log : List Step) (answer : Result (Option ℕ) DoorFault) → IsProp (MayAnswer log answer)
MayAnswer-prop log (Ok None) = hlevel props
MayAnswer-prop log (Ok (Some number)) = hlevel props
MayAnswer-prop log (Err fault) = hlevel props

pub AreAsked-prop : (log : List Step) → IsProp (AreAsked log)
AreAsked-prop log = hlevel (props, MayAnswer-prop)
