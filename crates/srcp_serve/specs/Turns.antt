-- Which calls a turn makes, whatever the core decides: what to expect, the time, one accept, then calls about peers.
use Rattle.std.specs.Prelude.{⊤, ◌≡◌, ℕ, Bool, true, false, List, [], ◌∷◌, length, flat_map, Some}
use Rattle.std.specs.List.{list_all, AllByRecursion}
use Rattle.srcp_door.specs.Calls.{Call, Trace, ExpectCall, NowCall, AcceptCall, ReadCall, WriteCall, CloseCall, Adds}
use Rattle.srcp_door.specs.Calls.{IsFair, turns}

-- the call is about a peer
abbrev pub is_of_peer : Call → Bool
is_of_peer (ReadCall peer answer buffer) = true
is_of_peer (WriteCall peer bytes answer) = true
is_of_peer (CloseCall peer answer) = true
is_of_peer other = false

-- if the door keeps its calls, it added calls that are so
abbrev pub Asks : (Are : List Call → Type 0) → (old new : Trace) → Type 0
Asks Are old new = (trace : List Call) → new ≡ Some trace → (calls : List Call) × Adds old trace calls × Are calls

-- all calls are about peers, and each answer is one that the door may give
pub record AreAboutPeers (calls : List Call) : Type 0 where
  pub peers : list_all is_of_peer calls ≡ true
  pub fair : AllByRecursion IsFair calls

-- the door is told what to expect and asked for the time
abbrev pub AreMoment : List Call → Type 0
AreMoment (ExpectCall due slack ∷ NowCall answer ∷ []) = ⊤
AreMoment other = ⊥

-- the door is asked to accept one peer, and after that at most about peers
abbrev pub AreAccept : List Call → Type 0
AreAccept (AcceptCall answer ∷ calls) = AreAboutPeers calls
AreAccept other = ⊥

-- the calls of a turn
abbrev pub IsTurn : List Call → Type 0
IsTurn (ExpectCall due slack ∷ NowCall answer ∷ calls) = AreAccept calls
IsTurn other = ⊥

-- the calls are those of exactly this many turns; so each answer is one that the door may give
pub record AreTurns (count : ℕ) (calls : List Call) : Type 0 where
  pub many : length (turns calls) ≡ count
  pub each : AllByRecursion IsTurn (turns calls)
  pub all : flat_map (λ turn. turn) (turns calls) ≡ calls
