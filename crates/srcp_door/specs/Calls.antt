-- What a door is asked, and what it answers.
use Rattle.std.specs.Prelude.{⊤, ◌≡◌, ℕ, ◌+◌, ◌<◌, ◌≤◌, ◌==◌, Bool, true, false, not, if◌then◌else◌, min, List, [], ◌∷◌}
use Rattle.std.specs.Prelude.{◌++◌, length, filter_map, Option, Some, None, IfSome, Result, Ok}
use Rattle.std.specs.List.{take_while, IsDistinct}
use Rattle.srcp_info.specs.Limits.{greatest_u64}
use Rattle.srcp_door.specs.declared.door.DoorFault.{DoorFault}
use Rattle.srcp_door.specs.declared.door.Got.{Got}
use Rattle.srcp_door.specs.declared.door.Got.TheVariants as got

-- a call of a door with its answer; a write has the bytes that it was handed, a read the buffer as it is afterwards
pub data Call : Type 0 where
  ExpectCall : (due slack : Option ℕ) → Call
  NowCall : (answer : Result ℕ DoorFault) → Call
  AcceptCall : (answer : Result (Option ℕ) DoorFault) → Call
  ReadCall : (peer : ℕ) (answer : Result Got DoorFault) (buffer : List ℕ) → Call
  WriteCall : (peer : ℕ) (bytes : List ℕ) (answer : Result ℕ DoorFault) → Call
  CloseCall : (peer : ℕ) (answer : Result Unit DoorFault) → Call

-- a count of failures after one more
abbrev pub one_more : ℕ → ℕ
one_more n = min (n + 1) greatest_u64

-- the calls of a door so far, if it keeps them
abbrev pub Trace : Type 0
Trace = Option (List Call)

-- the door keeps this call behind those that it kept, or keeps none from now on
abbrev pub Extends : Option (List Call) → Call → Option (List Call) → Type 0
Extends None call new = new ≡ None
Extends (Some calls) call new = IfSome new (λ trace. trace ≡ calls ++ call ∷ [])

-- the door had kept some calls, and has added these
pub record Adds (old : Option (List Call)) (trace calls : List Call) : Type 0 where
  pub before : List Call
  pub was : old ≡ Some before
  pub is : trace ≡ before ++ calls

-- a read returned at least one byte and no more than the buffer holds; a write took no more than it was handed
abbrev pub IsFair : Call → Type 0
IsFair (ReadCall peer (Ok (got.Bytes count)) buffer) = (0 < count) × (count ≤ length buffer)
IsFair (WriteCall peer bytes (Ok count)) = count ≤ length bytes
IsFair other = ⊤

-- the call tells the door what to expect
abbrev pub is_expect : Call → Bool
is_expect (ExpectCall due slack) = true
is_expect other = false

-- a list cut into parts; `begins` says which elements begin one
abbrev pub parts : {X : Type 0} → (X → Bool) → List X → List (List X)
parts begins [] = []
parts begins (x ∷ xs) =
    if begins x then (x ∷ take_while (λ next. not (begins next)) xs) ∷ parts begins xs else parts begins xs

-- the calls of each turn; a turn begins with the call that tells the door what to expect
abbrev pub turns : List Call → List (List Call)
turns calls = parts is_expect calls

-- the peer that the door accepted, if it accepted one
abbrev pub peer_of : Call → Option ℕ
peer_of (AcceptCall (Ok peer)) = peer
peer_of other = None

-- the door accepted no peer twice, and none of those before
abbrev pub PeersDiffer : List ℕ → List Call → Type 0
PeersDiffer before calls = IsDistinct (λ a b. a == b) (before ++ filter_map peer_of calls)
