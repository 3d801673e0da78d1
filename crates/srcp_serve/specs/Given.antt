-- The calls of a door, each with the answers of memory in the event that it makes.
use Rattle.std.specs.Prelude.{◌≡◌, ℕ, Bool, IsTrue, List, [], ◌∷◌, flat_map, Option, Some, Result, Ok}
use Rattle.std.specs.List.{AllByRecursion}
use Rattle.srcp_core.specs.Past.{Past, denied}
use Rattle.srcp_core.specs.Under.{denied_by}
use Rattle.srcp_door.specs.Calls.{Call as DoorCall}
use Rattle.srcp_door.specs.declared.door.DoorFault.{DoorFault}
use Rattle.srcp_door.specs.declared.door.Got.{Got}
use Rattle.srcp_door.specs.Calls as door

-- a call of a door with its answer: if a peer was accepted, whether its connection was given memory; if bytes were
-- read, for each line that ends in them whether it was given memory
pub data Call : Type 0 where
  ExpectCall : (due slack : Option ℕ) → Call
  NowCall : (answer : Result ℕ DoorFault) → Call
  AcceptCall : (answer : Result (Option ℕ) DoorFault) (granted : Bool) → Call
  ReadCall : (peer : ℕ) (answer : Result Got DoorFault) (buffer : List ℕ) (grants : List Bool) → Call
  WriteCall : (peer : ℕ) (bytes : List ℕ) (answer : Result ℕ DoorFault) → Call
  CloseCall : (peer : ℕ) (answer : Result Unit DoorFault) → Call

-- the call as the door keeps it
abbrev pub door_call : Call → DoorCall
door_call (ExpectCall due slack) = door.ExpectCall due slack
door_call (NowCall answer) = door.NowCall answer
door_call (AcceptCall answer granted) = door.AcceptCall answer
door_call (ReadCall peer answer buffer grants) = door.ReadCall peer answer buffer
door_call (WriteCall peer bytes answer) = door.WriteCall peer bytes answer
door_call (CloseCall peer answer) = door.CloseCall peer answer

-- the answers of memory in the call, in order
abbrev pub answers_in : Call → List Bool
answers_in (AcceptCall (Ok (Some peer)) granted) = granted ∷ []
answers_in (ReadCall peer answer buffer grants) = grants
answers_in other = []

-- and in all these calls
abbrev pub answers_of : List Call → List Bool
answers_of calls = flat_map answers_in calls

-- from `old` to `new`, the core counted exactly the refusals of memory in these calls
abbrev pub CountsRefusals : (old : Past) → List Call → (new : Past) → Type 0
CountsRefusals old calls new = denied new ≡ denied_by (denied old) (answers_of calls)

-- if the core counted no refusal, memory was given in all of these calls
abbrev pub GivesUnlessCounted : Type 0
GivesUnlessCounted = (old : Past) (calls : List Call) (new : Past) → CountsRefusals old calls new → denied new ≡ 0
    → AllByRecursion IsTrue (answers_of calls)

-- a peer that was accepted, and whether its connection was given memory
pub record Accepted : Type 0 where
  pub peer : ℕ
  pub granted : Bool
