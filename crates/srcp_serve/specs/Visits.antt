-- What each function of a visit asks and does.
use Rattle.std.specs.Prelude.{◌≡◌, ℕ, ◌<◌, Bool, true, false, not, ◌&&◌, if◌then◌else◌, ◌⊎◌, List, [], ◌∷◌, ◌++◌, map}
use Rattle.std.specs.Prelude.{take, length, filter_map, Option, Some, Result, Ok, Err}
use Rattle.std.specs.List.{list_any}
use Rattle.srcp_door.specs.Limits.{most_writes}
use Rattle.srcp_grammar.specs.declared.layout.Bus.{Bus}
use Rattle.srcp_core.specs.Past.{Past, happened, number, room_for}
use Rattle.srcp_core.specs.Recording.{without_key}
use Rattle.srcp_core.specs.Under.{Event, Bytes, Room, Shut}
use Rattle.srcp_door.specs.Calls.{Call as DoorCall, Trace, Adds}
use Rattle.srcp_serve.specs.Given.{Call, WriteCall, CountsRefusals, door_call}
use Rattle.srcp_serve.specs.Serving.{Client, Question, Writes, Closes as ClosesQuestion, question, piece_of, count_of}
use Rattle.srcp_serve.specs.Serving.{is_close, loses, loses_reading, rooms, lent, handed, reads_of, visit_asks}
use Rattle.srcp_serve.specs.Serving.{visit_events}
use Rattle.srcp_serve.specs.Turns.{Asks}
use Rattle.srcp_door.specs.declared.door.DoorFault.{DoorFault}
use Rattle.srcp_serve.specs.declared.serving.visit.Wrote.{Wrote}
use Rattle.srcp_serve.specs.declared.serving.visit.Wrote.TheVariants.{All, Less, Failed}
use Rattle.srcp_door.specs.Calls as door

-- the keys of the core's connections, in the order of the connections; `None` if it has none
abbrev pub Keys : Type 0
Keys = List (Option ℕ)

-- the door added these calls, leaving out the answers of memory
abbrev pub AddsGiven : (old : Trace) (trace : List DoorCall) (calls : List Call) → Type 0
AddsGiven old trace calls = Adds old trace (map door_call calls)

-- the door was asked to close the peer, if it keeps its calls
abbrev pub Closes : (peer : ℕ) → (old new : Trace) → Type 0
Closes peer = Asks (λ calls. (answer : Result Unit DoorFault) × (calls ≡ door.CloseCall peer answer ∷ []))

-- the door added these calls, without the answers of memory, and the core counted exactly the refusals in them
pub record Makes (calls : List Call) (trace_old : Trace) (trace : List DoorCall) (old new : Past) : Type 0 where
  pub adds : AddsGiven trace_old trace calls
  pub counted : CountsRefusals old calls new

-- the core went on by these events, and has these keys then
pub record Went (more : List Event) (keys_now : Keys) (old new : Past) : Type 0 where
  pub layout : new.buses ≡ old.buses
  pub events : new.events ≡ old.events ++ more
  pub keys : new.keys ≡ keys_now

-- ---- a peer that has a slot

-- the door added calls that ask what `asks` says of them, and the core went on by the events that `makes` says; `stays`
-- says that no call `loses` the peer
pub record HasActed (old : Past) (trace_old : Trace) (new : Past) (trace : List DoorCall)
    (asks : List Call → List Question) (makes : List Call → List Event) (loses : Call → Bool) (keys : Keys)
    (stays : Bool) : Type 0 where
  pub calls : List Call
  pub made : Makes calls trace_old trace old new
  pub asked : map question calls ≡ asks calls
  pub stays_is : list_any loses calls ≡ not stays
  pub went : Went (makes calls) keys old new

module _ (peer key : ℕ) (old : Past) (trace_old : Trace) (new : Past) (trace : List DoorCall) where
  -- the door added these calls, and the peer took this many of the bytes that were lent
  pub record Took (calls : List Call) (count : ℕ) : Type 0 where
    pub adds : AddsGiven trace_old trace calls
    pub is : new ≡ room_for key count (happened (Room (number key old) 0) old)

  -- what one step of writing hands to the peer
  abbrev pub bytes : List ℕ
  bytes = lent old.buses (number key old) old.events

  -- the peer took all of it, and that was something; nothing was lent, or the peer took less; or the write failed
  abbrev pub HasWritten : Wrote → Type 0
  HasWritten All = (0 < length bytes) × Took (WriteCall peer bytes (Ok (length bytes)) ∷ []) (length bytes)
  HasWritten Less = ((bytes ≡ []) × Took [] 0)
      ⊎ ((count : ℕ) × (count < length bytes) × Took (WriteCall peer bytes (Ok count) ∷ []) count)
  HasWritten Failed = (fault : DoorFault) × (0 < length bytes) × Took (WriteCall peer bytes (Err fault) ∷ []) 0

-- ---- the functions of a visit

-- the keys afterwards: the key of a lost peer's connection goes if the function `frees` it
abbrev pub keys_after : (frees stays : Bool) → ℕ → Keys → Keys
keys_after frees stays n keys = if frees && not stays then without_key n keys else keys

-- whose visit it is, and the core and the door's calls before and after the function
module _ (peer key : ℕ) (old : Past) (trace_old : Trace) (new : Past) (trace_new : Trace) where
  -- if the door keeps its calls, it acts so
  abbrev pub Acts : (asks : List Bus → List Event → List Call → Client → List Question)
      → (makes : List Call → Client → List Event) → (loses : Call → Bool) → (frees stays : Bool) → Type 0
  Acts asks makes loses frees stays = (trace : List DoorCall) → trace_new ≡ Some trace
      → let client : Client = record { peer = peer; conn = number key old } in
      HasActed old trace_old new trace (λ calls. asks old.buses old.events calls client)
      (λ calls. makes calls client) loses (keys_after frees stays client.conn old.keys) stays

  -- the peer is read at most once
  abbrev pub ReadsIn : Bool → Type 0
  ReadsIn = Acts (λ buses events calls. reads_of buses events)
      (λ calls client. map (Bytes client.conn) (filter_map piece_of calls)) loses_reading false

  -- the peer is written to at most once
  abbrev pub WritesOnce : Wrote → Type 0
  WritesOnce wrote = (trace : List DoorCall) → trace_new ≡ Some trace
      → HasWritten peer key old trace_old new trace wrote

  -- the peer is written to as long as it takes all, as often as it may be
  abbrev pub WritesOut : Bool → Type 0
  WritesOut = Acts (λ buses events calls client.
      map (Writes client.peer) (take most_writes (handed buses client.conn events (filter_map count_of calls))))
      (λ calls client. map (Room client.conn) (rooms calls)) loses false

  -- its connection is shut, and the peer is closed
  abbrev pub Disconnects : Type 0
  Disconnects = Acts (λ buses events calls client. ClosesQuestion client.peer ∷ [])
      (λ calls client. Shut client.conn ∷ []) is_close true false

  -- the peer is visited, and has its slot still or was closed
  abbrev pub Visits : Bool → Type 0
  Visits = Acts visit_asks visit_events is_close true
