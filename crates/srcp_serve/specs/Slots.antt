-- How the slots of a server follow the course, and what each function of a turn does to them.
use Rattle.std.specs.Prelude.{Bool, ⊤, ◌≡◌, ◌⊎◌, ℕ, ◌+◌, ◌<◌, drop, slice_set, true, false, ◌==◌, ◌||◌, if◌then◌else◌}
use Rattle.std.specs.Prelude.{List, [], ◌∷◌, ◌++◌, map, length, filter_map, flat_map, Option, Some, None, Result}
use Rattle.std.specs.Prelude.{Ok, Err}
use Rattle.std.specs.List.{list_any, AllByRecursion, AllZip, IsDistinct}
use Rattle.srcp_grammar.specs.declared.layout.Bus.{Bus}
use Rattle.srcp_core.specs.Course.{course}
use Rattle.srcp_core.specs.Past.{Past, course_of, happened, no_past, number_in}
use Rattle.srcp_core.specs.Under.{At}
use Rattle.srcp_core.specs.Waits.{due_next, slack}
use Rattle.srcp_door.specs.Calls.{Call as DoorCall, Adds, ExpectCall, NowCall, PeersDiffer, Trace}
use Rattle.srcp_serve.specs.Given.{Call, AcceptCall, CountsRefusals, door_call}
use Rattle.srcp_serve.specs.Serving.{Client, clients, Stand, IsServed, question, accept_of, kept}
use Rattle.srcp_serve.specs.Serving.{visit_events, visits_ask, turned, turn_asks, refuses, after_accept}
use Rattle.srcp_serve.specs.Serving.{events_of, FeedsWhatIsHanded, SendsWhatIsTaken, Slots}
use Rattle.srcp_serve.specs.Visits.{AddsGiven, Keys, Makes}
use Rattle.srcp_door.specs.declared.door.DoorFault.{DoorFault}
use Rattle.srcp_serve.specs.declared.serving.visit.Client.{Client as Own}

-- the slots of a server
abbrev pub Owns : Type 0
Owns = List (Option Own)

-- all slots from this one on are free
abbrev pub AreFreeFrom : ℕ → Owns → Type 0
AreFreeFrom slot owns = AllByRecursion (λ own. own ≡ None) (drop slot owns)

-- at most this slot was freed, and no other changed
abbrev pub MayFree : ℕ → (old new : Owns) → Type 0
MayFree slot old new = (new ≡ old) ⊎ (new ≡ slice_set old slot None)

-- ---- slots

-- a slot of the server is that of the state: it has the same peer, and the key of its connection
abbrev pub IsSlotOf : Keys → Option Own → Option Client → Type 0
IsSlotOf keys None None = ⊤
IsSlotOf keys (Some own) (Some client) =
    (own.peer ≡ client.peer) × (number_in own.key keys ≡ client.conn) × (0 < client.conn)
IsSlotOf keys own slot = ⊥

-- no connection and no peer has two slots
abbrev pub ClientsDiffer : Slots → Type 0
ClientsDiffer slots = IsDistinct (λ (a b : Client). (a.conn == b.conn) || (a.peer == b.peer)) (clients slots)

-- the core and the server's slots are as the state says
pub record IsInState (buses : List Bus) (stand : Stand) (past : Past) (owns : Owns) : Type 0 where
  pub layout : past.buses ≡ buses
  pub events : past.events ≡ stand.events
  pub owns_are : AllZip (IsSlotOf past.keys) owns stand.slots
  pub differ : ClientsDiffer stand.slots
  pub long : length past.keys ≡ length stand.connected

-- 1 for `true`, 0 for `false`
abbrev pub one_if : Bool → ℕ
one_if b = if b then 1 else 0

-- ---- what the functions of a turn do

-- the core goes on to the moment, if the door told it
abbrev pub told : Result ℕ DoorFault → Past → Past
told (Ok moment) past = happened (At moment) past
told (Err failed) past = past

-- the time was asked for, and the core advanced to it if it was told
pub record HasTakenMoment (old : Past) (trace_old : Trace) (new : Past) (trace : List DoorCall) : Type 0 where
  pub answer : Result ℕ DoorFault
  pub adds : Adds trace_old trace
      (ExpectCall (due_next old.buses (course_of old)) (slack old.buses (course_of old)) ∷ NowCall answer ∷ [])
  pub is : new ≡ told answer old

module _ (buses : List Bus) (stand : Stand) (old : Trace) (trace : List DoorCall) (past : Past) (owns : Owns)
    (core_old : Past) where
  -- the peer that the call accepted, if it did, has a slot or was closed by the calls in `early`; the door added the
  -- calls in `first`, and then those
  pub record IsSettled (call : Call) (first : List Call) (opens : Bool) : Type 0 where
    pub early : List Call
    pub adds : AddsGiven old trace (first ++ early)
    pub counted : CountsRefusals core_old (call ∷ early) past
    pub asked : map question early ≡ flat_map (refuses buses stand.events) (filter_map accept_of (call ∷ []))
    pub in_state : IsInState buses (after_accept buses stand call) past owns
    pub opened : length (after_accept buses stand call).connected ≡ length stand.connected + one_if opens

  -- the clients in `slots` were visited, in order; `before` and `after` are the slots around them
  pub record HasVisited (before slots after : Slots) : Type 0 where
    pub calls : List Call
    pub made : Makes calls old trace core_old past
    pub asked : map question calls ≡ visits_ask buses stand.events calls (clients slots)
    pub in_state : IsInState buses
        (record stand {
          events = stand.events ++ flat_map (visit_events calls) (clients slots);
          slots = before ++ (map (kept calls) slots ++ after);
        })
        past owns

  -- a turn was made
  pub record HasMadeTurn (opens : Bool) : Type 0 where
    pub calls : List Call
    pub made : Makes calls old trace core_old past
    pub asked : map question calls ≡ turn_asks buses stand calls
    pub in_state : IsInState buses (turned buses stand calls) past owns
    pub opened : length (turned buses stand calls).connected ≡ length stand.connected + one_if opens

-- the core, the door's calls and the slots before and after a function of a turn
module _ (old : Past) (trace_old : Trace) (owns_old : Owns) (new : Past) (trace_new : Trace) (owns_new : Owns) where
  -- if the door keeps its calls, `After` holds for every state that the core and the slots had before
  abbrev pub FromEveryState : (List Bus → Stand → List DoorCall → Type 0) → Type 0
  FromEveryState After = (buses : List Bus) (stand : Stand) (trace : List DoorCall)
      → IsInState buses stand old owns_old → trace_new ≡ Some trace → After buses stand trace

  -- and if, for some peers, each that has a slot is one of them, and the added calls accept none of them and no
  -- peer twice
  abbrev pub IfPeersDiffer : (List Bus → Stand → List DoorCall → Type 0) → Type 0
  IfPeersDiffer After = FromEveryState (λ buses stand trace. (peers : List ℕ) (calls : List DoorCall)
      → Adds trace_old trace calls → PeersDiffer peers calls
      → AllByRecursion (λ client. list_any (λ peer. peer == client.peer) peers ≡ true) (clients stand.slots)
      → After buses stand trace)

  -- a peer that has no slot gets one, or is closed
  abbrev pub Connects : (peer : ℕ) → Bool → Type 0
  Connects peer opens = FromEveryState (λ buses stand trace.
      AllByRecursion (λ client. (peer == client.peer) ≡ false) (clients stand.slots) → (granted : Bool)
      × IsSettled buses stand trace_old trace new owns_new old (AcceptCall (Ok (Some peer)) granted) [] opens)

  -- the door is asked to accept a peer
  abbrev pub AcceptsOne : Bool → Type 0
  AcceptsOne opens = IfPeersDiffer (λ buses stand trace. (answer : Result (Option ℕ) DoorFault) × (granted : Bool)
      × IsSettled buses stand trace_old trace new owns_new old (AcceptCall answer granted)
      (AcceptCall answer granted ∷ []) opens)

  -- whoever has that slot is visited
  abbrev pub VisitsSlot : (slot : ℕ) → Type 0
  VisitsSlot slot = FromEveryState (λ buses stand trace. (before : Slots) (client : Option Client) (after : Slots)
      → length before ≡ slot → stand.slots ≡ before ++ client ∷ after
      → HasVisited buses stand trace_old trace new owns_new old before (client ∷ []) after)

  -- all slots are visited, in their order
  abbrev pub VisitsSlots : Type 0
  VisitsSlots = FromEveryState (λ buses stand trace.
      HasVisited buses stand trace_old trace new owns_new old [] stand.slots [])

  -- a turn is made
  abbrev pub MakesTurn : Bool → Type 0
  MakesTurn opens = IfPeersDiffer (λ buses stand trace. HasMadeTurn buses stand trace_old trace new owns_new old opens)

-- the time is asked for
abbrev pub TakesMoment : (old : Past) (trace_old : Trace) (new : Past) (trace_new : Trace) → Type 0
TakesMoment old trace_old new trace_new =
    (trace : List DoorCall) → trace_new ≡ Some trace → HasTakenMoment old trace_old new trace

-- ---- serving

-- serving begins with a core to which nothing has happened; the door keeps its calls, and accepts no peer twice
abbrev pub Begins : (List Bus → List DoorCall → Type 0) → (old : Past) (trace_old trace_new : Trace) → Type 0
Begins After old trace_old trace_new = (buses : List Bus) (before calls : List DoorCall) → old ≡ no_past buses
    → trace_old ≡ Some before → trace_new ≡ Some (before ++ calls) → PeersDiffer [] calls → After buses calls

-- the calls are exactly those of `count` turns, and each write is handed what the course leaves unsent; the events of
-- the calls have happened to the core; each connection was sent, to the byte, what its peer took, and was fed, to the
-- byte, what the door handed out of its peer
pub record IsOfCourse (buses : List Bus) (count opens : ℕ) (trace : List Call) (past : Past) : Type 0 where
  pub served : IsServed buses count trace
  pub layout : past.buses ≡ buses
  pub events : past.events ≡ events_of buses trace
  pub opened : opens ≡ length (course buses (events_of buses trace)).connections  -- one for each Open that is accepted
  pub taken : SendsWhatIsTaken buses trace
  pub fed : FeedsWhatIsHanded buses trace

-- there are answers of memory by which the kept calls are those of the course; the core counted exactly the refusals
-- among them
pub record IsOfGiven (buses : List Bus) (count opens : ℕ) (trace : List DoorCall) (old past : Past) : Type 0 where
  pub calls : List Call
  pub are : map door_call calls ≡ trace
  pub counted : CountsRefusals old calls past
  pub course : IsOfCourse buses count opens calls past

-- serving makes `count` turns, and `opens` peers get a connection
abbrev pub ServesCourse : (count opens : ℕ) (old : Past) (trace_old : Trace) (new : Past) (trace_new : Trace) → Type 0
ServesCourse count opens old trace_old new trace_new =
    Begins (λ buses calls. IsOfGiven buses count opens calls old new) old trace_old trace_new
