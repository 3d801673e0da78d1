-- What holds after every list of events.
use Rattle.std.specs.Prelude.{◌≡◌, ◌≢◌, ◌⊎◌, ℕ, ◌≤◌, Bool, true, false, ◌&&◌, ◌||◌, Option, Some, None, List}
use Rattle.std.specs.Prelude.{length, map, nat_lt, fold, is_some, slice_get}
use Rattle.srcp_routes.specs.Conflicts.{are_free, is_same}
use Rattle.srcp_routes.specs.Plan.{Table, conflict_at, stage_at, wanted_at}
use Rattle.srcp_routes.specs.Runs.{Run, head_heard, is_freed_by, let_go_heard, run, run_after, shown_heard}
use Rattle.srcp_routes.specs.Stages.{is_held, is_idle, show_setting, stop_setting, turnout_at}
use Rattle.srcp_routes.specs.Steps.{after, course, step}
use Rattle.srcp_routes.specs.declared.interlocking.Event.{Event}
use Rattle.srcp_routes.specs.declared.interlocking.Event.TheVariants.{Reply, Told}
use Rattle.srcp_routes.specs.declared.route.Device.{Device}
use Rattle.srcp_routes.specs.declared.route.Occupancy.{Occupancy}
use Rattle.srcp_routes.specs.declared.route.Order.{Order}
use Rattle.srcp_routes.specs.declared.route.Order.TheVariants as order
use Rattle.srcp_routes.specs.declared.route.Route.{Route}
use Rattle.srcp_routes.specs.declared.route.Setting.{Setting}
use Rattle.srcp_routes.specs.declared.route.Signal.{Signal}
use Rattle.srcp_routes.specs.declared.stage.Stage.{Stage}
use Rattle.srcp_routes.specs.declared.stage.Stage.TheVariants as stage

-- ---- routes that conflict

-- while a route is held, each other that conflicts with it is idle
abbrev pub AreApart : Table → Type 0
AreApart t = (n m : ℕ) → n ≢ m → conflict_at t.routes n m ≡ true → is_held (stage_at t.stages n) ≡ true
    → is_idle (stage_at t.stages m) ≡ true

-- so it is after every list of events
abbrev pub HeldStandAlone : Type 0
HeldStandAlone = (routes : List Route) (events : List Event) → AreApart (course routes events)

-- a route is set by events alone: its signal was shown and not stopped since, or it is told to be set
abbrev pub is_set : Run → ℕ → Bool
is_set r n = r.shown n || r.told n

-- no piece of track is one of two routes that are set
abbrev pub CrossApart : Type 0
CrossApart = (routes : List Route) (events : List Event) (n m : ℕ) (route other : Route) (k j piece : ℕ) → n ≢ m
    → slice_get routes n ≡ Some route → slice_get routes m ≡ Some other
    → is_set (run routes events) n ≡ true → is_set (run routes events) m ≡ true
    → slice_get route.pieces.items k ≡ Some piece → slice_get other.pieces.items j ≢ Some piece

-- ---- turnouts

-- a turnout is thrown rightly: the route that throws it wants it so, and holds its lock
pub record IsThrownRightly (routes : List Route) (r : Run) (setting : Setting) : Type 0 where
  pub thrower : ℕ
  pub route : Route
  pub place : ℕ
  pub throws : r.table.waiting ≡ Some thrower
  pub is : slice_get routes thrower ≡ Some route
  pub wants : turnout_at route place ≡ Some setting
  pub locked : r.locked thrower setting.device ≡ true

-- as long as the reply to a throw has not come, the turnout is thrown rightly
abbrev pub ThrowsAreLocked : Type 0
ThrowsAreLocked = (routes : List Route) (events : List Event) (setting : Setting)
    → (run routes events).order ≡ Some (order.Throw setting) → IsThrownRightly routes (run routes events) setting

-- ---- signals

-- a turnout is as its route wants it: locked, and thrown since
pub record IsThrownAndLocked (r : Run) (n : ℕ) (turnout : Setting) : Type 0 where
  pub locked : r.locked n turnout.device ≡ true
  pub thrown : r.thrown n turnout ≡ true

-- from the order that shows "go" until the reply that accepts a stop, or the end of the session, each turnout of the
-- route is as the route wants it
abbrev pub ShownStand : Type 0
ShownStand = (routes : List Route) (events : List Event) (n : ℕ) (route : Route) (place : ℕ) (turnout : Setting)
    → (run routes events).shown n ≡ true → slice_get routes n ≡ Some route → turnout_at route place ≡ Some turnout
    → IsThrownAndLocked (run routes events) n turnout

-- "go" is shown for a route of the plan whose blocks are free
pub record IsShownRightly (routes : List Route) (r : Run) (setting : Setting) : Type 0 where
  pub shower : ℕ
  pub route : Route
  pub signal : Signal
  pub shows : r.table.waiting ≡ Some shower
  pub is : slice_get routes shower ≡ Some route
  pub has : route.signal ≡ Some signal
  pub go : setting ≡ show_setting signal
  pub free : (k : ℕ) (block : Device) → slice_get route.blocks.items k ≡ Some block → r.free block ≡ true

-- each block of the route is free as the order is sent that shows "go"
abbrev pub ShowsAreFree : Type 0
ShowsAreFree = (routes : List Route) (events : List Event) (event : Event) (setting : Setting)
    → (step (run routes events).table event).order ≡ Some (order.Show setting)
    → IsShownRightly routes (run_after (run routes events) event) setting

-- since the order that showed "go", the train of a route has entered the first section, which was told to be occupied
abbrev pub has_come : Run → ℕ → Bool
has_come r n = nat_lt 0 (r.head n)

-- a route is told to be set rightly: it is that of the plan with this number, each of its turnouts is as it wants it,
-- and its signal, if it has one, shows "go", unless its train has entered
pub record IsToldRightly (routes : List Route) (r : Run) (number : ℕ) : Type 0 where
  pub teller : ℕ
  pub route : Route
  pub tells : r.table.waiting ≡ Some teller
  pub is : slice_get routes teller ≡ Some route
  pub named : route.number ≡ number
  pub stand : (place : ℕ) (turnout : Setting) → turnout_at route place ≡ Some turnout
      → IsThrownAndLocked r teller turnout
  pub lit : is_some route.signal ≡ true → has_come r teller ≡ false → r.lit teller ≡ true

-- as long as the reply has not come to the order that tells that a route is set, the route is told so rightly
abbrev pub SetIsTold : Type 0
SetIsTold = (routes : List Route) (events : List Event) (number : ℕ)
    → (run routes events).order ≡ Some (order.Report number true) → IsToldRightly routes (run routes events) number

-- the turnout that an order locks, throws or unlocks
abbrev pub touched : Order → Option Device
touched (order.Lock device) = Some device
touched (order.Throw setting) = Some setting.device
touched (order.Unlock device) = Some device
touched other = None

-- as long as the signal of a route may show "go", no order locks, throws or unlocks a turnout of the route
abbrev pub ShownAreKept : Type 0
ShownAreKept = (routes : List Route) (events : List Event) (n : ℕ) (route : Route) (place : ℕ) (turnout : Setting)
    (last : Order) (device : Device) → (run routes events).may_go n ≡ true → slice_get routes n ≡ Some route
    → turnout_at route place ≡ Some turnout → (run routes events).order ≡ Some last → touched last ≡ Some device
    → is_same turnout.device device ≡ false

-- the train that a route has let go has come into the first section, and the route was not given back since
abbrev pub is_entered : Run → Event → ℕ → Bool
is_entered r event n = let_go_heard r event n && nat_lt 0 (head_heard r event n)

abbrev pub is_show : Order → Bool
is_show (order.Show setting) = true
is_show other = false

-- the next order of a route whose train has entered is the stop of its signal, and no later one shows "go"
abbrev pub FallsBehind : Type 0
FallsBehind = (routes : List Route) (events : List Event) (event : Event) (n : ℕ) (route : Route) (signal : Signal)
    (next : Order) → slice_get routes n ≡ Some route → route.signal ≡ Some signal
    → is_entered (run routes events) event n ≡ true
    → (run_after (run routes events) event).table.waiting ≡ Some n
    → (step (run routes events).table event).order ≡ Some next
    → (next ≡ order.Stop (stop_setting signal))
    ⊎ ((shown_heard (run routes events) event n ≡ false) × (is_show next ≡ false))

-- once no order waits for its reply, the signal of each route whose train has entered was stopped
abbrev pub EnteredAreDark : Type 0
EnteredAreDark = (routes : List Route) (events : List Event) (event : Event) (n : ℕ) (route : Route)
    → slice_get routes n ≡ Some route → (run_after (run routes events) event).table.waiting ≡ None
    → (run_after (run routes events) event).let_go n ≡ true → has_come (run_after (run routes events) event) n ≡ true
    → (run_after (run routes events) event).shown n ≡ false

-- ---- routes that are asked for

-- the signal of a route could not be stopped
abbrev pub is_unstopped : Stage → Bool
is_unstopped stage.Blocked = true
is_unstopped stage.Stuck = true
is_unstopped other = false

-- a route stays as it is: it is asked for, and is set or waits for its blocks; or its signal could not be stopped
abbrev pub stays : Bool → Stage → Bool
stays wanted stage.Set = wanted
stays wanted (stage.Fallen true) = wanted
stays wanted stage.Ready = wanted
stays wanted other = is_unstopped other

-- a route was given back while a train might come, and keeps its locks for some seconds more
abbrev pub waits_out : Run → ℕ → Bool
waits_out r n = nat_lt 0 (r.wait n)

-- a route waits behind another, which conflicts with it, and stays as it is or keeps its locks for its delay
pub record IsBehind (routes : List Route) (t : Table) (keeps : ℕ → Bool) (n : ℕ) : Type 0 where
  pub other : ℕ
  pub conflict : conflict_at routes n other ≡ true
  pub stays : (keeps other || stays (wanted_at t.wanted other) (stage_at t.stages other)) ≡ true

-- a route is set: its signal was stopped since only if its train has entered
abbrev pub stands : (entered : Bool) → Stage → Bool
stands entered stage.Set = true
stands entered (stage.Fallen true) = entered
stands entered other = false

-- a route is set; or one of its blocks is not free, its own signal could not be stopped, it keeps its locks for its
-- delay, or it is behind another
abbrev pub IsServed : List Route → Table → (entered : Bool) → (keeps : ℕ → Bool) → ℕ → Route → Type 0
IsServed routes t entered keeps n route = (stands entered (stage_at t.stages n) ≡ true)
    ⊎ ((are_free t.sensors route.blocks.items ≡ false)
    ⊎ ((is_unstopped (stage_at t.stages n) ≡ true) ⊎ ((keeps n ≡ true) ⊎ IsBehind routes t keeps n)))

-- a route is asked for, or is so again before it ended
abbrev pub is_asked : Table → ℕ → Bool
is_asked t n = wanted_at t.wanted n || wanted_at t.again n

-- once no order waits for its reply, each route that is asked for is served
abbrev pub WantedAreServed : Type 0
WantedAreServed = (routes : List Route) (events : List Event) (event : Event) (n : ℕ) (route : Route)
    → slice_get routes n ≡ Some route → (after (course routes events) event).waiting ≡ None
    → is_asked (after (course routes events) event) n ≡ true
    → IsServed routes (after (course routes events) event) (has_come (run_after (run routes events) event) n)
    (waits_out (run_after (run routes events) event)) n route

-- so it is of each route that is asked for by events alone
abbrev pub AskedAreServed : Type 0
AskedAreServed = (routes : List Route) (events : List Event) (event : Event) (n : ℕ) (route : Route)
    → slice_get routes n ≡ Some route → (run_after (run routes events) event).table.waiting ≡ None
    → (run_after (run routes events) event).asks n ≡ true
    → IsServed routes (run_after (run routes events) event).table (has_come (run_after (run routes events) event) n)
    (waits_out (run_after (run routes events) event)) n route

-- once no order waits for its reply, each route that was given back while its signal shows "go" has a signal that could
-- not be stopped: all others were stopped, whatever was asked for since
abbrev pub LeftEnds : Type 0
LeftEnds = (routes : List Route) (events : List Event) (event : Event) (n : ℕ) (route : Route)
    → slice_get routes n ≡ Some route → (run_after (run routes events) event).table.waiting ≡ None
    → (run_after (run routes events) event).left n ≡ true
    → is_unstopped (stage_at (run_after (run routes events) event).table.stages n) ≡ true

-- an order ends a route: a turnout is unlocked, or the route is told not to be set
abbrev pub ends : Order → Bool
ends (order.Unlock device) = true
ends (order.Report number false) = true
ends other = false

-- as long as a route has let a train go, and neither was given back nor had a refused order since, no order ends it: a
-- train gives it back by the fall of the sensor that frees it, or as it has passed each section but the last
abbrev pub FreedBehind : Type 0
FreedBehind = (routes : List Route) (events : List Event) (n : ℕ) (last : Order)
    → (run routes events).table.waiting ≡ Some n → (run routes events).order ≡ Some last
    → (run routes events).let_go n ≡ true → ends last ≡ false

-- a route that has let a train go, which has entered no section, is not given back by what one sensor says, however
-- often, if that sensor does not free the route
abbrev pub OneSensorFreesNone : Type 0
OneSensorFreesNone = (routes : List Route) (events : List Event) (sensor : Device) (words : List Occupancy) (n : ℕ)
    → (run routes events).let_go n ≡ true → (run routes events).head n ≡ 0 → is_freed_by routes n sensor ≡ false
    → (fold run_after (run routes events) (map (λ now. Told sensor now) words)).let_go n ≡ true

-- a route holds no lock, and its signal was stopped if it was shown
pub record IsEnded (r : Run) (n : ℕ) : Type 0 where
  pub unlocked : (device : Device) → r.locked n device ≡ false
  pub dark : r.shown n ≡ false

-- as long as a route keeps its locks for its delay, no order ends it
abbrev pub ApproachLocked : Type 0
ApproachLocked = (routes : List Route) (events : List Event) (n : ℕ) (last : Order)
    → (run routes events).table.waiting ≡ Some n → (run routes events).order ≡ Some last
    → waits_out (run routes events) n ≡ true → ends last ≡ false

-- and each of its turnouts is locked
abbrev pub ApproachKept : Type 0
ApproachKept = (routes : List Route) (events : List Event) (n : ℕ) (route : Route) (place : ℕ) (turnout : Setting)
    → waits_out (run routes events) n ≡ true → slice_get routes n ≡ Some route → turnout_at route place ≡ Some turnout
    → (run routes events).locked n turnout.device ≡ true

-- once no order waits for its reply, each route that was given back and not asked for since has ended, keeps its locks
-- for its delay, or has a signal that could not be stopped
abbrev pub GivenEnd : Type 0
GivenEnd = (routes : List Route) (events : List Event) (event : Event) (n : ℕ) (route : Route)
    → slice_get routes n ≡ Some route → (run_after (run routes events) event).table.waiting ≡ None
    → (run_after (run routes events) event).given n ≡ true
    → (is_unstopped (stage_at (run_after (run routes events) event).table.stages n) ≡ true)
    ⊎ ((waits_out (run_after (run routes events) event) n ≡ true) ⊎ IsEnded (run_after (run routes events) event) n)

-- there is a number of replies after which no order waits, whichever of them accept and whichever refuse
pub record Settles (t : Table) : Type 0 where
  pub within : ℕ
  pub settled : (replies : List Bool) → within ≤ length replies
      → (fold after t (map Reply replies)).waiting ≡ None

-- so it is after every list of events, if nothing but replies comes then
abbrev pub RepliesSettle : Type 0
RepliesSettle = (routes : List Route) (events : List Event) (event : Event)
    → Settles (after (course routes events) event)
