-- What events, orders and their replies alone say of the layout, without a look at stages.
use Rattle.std.specs.Prelude.{ℕ, ◌+◌, ◌-◌, ◌==◌, Bool, true, false, not, ◌&&◌, ◌||◌, Option, Some, None, List, fold}
use Rattle.std.specs.Prelude.{if◌then◌else◌, is_some, length, nat_lt, option_and_then, slice_get}
use Rattle.std.specs.List.{list_all}
use Rattle.std.specs.Option.{option_map_or, option_or}
use Rattle.srcp_routes.specs.Conflicts.{is_same, is_taken, is_vacant}
use Rattle.srcp_routes.specs.Plan.{Table, start}
use Rattle.srcp_routes.specs.Steps.{Stepped, step}
use Rattle.srcp_routes.specs.declared.interlocking.Event.{Event}
use Rattle.srcp_routes.specs.declared.interlocking.Event.TheVariants.{Ask, Give, Told, Second, Reply, Lost}
use Rattle.srcp_routes.specs.declared.route.Device.{Device}
use Rattle.srcp_routes.specs.declared.route.Occupancy.{Occupancy}
use Rattle.srcp_routes.specs.declared.route.Order.{Order}
use Rattle.srcp_routes.specs.declared.route.Order.TheVariants as order
use Rattle.srcp_routes.specs.declared.route.Route.{Route}
use Rattle.srcp_routes.specs.declared.route.Setting.{Setting}

-- which route holds the lock of which turnout
abbrev pub Locks : Type 0
Locks = ℕ → Device → Bool

-- which route has thrown which turnout, to which port
abbrev pub Throws : Type 0
Throws = ℕ → Setting → Bool

-- which route has a signal that shows "go", or may do so
abbrev pub Signals : Type 0
Signals = ℕ → Bool

-- a run so far: its table, the last order if its reply has not come, the locks, and what was thrown under them; which
-- signals this session has shown and not stopped, which signals may show "go", and which do since that was accepted;
-- which sensors are free or occupied; which routes have let a train go and were not given back since, how many sections
-- that train has entered, and how many it has passed; which routes were given back since this session has shown their
-- signals, and before these are stopped; which routes are asked for, and which were given back or refused and not asked
-- for since; which routes this session has told to be set; for how many seconds each route keeps its locks
pub record Run : Type 0 where
  pub table : Table
  pub order : Option Order
  pub locked : Locks
  pub thrown : Throws
  pub shown : Signals
  pub may_go : Signals
  pub lit : Signals
  pub free : Device → Bool
  pub occupied : Device → Bool
  pub let_go : Signals
  pub head : ℕ → ℕ
  pub tail : ℕ → ℕ
  pub left : Signals
  pub asks : Signals
  pub given : Signals
  pub told : Signals
  pub wait : ℕ → ℕ

-- the locks once the order of a route is accepted: a lock is granted
abbrev pub granted : Locks → ℕ → Order → Locks
granted locked n (order.Lock device) m x = ((m == n) && is_same x device) || locked m x
granted locked n other m x = locked m x

-- the locks once an order is sent: one that is given up is gone for every route, whatever the reply
abbrev pub locked_sent : Locks → Option Order → Locks
locked_sent locked (Some (order.Unlock device)) m x = not (is_same x device) && locked m x
locked_sent locked other m x = locked m x

abbrev pub is_setting : Setting → Setting → Bool
is_setting a b = is_same a.device b.device && (a.port == b.port)

-- what was thrown once the order of a route is accepted
abbrev pub put : Throws → ℕ → Order → Throws
put thrown n (order.Throw setting) m x = ((m == n) && is_setting x setting) || thrown m x
put thrown n other m x = thrown m x

-- what was thrown once an order is sent: what is locked or unlocked counts as not thrown
abbrev pub thrown_sent : Throws → Option Order → Throws
thrown_sent thrown (Some (order.Lock device)) m x = not (is_same x.device device) && thrown m x
thrown_sent thrown (Some (order.Unlock device)) m x = not (is_same x.device device) && thrown m x
thrown_sent thrown other m x = thrown m x

-- the signals once the order of a route is accepted
abbrev pub stopped : Signals → ℕ → Order → Signals
stopped going n (order.Stop setting) m = not (m == n) && going m
stopped going n other m = going m

-- the signals that show "go" once the order of a route is accepted
abbrev pub lit : Signals → ℕ → Order → Signals
lit on n (order.Show setting) m = (m == n) || on m
lit on n (order.Stop setting) m = not (m == n) && on m
lit on n other m = on m

-- the signals once an order is sent: one that is to show "go" may do so from now on, whatever the reply
abbrev pub signals_sent : Signals → Option Order → Option ℕ → Signals
signals_sent going (Some (order.Show setting)) waiting m = option_map_or (λ n. m == n) waiting false || going m
signals_sent going other waiting m = going m

-- a route has a signal
abbrev pub has_signal : List Route → ℕ → Bool
has_signal routes n = option_map_or (λ (route : Route). is_some route.signal) (slice_get routes n) false

-- what is known once an event came: an order that is accepted changes it, and a session that begins leaves something
-- else
abbrev pub heard_of : {X : Type 0} → (X → ℕ → Order → X) → (lost known : X) → Run → Event → X
heard_of change lost known r (Reply true) =
    option_map_or (λ n. option_map_or (change known n) r.order known) r.table.waiting known
heard_of change lost known r Lost = lost
heard_of change lost known r other = known

-- the sensors of which this is known once an event came
abbrev pub sensed_heard : (Occupancy → Bool) → (Device → Bool) → Event → Device → Bool
sensed_heard of known (Told sensor now) x = if is_same x sensor then of now else known x
sensed_heard of known other x = known x

-- a route is one that the fall of this sensor gives back
abbrev pub is_freed_by : List Route → ℕ → Device → Bool
is_freed_by routes n sensor = option_map_or (λ freeing. is_same freeing sensor)
    (option_and_then (λ (route : Route). route.frees) (slice_get routes n)) false

-- the section of a route at a place
abbrev pub section_of : List Route → ℕ → ℕ → Option Device
section_of routes n place =
    option_and_then (λ (route : Route). slice_get route.sections.items place) (slice_get routes n)

-- it is this sensor
abbrev pub lies_at : List Route → ℕ → ℕ → Device → Bool
lies_at routes n place sensor = option_map_or (λ section. is_same section sensor) (section_of routes n place) false

-- the train of a route enters a section as that is told to be occupied, and it has entered each section before
abbrev pub head_heard : Run → Event → ℕ → ℕ
head_heard r (Told sensor now) n =
    if is_taken now && lies_at r.table.routes n (r.head n) sensor then r.head n + 1 else r.head n
head_heard r other n = r.head n

-- it has passed a section as that is told to be free, while it has entered the next section, which is occupied, and it
-- has passed each section before
abbrev pub tail_heard : Run → Event → ℕ → ℕ
tail_heard r (Told sensor now) n =
    if is_vacant now && (lies_at r.table.routes n (r.tail n) sensor && (nat_lt (r.tail n + 1) (r.head n)
    && option_map_or (sensed_heard is_taken r.occupied (Told sensor now))
    (section_of r.table.routes n (r.tail n + 1)) false))
    then r.tail n + 1 else r.tail n
tail_heard r other n = r.tail n

-- a number of sections that is that of all but the last of a route
abbrev pub are_all_passed : List Route → ℕ → ℕ → Bool
are_all_passed routes n passed = option_map_or
    (λ (route : Route). nat_lt 0 passed && (passed == length route.sections.items - 1)) (slice_get routes n) false

-- a sensor is told, and then the train that a route has let go has passed each section of its way but the last
abbrev pub is_passed : Run → Event → ℕ → Bool
is_passed r event n = r.let_go n && are_all_passed r.table.routes n (tail_heard r event n)

-- an event gives a route back: somebody does, the sensor that frees the route falls from 1 to 0, or its train passed
abbrev pub gives_back : Run → Event → ℕ → Bool
gives_back r (Give m) n = n == m
gives_back r (Told sensor now) n =
    (is_vacant now && (r.occupied sensor && is_freed_by r.table.routes n sensor)) || is_passed r (Told sensor now) n
gives_back r other n = false

-- the routes that have let a train go and were not given back since, once an event came: a refused order gives a route
-- back, and so does a session that begins
abbrev pub let_go_heard : Run → Event → Signals
let_go_heard r (Reply false) n = not (option_map_or (λ m. n == m) r.table.waiting false) && r.let_go n
let_go_heard r Lost n = false
let_go_heard r event n = not (gives_back r event n) && r.let_go n

-- an order lets a train go: it shows "go", or tells that a route without a signal is set
abbrev pub is_go : List Route → ℕ → Option Order → Bool
is_go routes n (Some (order.Show setting)) = true
is_go routes n (Some (order.Report number true)) = not (has_signal routes n)
is_go routes n other = false

-- an order of a route is sent that lets a train go
abbrev pub goes_now : List Route → Option Order → Option ℕ → ℕ → Bool
goes_now routes sent waiting n = is_go routes n sent && option_map_or (λ m. n == m) waiting false

-- the routes that were given back while their signals show "go", once an event came: until those are stopped
abbrev pub left_heard : Run → Event → Signals
left_heard r event n = heard_of stopped (λ m. false) r.shown r event n
    && (r.left n || (r.shown n && gives_back r event n))

-- the routes that are asked for once an event came: no longer if somebody gives the route back, the sensor that frees
-- the route says 0, its train has passed, an order of the route is refused, or a session begins
abbrev pub asks_heard : Run → Event → Signals
asks_heard r (Ask m) n = (n == m) || r.asks n
asks_heard r (Give m) n = not (n == m) && r.asks n
asks_heard r (Told sensor now) n =
    not (is_passed r (Told sensor now) n) && (not (is_vacant now && is_freed_by r.table.routes n sensor) && r.asks n)
asks_heard r Second n = r.asks n
asks_heard r (Reply true) n = r.asks n
asks_heard r (Reply false) n = not (option_map_or (λ m. n == m) r.table.waiting false) && r.asks n
asks_heard r Lost n = false

-- the routes that were given back and not asked for since, once an event came: a train that the route has let go gives
-- it back by its passing, or by the fall of the sensor that frees the route; so do a refused order, and a new session
abbrev pub given_heard : Run → Event → Signals
given_heard r (Ask m) n = not (n == m) && r.given n
given_heard r (Give m) n = (n == m) || r.given n
given_heard r (Told sensor now) n = (r.let_go n && gives_back r (Told sensor now) n) || r.given n
given_heard r (Reply false) n = option_map_or (λ m. n == m) r.table.waiting false || r.given n
given_heard r Lost n = true
given_heard r other n = r.given n

-- the routes that are told to be set once the order of a route has its reply
abbrev pub hidden : Signals → ℕ → Order → Signals
hidden told n (order.Report number false) m = not (m == n) && told m
hidden told n other m = told m

-- the routes that are told to be set once an event came: no longer after the reply to the order that tells that a route
-- is not set, or as a session begins
abbrev pub told_heard : Run → Event → Signals
told_heard r (Reply ok) = option_map_or (λ n. option_map_or (hidden r.told n) r.order r.told) r.table.waiting r.told
told_heard r Lost = λ m. false
told_heard r other = r.told

-- and once an order is sent
abbrev pub told_sent : Signals → Option Order → Option ℕ → Signals
told_sent told (Some (order.Report number true)) waiting m = option_map_or (λ n. m == n) waiting false || told m
told_sent told other waiting m = told m

-- the signals that this session has shown, and not stopped since, once an event came
abbrev pub shown_heard : Run → Event → Signals
shown_heard r event = heard_of stopped (λ m. false) r.shown r event

-- an order of a route is sent that stops its signal
abbrev pub is_stop : Option Order → Bool
is_stop (Some (order.Stop setting)) = true
is_stop other = false

abbrev pub stops_now : Option Order → Option ℕ → ℕ → Bool
stops_now sent waiting n = is_stop sent && option_map_or (λ m. n == m) waiting false

-- each sensor of the approach of a route was last told to be 0
abbrev pub is_approach_free : List Route → (Device → Bool) → ℕ → Bool
is_approach_free routes free n =
    option_map_or (λ (route : Route). list_all free route.approach.items) (slice_get routes n) true

-- the delay of a route by the plan
abbrev pub delay_of : List Route → ℕ → ℕ
delay_of routes n = option_map_or (λ (route : Route). route.delay) (slice_get routes n) 0

-- a train may have seen "go" and come: this session has shown the signal of a route that was given back, and the
-- approach is not free
abbrev pub may_come : Run → Event → ℕ → Bool
may_come r event n = shown_heard r event n
    && (not (let_go_heard r event n) && not (is_approach_free r.table.routes (sensed_heard is_vacant r.free event) n))

-- for how many seconds a route keeps its locks once an event came
abbrev pub wait_heard : Run → Event → ℕ → ℕ
wait_heard r Second n = r.wait n - 1
wait_heard r Lost n = 0
wait_heard r other n = r.wait n

-- and once an order is sent: for its delay, if its signal is stopped then, though a train may come
abbrev pub wait_sent : Run → Event → Option Order → Option ℕ → ℕ → ℕ
wait_sent r event sent waiting n =
    if stops_now sent waiting n && may_come r event n then delay_of r.table.routes n else wait_heard r event n

-- the order whose reply has not come once an event came
abbrev pub order_heard : Option Order → Event → Option Order
order_heard last (Reply ok) = None
order_heard last Lost = None
order_heard last other = last

-- a run goes on by an event, and by the order that is sent then: a session that begins holds no lock, has thrown and
-- shown nothing, and does not know what signals show
abbrev pub goes_on : Run → Event → Stepped → Run
goes_on r event stepped = record {
  table = stepped.table;
  order = option_or stepped.order (order_heard r.order event);
  locked = locked_sent (heard_of granted (λ m x. false) r.locked r event) stepped.order;
  thrown = thrown_sent (heard_of put (λ m x. false) r.thrown r event) stepped.order;
  shown = signals_sent (heard_of stopped (λ m. false) r.shown r event) stepped.order stepped.table.waiting;
  may_go = signals_sent (heard_of stopped (has_signal r.table.routes) r.may_go r event) stepped.order
      stepped.table.waiting;
  lit = heard_of lit (λ m. false) r.lit r event;
  free = sensed_heard is_vacant r.free event;
  occupied = sensed_heard is_taken r.occupied event;
  let_go = λ n. goes_now r.table.routes stepped.order stepped.table.waiting n || let_go_heard r event n;
  head = λ n. if goes_now r.table.routes stepped.order stepped.table.waiting n then 0 else head_heard r event n;
  tail = λ n. if goes_now r.table.routes stepped.order stepped.table.waiting n then 0 else tail_heard r event n;
  left = left_heard r event;
  asks = asks_heard r event;
  given = given_heard r event;
  told = told_sent (told_heard r event) stepped.order stepped.table.waiting;
  wait = wait_sent r event stepped.order stepped.table.waiting;
}

abbrev pub run_after : Run → Event → Run
run_after r event = goes_on r event (step r.table event)

-- a run before any event
abbrev pub run_start : List Route → Run
run_start routes = record {
  table = start routes;
  order = None;
  locked = λ m x. false;
  thrown = λ m x. false;
  shown = λ m. false;
  may_go = has_signal routes;
  lit = λ m. false;
  free = λ x. false;
  occupied = λ x. false;
  let_go = λ m. false;
  head = λ m. 0;
  tail = λ m. 0;
  left = λ m. false;
  asks = λ m. false;
  given = λ m. true;
  told = λ m. false;
  wait = λ m. 0;
}

-- a run of a plan over a list of events
abbrev pub run : List Route → List Event → Run
run routes events = fold run_after (run_start routes) events
