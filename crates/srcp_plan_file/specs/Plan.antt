-- What a plan says, and what every plan keeps to.
use Rattle.std.specs.Prelude.{◌≡◌, ◌≢◌, ℕ, ◌-◌, ◌≤◌, Bool, false, ◌&&◌, ◌||◌, ◌==◌, List, map}
use Rattle.std.specs.Prelude.{Option, IfSome}
use Rattle.std.specs.List.{All, AllPairs}
use Rattle.std.specs.Option.{option_map_or}
use Rattle.srcp_info.specs.Limits.{greatest_bus, greatest_ga, greatest_fb, most_ports}
use Rattle.srcp_routes.specs.Conflicts.{has_accessory, is_same}
use Rattle.srcp_routes.specs.declared.route.Device.{Device}
use Rattle.srcp_routes.specs.declared.route.Route.{Route}
use Rattle.srcp_routes.specs.declared.route.Setting.{Setting}
use Rattle.srcp_routes.specs.declared.route.Signal.{Signal}
use Rattle.srcp_plan_file.specs.declared.drawing.Piece.{Piece}
use Rattle.srcp_plan_file.specs.declared.element.Kind.{Kind}
use Rattle.srcp_plan_file.specs.declared.join.Join.{Join}
use Rattle.srcp_plan_file.specs.declared.plan.Plan.{Plan}
use Rattle.srcp_plan_file.specs.declared.tracks.Tracks.{Tracks}

-- the last port of an accessory, whose ports are counted from 0
abbrev pub last_port : ℕ
last_port = most_ports - 1

-- for how many seconds a route keeps its locks at most, and for how many if the plan does not say
abbrev pub longest_delay : ℕ
longest_delay = 600

abbrev pub default_delay : ℕ
default_delay = 30

-- what a plan says of one route
pub record PlannedRoute : Type 0 where
  pub number : ℕ
  pub turnouts : List Setting
  pub blocks : List Device
  pub signal : Option Signal
  pub frees : Option Device
  pub sections : List Device
  pub approach : List Device
  pub delay : ℕ
  pub pieces : List ℕ

-- the tracks of a drawing: its text, the pieces and what each of them is, and the joins as a train passes to the right
pub record Drawn : Type 0 where
  pub text : List ℕ
  pub pieces : List Piece
  pub kinds : List Kind
  pub joins : List Join

-- what a plan says
pub record Planned : Type 0 where
  pub bus : ℕ
  pub drawn : Drawn
  pub routes : List PlannedRoute

abbrev pub planned_route : Route → PlannedRoute
planned_route route = record {
  number = route.number;
  turnouts = route.turnouts.items;
  blocks = route.blocks.items;
  signal = route.signal;
  frees = route.frees;
  sections = route.sections.items;
  approach = route.approach.items;
  delay = route.delay;
  pieces = route.pieces.items;
}

abbrev pub drawn : Tracks → Drawn
drawn tracks = record {
  text = tracks.text.items;
  pieces = tracks.pieces.items;
  kinds = tracks.kinds.items;
  joins = tracks.joins.items;
}

abbrev pub planned : Plan → Planned
planned plan =
    record { bus = plan.bus; drawn = drawn plan.tracks; routes = map planned_route plan.routes.items }

-- ---- accessories

-- the signal of the first route is a turnout of the second
abbrev pub turns_signal : PlannedRoute → PlannedRoute → Bool
turns_signal route other =
    option_map_or (λ (signal : Signal). has_accessory other.turnouts signal.device) route.signal false

-- a signal of one is a turnout of the other
abbrev pub mixes : PlannedRoute → PlannedRoute → Bool
mixes route other = turns_signal route other || turns_signal other route

-- these are one accessory, and a port of it shows "go" for one and "stop" for the other
abbrev pub is_crossed : Signal → Signal → Bool
is_crossed one two = is_same one.device two.device && ((one.go == two.stop) || (one.stop == two.go))

-- a port of a signal shows "go" for one route and "stop" for the other
abbrev pub crosses : PlannedRoute → PlannedRoute → Bool
crosses route other = option_map_or
    (λ one. option_map_or (λ two. is_crossed one two) other.signal false) route.signal false

-- ---- what every plan keeps to

-- a device within the limits that is not on the routes' own bus
pub record IsBeside (own greatest : ℕ) (device : Device) : Type 0 where
  pub bus : (1 ≤ device.bus) × (device.bus ≤ greatest_bus)
  pub other : device.bus ≢ own
  pub address : (1 ≤ device.address) × (device.address ≤ greatest)

-- an accessory within the limits that is not on the routes' own bus
abbrev pub IsAccessory : (own : ℕ) → Device → Type 0
IsAccessory own = IsBeside own greatest_ga

-- the same of a sensor
abbrev pub IsSensor : (own : ℕ) → Device → Type 0
IsSensor own = IsBeside own greatest_fb

-- a turnout with a port that an accessory may have
pub record IsTurnout (own : ℕ) (turnout : Setting) : Type 0 where
  pub device : IsAccessory own turnout.device
  pub port : turnout.port ≤ last_port

-- a signal whose ports for "go" and "stop" differ
pub record IsSignal (own : ℕ) (signal : Signal) : Type 0 where
  pub device : IsAccessory own signal.device
  pub go : signal.go ≤ last_port
  pub stop : signal.stop ≤ last_port
  pub differ : signal.go ≢ signal.stop

-- two turnouts that are not one accessory
abbrev pub AreOther : Setting → Setting → Type 0
AreOther turnout other = is_same turnout.device other.device ≡ false

-- a route within the limits that names no accessory twice
pub record IsRoute (own : ℕ) (route : PlannedRoute) : Type 0 where
  pub number : (1 ≤ route.number) × (route.number ≤ greatest_ga)
  pub turnouts : All (IsTurnout own) route.turnouts
  pub blocks : All (IsSensor own) route.blocks
  pub signal : IfSome route.signal (IsSignal own)
  pub frees : IfSome route.frees (IsSensor own)
  pub sections : All (IsSensor own) route.sections
  pub approach : All (IsSensor own) route.approach
  pub delay : (1 ≤ route.delay) × (route.delay ≤ longest_delay)
  pub turnouts_once : AllPairs AreOther route.turnouts
  pub signal_once : turns_signal route route ≡ false

-- two routes that differ in their numbers, and do not use one accessory in two ways
pub record AreApart (route other : PlannedRoute) : Type 0 where
  pub numbers : route.number ≢ other.number
  pub unmixed : mixes route other ≡ false
  pub uncrossed : crosses route other ≡ false

-- a plan that may be run
pub record IsPlan (plan : Planned) : Type 0 where
  pub bus : (1 ≤ plan.bus) × (plan.bus ≤ greatest_bus)
  pub each : All (IsRoute plan.bus) plan.routes
  pub apart : AllPairs AreApart plan.routes
