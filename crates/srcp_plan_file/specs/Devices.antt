-- Turnouts, sensors and signals of a plan, each an array of numbers.
use Rattle.std.specs.Prelude.{ℕ, Bool, not, ◌&&◌, ◌==◌, if◌then◌else◌, List, [], ◌∷◌, Result, Ok, Err}
use Rattle.toml.specs.Data.{Data}
use Rattle.srcp_layout_file.specs.Gives.{◌>>=◌}
use Rattle.srcp_grammar.specs.Layout.{is_within}
use Rattle.srcp_info.specs.Limits.{greatest_bus, greatest_ga, greatest_fb}
use Rattle.srcp_layout_file.specs.Member.{ranged}
use Rattle.srcp_routes.specs.declared.route.Device.{Device}
use Rattle.srcp_routes.specs.declared.route.Setting.{Setting}
use Rattle.srcp_routes.specs.declared.route.Signal.{Signal}
use Rattle.srcp_plan_file.specs.Plan.{last_port}
use Rattle.srcp_plan_file.specs.declared.plan.PlanFault.{PlanFault}

-- what may be read, or the first fault
abbrev pub OrFault : Type 0 → Type 0
OrFault A = Result A PlanFault

-- a bus, which is not the routes' own
abbrev pub other_bus : (own : ℕ) → PlanFault → ℕ → OrFault ℕ
other_bus own beyond bus = if bus == own then Err beyond else Ok bus

-- a device of its bus and its address
abbrev pub device_of : (own greatest : ℕ) → PlanFault → (bus address : Data) → OrFault Device
device_of own greatest beyond bus address = do
  number ← ranged 1 greatest_bus beyond bus >>= other_bus own beyond
  place ← ranged 1 greatest beyond address
  Ok (record { bus = number; address = place })

-- a turnout of its bus, its address and its port
abbrev pub turnout_of : (own : ℕ) → PlanFault → List Data → OrFault Setting
turnout_of own beyond (bus ∷ address ∷ port ∷ []) = do
  device ← device_of own greatest_ga beyond bus address
  wanted ← ranged 0 last_port beyond port
  Ok (record { device = device; port = wanted })
turnout_of own beyond other = Err beyond

-- a turnout within the limits that is not on the routes' own bus
abbrev pub is_turnout : (own : ℕ) → Setting → Bool
is_turnout own turnout = not (turnout.device.bus == own)
    && (is_within 1 greatest_bus turnout.device.bus
    && (is_within 1 greatest_ga turnout.device.address && is_within 0 last_port turnout.port))

-- the same of a sensor
abbrev pub is_sensor : (own : ℕ) → Device → Bool
is_sensor own sensor = not (sensor.bus == own)
    && (is_within 1 greatest_bus sensor.bus && is_within 1 greatest_fb sensor.address)

-- a sensor of its bus and its address
abbrev pub sensor_of : (own : ℕ) → PlanFault → List Data → OrFault Device
sensor_of own beyond (bus ∷ address ∷ []) = device_of own greatest_fb beyond bus address
sensor_of own beyond other = Err beyond

-- a signal of two ports, which differ
abbrev pub signal_with : PlanFault → Device → (go stop : ℕ) → OrFault Signal
signal_with beyond device go stop =
    if go == stop then Err beyond else Ok (record { device = device; go = go; stop = stop })

-- a signal of its bus, its address, and its ports for "go" and "stop"
abbrev pub signal_of : (own : ℕ) → PlanFault → List Data → OrFault Signal
signal_of own beyond (bus ∷ address ∷ go ∷ stop ∷ []) = do
  device ← device_of own greatest_ga beyond bus address
  shown ← ranged 0 last_port beyond go
  stopped ← ranged 0 last_port beyond stop
  signal_with beyond device shown stopped
signal_of own beyond other = Err beyond
