-- The sensors of a route that names its ends alone: those behind the signal of the route.
use Rattle.std.specs.Prelude.{ℕ, Bool, false, List, [], ◌∷◌, Option, if◌then◌else◌, length, nat_lt}
use Rattle.std.specs.List.{flat_map}
use Rattle.std.specs.Option.{option_map_or}
use Rattle.srcp_routes.specs.Conflicts.{is_same}
use Rattle.srcp_routes.specs.declared.route.Device.{Device}
use Rattle.srcp_routes.specs.declared.route.Signal.{Signal}
use Rattle.srcp_plan_file.specs.Devices.{is_sensor}
use Rattle.srcp_plan_file.specs.Ways.{kind_at}
use Rattle.srcp_plan_file.specs.declared.element.Kind.{Kind}
use Rattle.srcp_plan_file.specs.declared.element.Kind.TheVariants as kind

-- a piece is this signal
abbrev pub is_at : Kind → Device → Bool
is_at (kind.Signal device) signal = is_same device signal
is_at other signal = false

-- the pieces behind a signal, none if it is not among these
abbrev pub behind : List Kind → Device → List ℕ → List ℕ
behind kinds signal [] = []
behind kinds signal (n ∷ pieces) = if is_at (kind_at kinds n) signal then pieces else behind kinds signal pieces

-- the sensor of a piece, if there is one on another bus than the routes' own
abbrev pub sensor_here : (own : ℕ) → Kind → List Device
sensor_here own (kind.Sensor device) = if is_sensor own device then device ∷ [] else []
sensor_here own other = []

-- those of these pieces
abbrev pub sensors_on : (own : ℕ) → List Kind → List ℕ → List Device
sensors_on own kinds pieces = flat_map (λ n. sensor_here own (kind_at kinds n)) pieces

-- what follows a turnout in place of what was kept so far
abbrev pub kept_at : Kind → (kept pieces : List ℕ) → List ℕ
kept_at (kind.Turnout device branch) kept pieces = pieces
kept_at other kept pieces = kept

-- the pieces behind the last turnout, or those that are kept, if there is none
abbrev pub past : List Kind → (kept : List ℕ) → List ℕ → List ℕ
past kinds kept [] = kept
past kinds kept (n ∷ pieces) = past kinds (kept_at (kind_at kinds n) kept pieces) pieces

abbrev pub past_turnouts : List Kind → List ℕ → List ℕ
past_turnouts kinds pieces = past kinds pieces pieces

-- the sensors of a way behind the signal
abbrev pub found_blocks : (own : ℕ) → List Kind → Option Signal → List ℕ → List Device
found_blocks own kinds signal pieces =
    option_map_or (λ (signal : Signal). sensors_on own kinds (behind kinds signal.device pieces)) signal []

-- the same sensors, if two of the way at least lie behind all turnouts
abbrev pub found_sections : (own : ℕ) → List Kind → Option Signal → List ℕ → List Device
found_sections own kinds signal pieces =
    if nat_lt (length (sensors_on own kinds (past_turnouts kinds pieces))) 2 then []
    else found_blocks own kinds signal pieces
