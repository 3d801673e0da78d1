-- Which routes conflict, and which sensors are free.
use Rattle.std.specs.Prelude.{ℕ, ◌==◌, Bool, true, false, ◌&&◌, ◌||◌, List, ◌++◌, map}
use Rattle.std.specs.Prelude.{if◌then◌else◌, option_to_list}
use Rattle.std.specs.List.{flat_map, list_any, list_all}
use Rattle.std.specs.Option.{option_map_or}
use Rattle.srcp_routes.specs.declared.conflict.Sensed.{Sensed}
use Rattle.srcp_routes.specs.declared.route.Device.{Device}
use Rattle.srcp_routes.specs.declared.route.Occupancy.{Occupancy}
use Rattle.srcp_routes.specs.declared.route.Occupancy.TheVariants as occupancy
use Rattle.srcp_routes.specs.declared.route.Route.{Route}
use Rattle.srcp_routes.specs.declared.route.Setting.{Setting}
use Rattle.srcp_routes.specs.declared.route.Signal.{Signal}

abbrev pub is_same : Device → Device → Bool
is_same a b = (a.bus == b.bus) && (a.address == b.address)

abbrev pub is_signal : Route → Device → Bool
is_signal route device = option_map_or (λ (signal : Signal). is_same signal.device device) route.signal false

-- one of these turnouts is that accessory
abbrev pub has_accessory : List Setting → Device → Bool
has_accessory turnouts device = list_any (λ (turnout : Setting). is_same turnout.device device) turnouts

abbrev pub has_turnout : Route → Device → Bool
has_turnout route device = has_accessory route.turnouts.items device

-- a route has this accessory as its signal or as a turnout
abbrev pub uses : Route → Device → Bool
uses route device = is_signal route device || has_turnout route device

-- a route has a block at this sensor
abbrev pub has_block : Route → Device → Bool
has_block route sensor = list_any (λ block. is_same block sensor) route.blocks.items

-- this piece of track is one of a route
abbrev pub has_piece : Route → ℕ → Bool
has_piece route piece = list_any (λ own. own == piece) route.pieces.items

abbrev pub signal_meets : Route → Route → Bool
signal_meets route other = option_map_or (λ (signal : Signal). uses other signal.device) route.signal false

abbrev pub turnouts_meet : Route → Route → Bool
turnouts_meet route other = list_any (λ (turnout : Setting). uses other turnout.device) route.turnouts.items

abbrev pub blocks_meet : Route → Route → Bool
blocks_meet route other = list_any (λ block. has_block other block) route.blocks.items

abbrev pub pieces_meet : Route → Route → Bool
pieces_meet route other = list_any (λ piece. has_piece other piece) route.pieces.items

-- an accessory, a block or a piece of track of one route is one of the other
abbrev pub meets : Route → Route → Bool
meets route other = signal_meets route other
    || (turnouts_meet route other || (blocks_meet route other || pieces_meet route other))

-- two routes share a turnout, a signal, a block or a piece of track
abbrev pub conflicts : Route → Route → Bool
conflicts route other = meets route other || meets other route

-- 0 was told last
abbrev pub is_vacant : Occupancy → Bool
is_vacant occupancy.Free = true
is_vacant other = false

-- 1 was told last
abbrev pub is_taken : Occupancy → Bool
is_taken occupancy.Occupied = true
is_taken other = false

-- a sensor was last told to be 0
abbrev pub is_free : List Sensed → Device → Bool
is_free sensors sensor =
    list_any (λ (known : Sensed). is_vacant known.occupancy && is_same known.sensor sensor) sensors

-- a sensor was last told to be 1
abbrev pub is_occupied : List Sensed → Device → Bool
is_occupied sensors sensor =
    list_any (λ (known : Sensed). is_taken known.occupancy && is_same known.sensor sensor) sensors

abbrev pub are_free : List Sensed → List Device → Bool
are_free sensors blocks = list_all (λ block. is_free sensors block) blocks

-- what is known of a sensor after something was told of one
abbrev pub told_sensor : Device → Occupancy → Sensed → Sensed
told_sensor sensor now known = if is_same known.sensor sensor then record known { occupancy = now } else known

-- a sensor of which nothing was told
abbrev pub unknown : Device → Sensed
unknown sensor = record { sensor = sensor; occupancy = occupancy.Unknown }

-- the sensors of a route: its approach, its blocks, the one that frees it, and its sections
abbrev pub route_sensors : Route → List Sensed
route_sensors route = map unknown (route.approach.items
    ++ (route.blocks.items ++ (option_to_list route.frees ++ route.sections.items)))

-- those of all routes
abbrev pub sensors_of : List Route → List Sensed
sensors_of routes = flat_map route_sensors routes
