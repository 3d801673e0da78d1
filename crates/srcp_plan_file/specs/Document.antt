-- What a plan says: from the bytes of a TOML document to the routes, or to the first fault.
use Rattle.std.specs.Prelude.{ℕ, Bool, ◌==◌, ◌||◌, if◌then◌else◌, List, [], ◌∷◌, ◌++◌, Option, Some, None, Ok, Err}
use Rattle.std.specs.Prelude.{is_some}
use Rattle.std.specs.Prelude.{length, map, nat_eq, ok_or, option_and_then, option_map, unwrap_or}
use Rattle.std.specs.List.{list_any, position}
use Rattle.std.specs.Cmp.Lexicographic.{pointwise}
use Rattle.toml.specs.Data.{Data, table, Members, as_str, as_table}
use Rattle.srcp_layout_file.specs.Gives.{◌>>=◌}
use Rattle.srcp_info.specs.Limits.{greatest_bus, greatest_ga}
use Rattle.srcp_layout_file.specs.Member.{array_at, array_in, document, if_given, number_at, ranged, value_at}
use Rattle.srcp_routes.specs.Conflicts.{has_accessory}
use Rattle.srcp_routes.specs.declared.route.Device.{Device}
use Rattle.srcp_routes.specs.declared.route.Setting.{Setting}
use Rattle.srcp_routes.specs.declared.route.Signal.{Signal}
use Rattle.srcp_plan_file.specs.Behind.{found_blocks, found_sections}
use Rattle.srcp_plan_file.specs.Faults.{plan_key}
use Rattle.srcp_plan_file.specs.Devices.{OrFault, is_turnout, sensor_of, signal_of, turnout_of}
use Rattle.srcp_plan_file.specs.Drawing.{drawing, name_of}
use Rattle.srcp_plan_file.specs.Elements.{kind_of}
use Rattle.srcp_plan_file.specs.Joins.{joins_of}
use Rattle.srcp_plan_file.specs.Keys.{only_known, plan_keys, route_keys}
use Rattle.srcp_plan_file.specs.Plan.{Drawn, Planned, PlannedRoute, crosses, default_delay, longest_delay, mixes}
use Rattle.srcp_plan_file.specs.Searches.{Walked, ways_between}
use Rattle.srcp_plan_file.specs.Ways.{way}
use Rattle.srcp_plan_file.specs.declared.plan.Field.{Field}
use Rattle.srcp_plan_file.specs.declared.plan.Field.TheVariants as field
use Rattle.srcp_plan_file.specs.declared.plan.PlanFault.TheVariants as fault

-- ---- the drawing

-- the text at a key, if it is one
abbrev pub text_at : Field → Members → Option (List ℕ)
text_at of members = option_and_then as_str (value_at (plan_key of) members)

-- the legend, if it is a table
abbrev pub legend_at : Members → Option Members
legend_at members = option_and_then as_table (value_at (plan_key field.Legend) members)

-- the tracks of a drawing, with what the legend says of them
abbrev pub drawn_of : (text : List ℕ) → Option Members → Drawn
drawn_of text legend = record {
  text = text;
  pieces = drawing text;
  kinds = map (kind_of text legend) (drawing text);
  joins = joins_of (drawing text);
}

-- those of the document's drawing, if there is one
abbrev pub drawn_in : Members → Drawn
drawn_in members = drawn_of (unwrap_or (text_at field.Plan members) []) (legend_at members)

-- the piece of this name
abbrev pub piece_named : Drawn → (name : List ℕ) → Option ℕ
piece_named drawn name = position (λ piece. pointwise nat_eq (name_of drawn.text piece) name) drawn.pieces

-- the way from one name to another
abbrev pub way_between : Drawn → List Setting → (from to : List ℕ) → Option (List ℕ)
way_between drawn turnouts from to = option_and_then
    (λ begin. option_and_then (way drawn.joins drawn.kinds turnouts begin) (piece_named drawn to))
    (piece_named drawn from)

-- the ways from one name to another that pass no button
abbrev pub ways_named : Drawn → (from to : List ℕ) → List Walked
ways_named drawn from to = unwrap_or (option_and_then
    (λ begin. option_map (ways_between drawn.joins drawn.kinds begin) (piece_named drawn to))
    (piece_named drawn from)) []

-- the turnouts of a route that has only one way
abbrev pub only_way : (number : ℕ) → List Walked → OrFault (List Setting)
only_way number [] = Err (fault.NoTrack number)
only_way number (walk ∷ []) = Ok walk.turnouts
only_way number several = Err (fault.Several number)

-- the pieces of the way of a route from one name to another, which there has to be
abbrev pub pieces_between : Drawn → (number : ℕ) → List Setting → Option (List ℕ) → Option (List ℕ) → OrFault (List ℕ)
pieces_between drawn number turnouts (Some from) (Some to) =
    ok_or (way_between drawn turnouts from to) (fault.NoWay number)
pieces_between drawn number turnouts from to = Ok []

-- the pieces of the way of a route, none if nothing is drawn or the route names no ends
abbrev pub pieces_at : Drawn → (number : ℕ) → List Setting → Members → OrFault (List ℕ)
pieces_at drawn number turnouts members = if length drawn.pieces == 0 then Ok []
    else pieces_between drawn number turnouts (text_at field.From members) (text_at field.To members)

-- ---- routes

-- a turnout that is none of those before it
abbrev pub new_turnout : (number : ℕ) → List Setting → Setting → OrFault Setting
new_turnout number before turnout =
    if has_accessory before turnout.device then Err (fault.Repeated number) else Ok turnout

-- a signal that is none of the turnouts
abbrev pub new_signal : (number : ℕ) → List Setting → Signal → OrFault (Option Signal)
new_signal number turnouts signal =
    if has_accessory turnouts signal.device then Err (fault.Repeated number) else Ok (Some signal)

-- the values of an array at a key of the route, none if it is not given
abbrev pub array_if : (number : ℕ) → Field → Members → OrFault (List Data)
array_if number of members = if_given [] (array_in (fault.Beyond number of)) (value_at (plan_key of) members)

-- the sensors that are given at a key of the route, or those that are found, if the route names its ends alone
abbrev pub given_or_found : Field → Members → (given found : List Device) → List Device
given_or_found of members given found =
    if is_some (value_at (plan_key field.Turnouts) members) || is_some (value_at (plan_key of) members) then given
    else found

-- for how many seconds a route keeps its locks
abbrev pub delay_at : (number : ℕ) → Members → OrFault ℕ
delay_at number members = if_given default_delay (ranged 1 longest_delay (fault.Beyond number field.Delay))
    (value_at (plan_key field.Delay) members)

module _ (own number : ℕ) where
  -- a turnout beside those before it
  abbrev pub turnout_in : List Setting → Data → OrFault Setting
  turnout_in before value =
      array_in (fault.Beyond number field.Turnouts) value >>= turnout_of own (fault.Beyond number field.Turnouts)
      >>= new_turnout number before

  -- the turnouts before, and these from left to right
  abbrev pub turnouts_in : List Setting → List Data → OrFault (List Setting)
  turnouts_in before [] = Ok before
  turnouts_in before (value ∷ values) = do
    turnout ← turnout_in before value
    turnouts_in (before ++ turnout ∷ []) values

  -- a turnout of the drawing beside those before it
  abbrev pub drawn_turnout : List Setting → Setting → OrFault Setting
  drawn_turnout before turnout =
      if is_turnout own turnout then new_turnout number before turnout
      else Err (fault.Beyond number field.Turnouts)

  -- the turnouts before, and these of the drawing
  abbrev pub drawn_turnouts : List Setting → List Setting → OrFault (List Setting)
  drawn_turnouts before [] = Ok before
  drawn_turnouts before (turnout ∷ turnouts) = do
    next ← drawn_turnout before turnout
    drawn_turnouts (before ++ next ∷ []) turnouts

  -- the turnouts of the only way of the drawing from one end to the other
  abbrev pub turnouts_between : Drawn → Option (List ℕ) → Option (List ℕ) → OrFault (List Setting)
  turnouts_between drawn (Some from) (Some to) = only_way number (ways_named drawn from to) >>= drawn_turnouts []
  turnouts_between drawn from to = Ok []

  -- those, if anything is drawn
  abbrev pub found_turnouts : Drawn → Members → OrFault (List Setting)
  found_turnouts drawn members = if length drawn.pieces == 0 then Ok []
      else turnouts_between drawn (text_at field.From members) (text_at field.To members)

  -- these turnouts, or those that are found, if none are given
  abbrev pub turnouts_or_found : Drawn → Members → Option Data → OrFault (List Setting)
  turnouts_or_found drawn keys None = found_turnouts drawn keys
  turnouts_or_found drawn keys (Some value) =
      array_in (fault.Beyond number field.Turnouts) value >>= turnouts_in []

  -- the turnouts of the route
  abbrev pub turnouts_at : Drawn → Members → OrFault (List Setting)
  turnouts_at drawn members = turnouts_or_found drawn members (value_at (plan_key field.Turnouts) members)

  -- a sensor of this key
  abbrev pub sensor_in : Field → Data → OrFault Device
  sensor_in of value = array_in (fault.Beyond number of) value >>= sensor_of own (fault.Beyond number of)

  -- the sensors before, and these of a key from left to right
  abbrev pub sensors_in : Field → List Device → List Data → OrFault (List Device)
  sensors_in of before [] = Ok before
  sensors_in of before (value ∷ values) = do
    sensor ← sensor_in of value
    sensors_in of (before ++ sensor ∷ []) values

  -- the sensors at a key of the route, none if it is not given
  abbrev pub sensors_at : Field → Members → OrFault (List Device)
  sensors_at of members = array_if number of members >>= sensors_in of []

  -- the signal beside the turnouts
  abbrev pub signal_in : List Setting → Data → OrFault (Option Signal)
  signal_in turnouts value =
      array_in (fault.Beyond number field.Signal) value >>= signal_of own (fault.Beyond number field.Signal)
      >>= new_signal number turnouts

  -- the signal of the route, if it is given
  abbrev pub signal_at : List Setting → Members → OrFault (Option Signal)
  signal_at turnouts members = if_given None (signal_in turnouts) (value_at (plan_key field.Signal) members)

  -- the sensor that frees it, if it is given
  abbrev pub frees_at : Members → OrFault (Option Device)
  frees_at members = if_given None (λ value. sensor_in field.Frees value >>= (λ sensor. Ok (Some sensor)))
      (value_at (plan_key field.Frees) members)

  -- the route of this number, from its keys
  abbrev pub route_numbered : Drawn → Members → OrFault PlannedRoute
  route_numbered drawn members = do
    turnouts ← turnouts_at drawn members
    blocks ← sensors_at field.Blocks members
    signal ← signal_at turnouts members
    frees ← frees_at members
    sections ← sensors_at field.Sections members
    approach ← sensors_at field.Approach members
    delay ← delay_at number members
    pieces ← pieces_at drawn number turnouts members
    Ok (record {
      number = number;
      turnouts = turnouts;
      blocks = given_or_found field.Blocks members blocks (found_blocks own drawn.kinds signal pieces);
      signal = signal;
      frees = frees;
      sections = given_or_found field.Sections members sections (found_sections own drawn.kinds signal pieces);
      approach = approach;
      delay = delay;
      pieces = pieces;
    })

-- a route has this number
abbrev pub is_numbered : ℕ → PlannedRoute → Bool
is_numbered number route = route.number == number

-- the number of a route that is not there yet
abbrev pub new_number : List PlannedRoute → ℕ → OrFault ℕ
new_number before number = if list_any (is_numbered number) before then Err (fault.Twice number) else Ok number

-- a route uses no accessory in another way than this one
abbrev pub apart_from : PlannedRoute → PlannedRoute → OrFault Unit
apart_from other route =
    if mixes other route then Err (fault.Mixed other.number route.number)
    else (if crosses other route then Err (fault.Crossed other.number route.number) else Ok tt)

-- a route uses no accessory in another way than those before it
abbrev pub apart_from_all : List PlannedRoute → PlannedRoute → OrFault Unit
apart_from_all [] route = Ok tt
apart_from_all (other ∷ others) route = do
  _ ← apart_from other route
  apart_from_all others route

-- a route beside those before it
abbrev pub route_of : (own : ℕ) → Drawn → List PlannedRoute → Members → OrFault PlannedRoute
route_of own drawn before members = do
  number ← number_at 1 greatest_ga (plan_key field.Number) members >>= new_number before
  _ ← only_known route_keys (fault.UnknownIn number) members
  route ← route_numbered own number drawn members
  _ ← apart_from_all before route
  Ok route

-- a route is a table
abbrev pub route_in : (own : ℕ) → Drawn → List PlannedRoute → Data → OrFault PlannedRoute
route_in own drawn before (table members) = route_of own drawn before members
route_in own drawn before other = Err (fault.OutOfRange field.Route)

-- the routes before, and these in the order of the document
abbrev pub routes_in : (own : ℕ) → Drawn → List PlannedRoute → List Data → OrFault (List PlannedRoute)
routes_in own drawn before [] = Ok before
routes_in own drawn before (value ∷ values) = do
  route ← route_in own drawn before value
  routes_in own drawn (before ++ route ∷ []) values

-- ---- documents

-- what a document says
abbrev pub plan_in : Members → OrFault Planned
plan_in members = do
  _ ← only_known plan_keys fault.Unknown members
  bus ← number_at 1 greatest_bus (plan_key field.Bus) members
  routes ← array_at (plan_key field.Route) members >>= routes_in bus (drawn_in members) []
  Ok (record { bus = bus; drawn = drawn_in members; routes = routes })

-- what the bytes of a plan say
abbrev pub plan_of : List ℕ → OrFault Planned
plan_of bytes = document fault.NotToml bytes >>= plan_in
