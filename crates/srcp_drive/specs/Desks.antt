-- What a desk makes of the lines that are handed in.
use Rattle.std.specs.Prelude.{◌≡◌, ℕ, ◌+◌, ◌*◌, ◌-◌, ◌==◌, Bool, true, false, ◌&&◌, ◌||◌, List, [], ◌∷◌, ◌++◌}
use Rattle.std.specs.Prelude.{Option, Some, None, codes, if◌then◌else◌, is_none, nat_eq, nat_le, nat_lt}
use Rattle.std.specs.Prelude.{replicate, slice_get, slice_set}
use Rattle.std.specs.List.{starts_with}
use Rattle.std.specs.Option.{option_map_or}
use Rattle.std.specs.Str.{bytes_eq}
use Rattle.srcp_driver.specs.Board.{Board, board_after, board_start, board_step, is_row}
use Rattle.srcp_driver.specs.Steps.{Stepped, Table, start, step}
use Rattle.srcp_driver.specs.declared.drive.Drive.{Drive}
use Rattle.srcp_driver.specs.declared.drive.Speed.{Speed}
use Rattle.srcp_driver.specs.declared.drive.Speed.TheVariants as speed
use Rattle.srcp_driver.specs.declared.event.Event.{Event}
use Rattle.srcp_driver.specs.declared.event.Event.TheVariants as event
use Rattle.srcp_driver.specs.declared.event.Put.{Put}
use Rattle.srcp_driver.specs.declared.event.Tell.{Tell}
use Rattle.srcp_driver.specs.declared.settings.BoardEvent.{BoardEvent}
use Rattle.srcp_driver.specs.declared.settings.BoardEvent.TheVariants as board
use Rattle.srcp_info.specs.Key.{is_after}
use Rattle.srcp_info.specs.Limits.{most_functions}
use Rattle.srcp_info.specs.declared.change.Change.{Change}
use Rattle.srcp_info.specs.declared.change.Change.TheVariants.{Put as PutRow, Gone}
use Rattle.srcp_info.specs.declared.key.Group.{Group}
use Rattle.srcp_info.specs.declared.key.Group.TheVariants as group
use Rattle.srcp_info.specs.declared.key.Key.{Key}
use Rattle.srcp_info.specs.declared.value.Value.{Value}
use Rattle.srcp_info.specs.declared.value.Value.TheVariants.{GaPort, GlInit, GlState, Power}
use Rattle.srcp_stations.specs.Limits.{greatest_turnout}
use Rattle.srcp_stations.specs.declared.drive.Drive.{Drive as StationDrive}
use Rattle.srcp_stations.specs.declared.drive.Speed.{Speed as StationSpeed}
use Rattle.srcp_stations.specs.declared.drive.Speed.TheVariants as station_speed
use Rattle.srcp_stations.specs.declared.said.Said.{Said}
use Rattle.srcp_stations.specs.declared.said.Said.TheVariants as said
use Rattle.srcp_stations.specs.declared.said.Track.{Track}
use Rattle.srcp_stations.specs.declared.said.Track.TheVariants as track
use Rattle.srcp_drive.specs.Engines.{drive_at, free, kept, made, most_cabs, place_of, turned}
use Rattle.srcp_drive.specs.Hearing.{Hears}
use Rattle.srcp_drive.specs.Orders.{function_text, put_text, sense_text, tell_text, turnout_text}
use Rattle.srcp_drive.specs.Settling.{answered}
use Rattle.srcp_drive.specs.declared.engine.Engine.{Engine}
use Rattle.srcp_drive.specs.declared.engine.State.{State}
use Rattle.srcp_drive.specs.declared.hearing.Heard.{Heard}
use Rattle.srcp_drive.specs.declared.hearing.Heard.TheVariants as heard

-- how many orders the driver may tell between two moments, and how many milliseconds lie between two turnouts
abbrev pub pace : ℕ
pace = 1000

abbrev pub turnout_gap : ℕ
turnout_gap = 333

-- the most bytes of the orders that follow an event
abbrev pub longest_orders : ℕ
longest_orders = 92

-- a desk: its bus, the locomotives, the driver, functions and turnouts, the last row that was listed, and whether the
-- row of power said last that it is on
pub record Desk : Type 0 where
  pub bus : ℕ
  pub engines : List Engine
  pub driver : Table
  pub functions : Board
  pub turnouts : Board
  pub last_row : Option Key
  pub is_on : Bool

-- before any line
abbrev pub desk_of : ℕ → Desk
desk_of bus = record {
  bus = bus;
  engines = replicate most_cabs free;
  driver = start most_cabs pace;
  functions = board_start (most_cabs * most_functions) (record { is_kept = false; confirms = false; gap = 0 });
  turnouts = board_start greatest_turnout (record { is_kept = true; confirms = false; gap = turnout_gap });
  last_row = None;
  is_on = false;
}

-- a desk, and the lines that follow
pub record Taken : Type 0 where
  pub desk : Desk
  pub text : List ℕ

-- nothing follows
abbrev pub nothing : Desk → Taken
nothing d = record { desk = d; text = [] }

-- ---- events of the driver

-- what an event of the driver leads to
abbrev pub acted : Desk → Event → Stepped
acted d event = answered most_cabs d.engines (step d.driver event)

abbrev pub driven : Desk → Event → Desk
driven d event = record d { driver = (acted d event).table; engines = turned d.engines (acted d event).put }

-- the lines of orders
abbrev pub orders_text : Desk → Option Tell → Option Put → List ℕ
orders_text d tell put = tell_text d.engines tell ++ put_text d.bus d.engines put

-- the driver takes in an event
unfoldable pub one : Desk → Event → Taken
one d event = let on = driven d event in
    record { desk = on; text = orders_text on (acted d event).tell (acted d event).put }

-- .. if there is one
unfoldable pub maybe : Desk → Option Event → Taken
maybe d event = option_map_or (one d) event (nothing d)

-- .. behind another
abbrev pub also : Taken → Option Event → Taken
also first event = let more = maybe first.desk event in record { desk = more.desk; text = first.text ++ more.text }

-- functions and turnouts take in an event
unfoldable pub boards : Desk → BoardEvent → Desk
boards d event = record d {
  functions = board_after d.functions event false;
  turnouts = board_after d.turnouts event false;
}

-- the station takes one thing more: an order of the driver, or else a function, or else a turnout
unfoldable pub next : Desk → Taken
next d =
    let orders = acted d event.Ready in
    let on = driven d event.Ready in
    let functions = board_step d.functions board.Turn (is_none orders.tell) in
    let turnouts = board_step d.turnouts board.Turn (is_none orders.tell && is_none functions.tell) in
    record {
      desk = record on { functions = functions.board; turnouts = turnouts.board };
      text = (orders_text on orders.tell orders.put ++ function_text on.engines functions.tell)
          ++ turnout_text turnouts.tell;
    }

-- ---- rows

-- a row is listed if it stands behind the last one that was listed, or is the first
abbrev pub is_listed : Option Key → Key → Bool
is_listed last key = option_map_or (is_after key) last true

-- the row of a function: one that says what the board has changes nothing
unfoldable pub function_heard : Board → ℕ → Bool → Board
function_heard b place on = if is_row b.switches place on then b else board_after b (board.Row place on) false

-- those of functions from that of a place on
abbrev pub functions_heard : Board → ℕ → List Bool → Board
functions_heard b place [] = b
functions_heard b place (on ∷ bits) = functions_heard (function_heard b place on) (place + 1) bits

-- the row of the locomotive at a place has it do this
unfoldable pub cab_does : Desk → ℕ → Drive → Bool → List Bool → Taken
cab_does d n drive listed functions = one (record d {
  engines = kept d.engines n drive;
  functions = functions_heard d.functions (n * most_functions) functions;
}) (event.Row n drive listed)

-- the row of a locomotive, which is driven or not
unfoldable pub cab_row : Desk → ℕ → Bool → State → List Bool → Taken
cab_row d address listed state functions = option_map_or
    (λ n. option_map_or (λ drive. cab_does d n drive listed functions) (drive_at d.engines n state) (nothing d))
    (place_of d.engines address) (nothing d)

-- STOP ALL comes as the text of the power
abbrev pub is_stop_all : List ℕ → Bool
is_stop_all text = bytes_eq text (codes "stop all")

-- a text of power that is on which switches nothing on
abbrev pub is_only_told : List ℕ → Bool
is_only_told text =
    is_stop_all text || (bytes_eq text (codes "all stood") || (bytes_eq text (codes "confirms again")
    || (starts_with nat_eq text (codes "does not confirm:") || starts_with nat_eq text (codes "thrown by hand:"))))

-- what a row tells of the power: with such a text nothing, if the power was on
abbrev pub power_event : Bool → Bool → Bool → Bool → Option Event
power_event listed was on only_told =
    if on && only_told then (if was then None else Some (event.Power true true)) else Some (event.Power on listed)

-- the row of the power: all stop first
unfoldable pub power_row : Desk → Bool → Bool → List ℕ → Taken
power_row d listed on text =
    let noted = record d { is_on = on } in
    let switched = power_event listed d.is_on on (is_only_told text) in
    if is_stop_all text then also (one noted event.StopAll) switched else maybe noted switched

-- the port of an accessory that was put on last says how a turnout lies
unfoldable pub turnout_row : Desk → Key → Bool → Desk
turnout_row d key on = if on && nat_le 1 key.address
    then record d { turnouts = board_after d.turnouts (board.Row (key.address - 1) (nat_lt 1 key.port)) false }
    else d

-- a row of the desk's bus
unfoldable pub row_taken : Desk → Key → Bool → Value → Taken
row_taken d key listed (GlInit letter version steps functions) =
    nothing (record d { engines = made d.engines key.address letter steps })
row_taken d key listed (GlState mode v vmax functions) =
    cab_row d key.address listed (record { mode = mode; v = v; vmax = vmax }) functions
row_taken d key listed (Power on text) = power_row d listed on text
row_taken d key listed (GaPort on) = nothing (turnout_row d key on)
row_taken d key listed other = nothing d

-- the locomotive at a place is not driven any more
abbrev pub left_over : List Engine → ℕ → List Engine
left_over engines n = option_map_or
    (λ (engine : Engine). slice_set engines n (record engine { steps = 0 })) (slice_get engines n) engines

-- a locomotive is gone from the registry: it stands
unfoldable pub gone : Desk → ℕ → Taken
gone d address = option_map_or
    (λ n. one (record d { engines = left_over d.engines n })
    (event.Row n (record { speed = speed.Stand; is_forward = true }) false))
    (place_of d.engines address) (nothing d)

abbrev pub is_gl : Group → Bool
is_gl group.Gl = true
is_gl other = false

-- a row, once it is noted whether it is listed
unfoldable pub row_noted : Desk → Key → Bool → Value → Taken
row_noted d key listed value =
    let noted = record d { last_row = if listed then Some key else d.last_row } in
    if key.bus == d.bus then row_taken noted key listed value else nothing noted

unfoldable pub changed : Desk → Change → Taken
changed d (PutRow shown) = row_noted d shown.key (is_listed d.last_row shown.key) shown.value
changed d (Gone stamp device) =
    if (device.bus == d.bus) && is_gl device.group then gone d device.address else nothing d

-- ---- the station

-- a drive as the driver knows it
abbrev pub driver_speed : StationSpeed → Speed
driver_speed station_speed.Halt = speed.Halt
driver_speed station_speed.Stand = speed.Stand
driver_speed (station_speed.Step step) = speed.Step step

abbrev pub driver_drive : StationDrive → Drive
driver_drive drive = record { speed = driver_speed drive.speed; is_forward = drive.is_forward }

-- the power of a track is that of the main track
abbrev pub is_main : Track → Bool
is_main track.Prog = false
is_main (track.Letter place) = place == 0
is_main other = true

-- what the station says: a locomotive that it does not keep is not reported
unfoldable pub says : Desk → Said → Taken
says d said.Banner = one (boards d board.Greeted) event.Greeted
says d said.Overload = one d event.Lost
says d (said.Sensor number on) = record { desk = d; text = sense_text d.bus number on }
says d (said.Power track on) = if is_main track then one d (event.SaidPower on) else nothing d
says d (said.Locomotive report) = if is_none report.slot then nothing d else
    option_map_or (λ n. one d (event.Said n (driver_drive report.drive))) (place_of d.engines report.cab) (nothing d)
says d other = nothing d

-- ---- lines

-- what a line told is taken in
unfoldable pub taken : Desk → Heard → Taken
taken d (heard.Changed change) = changed d change
taken d heard.Lists = nothing (record d { last_row = None })
taken d heard.Joined = one d event.Joined
taken d (heard.Replied accepted) = one d (event.Reply accepted)
taken d (heard.Says said) = says d said
taken d heard.Gone = one (boards d board.Gone) event.Gone
taken d heard.Away = one d event.Lost
taken d (heard.Moment now) = one (boards d (board.Moment now)) (event.Moment now)
taken d heard.Ready = next d

-- a line that tells of nothing changes nothing
abbrev pub taken_so : Desk → Option Heard → Taken
taken_so d told = option_map_or (taken d) told (nothing d)

-- a desk takes in a line: the line tells of this, or of nothing, the desk goes on by it, and these lines follow
pub record TakesIn (old : Desk) (line : List ℕ) (new : Desk) (text : List ℕ) : Type 0 where
  pub told : Option Heard
  pub hears : Hears line told
  pub after : new ≡ (taken_so old told).desk
  pub follows : text ≡ (taken_so old told).text
