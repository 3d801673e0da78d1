-- What is printed of a plan.
use Rattle.std.specs.Prelude.{ℕ, List, [], ◌∷◌, ◌++◌, Option, Some, None, codes, decimal, if◌then◌else◌}
use Rattle.std.specs.Prelude.{option_map, option_to_list, slice_get}
use Rattle.std.specs.List.{find, flat_map}
use Rattle.std.specs.Option.{option_map_or}
use Rattle.srcp_routes.specs.Conflicts.{has_block, has_piece, uses}
use Rattle.srcp_routes.specs.declared.route.Device.{Device}
use Rattle.srcp_routes.specs.declared.route.Route.{Route}
use Rattle.srcp_routes.specs.declared.route.Setting.{Setting}
use Rattle.srcp_routes.specs.declared.route.Signal.{Signal}
use Rattle.srcp_plan_file.specs.Drawing.{is_name, name_of}
use Rattle.srcp_plan_file.specs.declared.drawing.Piece.{Piece}
use Rattle.srcp_plan_file.specs.declared.plan.Plan.{Plan}
use Rattle.srcp_plan_file.specs.declared.print.shared.Shared.{Shared}
use Rattle.srcp_plan_file.specs.declared.print.shared.Shared.TheVariants as sharing

-- ---- what two routes share

-- a turnout that the other route uses
abbrev pub shared_turnout : (other : Route) → Setting → List Shared
shared_turnout other turnout = if uses other turnout.device then sharing.Turnout turnout.device ∷ [] else []

-- those of these turnouts
abbrev pub shared_turnouts : (other : Route) → List Setting → List Shared
shared_turnouts other turnouts = flat_map (shared_turnout other) turnouts

-- the signal, if the other route uses it
abbrev pub shared_signal : (other : Route) → Option Signal → List Shared
shared_signal other None = []
shared_signal other (Some signal) = if uses other signal.device then sharing.Signal signal.device ∷ [] else []

-- a block that is one of the other route
abbrev pub shared_block : (other : Route) → Device → List Shared
shared_block other block = if has_block other block then sharing.Block block ∷ [] else []

-- those of these blocks
abbrev pub shared_blocks : (other : Route) → List Device → List Shared
shared_blocks other blocks = flat_map (shared_block other) blocks

-- where a piece of track is drawn
abbrev pub track_at : List Piece → ℕ → Shared
track_at pieces n =
    option_map_or (λ (piece : Piece). sharing.Track piece.row piece.left) (slice_get pieces n) (sharing.Track 0 0)

-- the first of these pieces of track that is one of the other route
abbrev pub shared_piece : List Piece → (other : Route) → List ℕ → List Shared
shared_piece drawn other pieces = option_to_list (option_map (track_at drawn) (find (λ n. has_piece other n) pieces))

-- turnouts and the signal of a route that the other uses, blocks of both, and the first piece of track of both
abbrev pub shared_devices : List Piece → Route → Route → List Shared
shared_devices drawn route other =
    shared_turnouts other route.turnouts.items ++ shared_signal other route.signal
    ++ shared_blocks other route.blocks.items ++ shared_piece drawn other route.pieces.items

-- ---- lines

abbrev pub device_text : Device → List ℕ
device_text device = decimal device.bus ++ codes " " ++ decimal device.address

-- what two routes share by what it is to the first of them
abbrev pub shared_text : Shared → List ℕ
shared_text (sharing.Turnout device) = codes "turnout " ++ device_text device
shared_text (sharing.Signal device) = codes "signal " ++ device_text device
shared_text (sharing.Block device) = codes "block " ++ device_text device
shared_text (sharing.Track row column) = codes "track in row " ++ decimal row ++ codes " column " ++ decimal column

-- one more device
abbrev pub more : Shared → List ℕ
more device = codes ", " ++ shared_text device

-- the line of two routes that share these, none if there is nothing
abbrev pub line_of : (number other : ℕ) → List Shared → List ℕ
line_of number other [] = []
line_of number other (first ∷ others) =
    codes "route " ++ decimal number ++ codes " conflicts with route " ++ decimal other ++ codes ": "
    ++ shared_text first ++ flat_map more others ++ codes "\n"

-- the line of two routes, if they share anything
abbrev pub conflict_line : List Piece → Route → Route → List ℕ
conflict_line drawn route other = line_of route.number other.number (shared_devices drawn route other)

-- the lines of each two of these routes, those of the first route first
abbrev pub conflict_lines : List Piece → List Route → List ℕ
conflict_lines drawn [] = []
conflict_lines drawn (route ∷ others) = flat_map (conflict_line drawn route) others ++ conflict_lines drawn others

abbrev pub bus_line : (bus : ℕ) → List ℕ
bus_line bus = codes "bus " ++ decimal bus ++ codes "\n"

-- the name of a piece, if it is an element
abbrev pub name_text : (text : List ℕ) → Piece → List ℕ
name_text text piece = if is_name piece.shape then codes " " ++ name_of text piece else []

-- the name of the piece at a place
abbrev pub passed_text : (text : List ℕ) → List Piece → ℕ → List ℕ
passed_text text drawn n = option_map_or (name_text text) (slice_get drawn n) []

-- the elements that a way passes, if there is one
abbrev pub way_text : (text : List ℕ) → List Piece → List ℕ → List ℕ
way_text text drawn [] = []
way_text text drawn (first ∷ others) = codes " over" ++ flat_map (passed_text text drawn) (first ∷ others)

-- the line of a route
abbrev pub route_line : (text : List ℕ) → List Piece → Route → List ℕ
route_line text drawn route =
    codes "route " ++ decimal route.number ++ way_text text drawn route.pieces.items ++ codes "\n"

-- the routes' own bus, the routes, and which of them conflict
abbrev pub printed : Plan → List ℕ
printed plan =
    bus_line plan.bus ++ flat_map (route_line plan.tracks.text.items plan.tracks.pieces.items) plan.routes.items
    ++ conflict_lines plan.tracks.pieces.items plan.routes.items
