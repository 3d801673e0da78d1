-- What each piece of a drawing is: by its shape, and by what the legend says of its name.
use Rattle.std.specs.Prelude.{ℕ, List, Option, Some, None, Ok, Err, if◌then◌else◌, is_some, option_and_then}
use Rattle.std.specs.Option.{option_map_or}
use Rattle.std.specs.Str.{is_utf8}
use Rattle.toml.specs.Data.{Data, table, Members, get_member}
use Rattle.srcp_layout_file.specs.Gives.{◌>>=◌}
use Rattle.srcp_layout_file.specs.Member.{array_in, value_at}
use Rattle.srcp_routes.specs.declared.route.Device.{Device}
use Rattle.srcp_routes.specs.declared.route.Setting.{Setting}
use Rattle.srcp_routes.specs.declared.route.Signal.{Signal}
use Rattle.srcp_plan_file.specs.Devices.{OrFault, sensor_of, signal_of, turnout_of}
use Rattle.srcp_plan_file.specs.Drawing.{name_of}
use Rattle.srcp_plan_file.specs.Faults.{plan_key}
use Rattle.srcp_plan_file.specs.declared.drawing.Piece.{Piece}
use Rattle.srcp_plan_file.specs.declared.drawing.Shape.{Shape}
use Rattle.srcp_plan_file.specs.declared.drawing.Shape.TheVariants as shape
use Rattle.srcp_plan_file.specs.declared.element.Kind.{Kind}
use Rattle.srcp_plan_file.specs.declared.element.Kind.TheVariants as kind
use Rattle.srcp_plan_file.specs.declared.plan.Field.TheVariants as field
use Rattle.srcp_plan_file.specs.declared.plan.PlanFault.TheVariants as fault

-- the kind of a turnout, if it is read
abbrev pub turnout_read : OrFault Setting → Kind
turnout_read (Ok turnout) = kind.Turnout turnout.device turnout.port
turnout_read (Err e) = kind.Beside

-- the kind of a turnout: its bus, its address and the port of its branch
abbrev pub turnout_kind : Data → Kind
turnout_kind value = turnout_read
    (array_in (fault.OutOfRange field.Turnout) value >>= turnout_of 0 (fault.OutOfRange field.Turnout))

-- the same of a signal, which a train passes in any case
abbrev pub signal_read : OrFault Signal → Kind
signal_read (Ok signal) = kind.Signal signal.device
signal_read (Err e) = kind.Track

abbrev pub signal_kind : Data → Kind
signal_kind value =
    signal_read (array_in (fault.OutOfRange field.Signal) value >>= signal_of 0 (fault.OutOfRange field.Signal))

-- the same of a sensor
abbrev pub sensor_read : OrFault Device → Kind
sensor_read (Ok device) = kind.Sensor device
sensor_read (Err e) = kind.Track

abbrev pub sensor_kind : Data → Kind
sensor_kind value =
    sensor_read (array_in (fault.OutOfRange field.Sensor) value >>= sensor_of 0 (fault.OutOfRange field.Sensor))

-- the kind of an entry of the legend that is no turnout
abbrev pub passed_kind : Members → Kind
passed_kind entry = option_map_or signal_kind (value_at (plan_key field.Signal) entry)
    (option_map_or sensor_kind (value_at (plan_key field.Sensor) entry)
    (if is_some (value_at (plan_key field.Button) entry) then kind.Button else kind.Beside))

-- the kind of an entry of the legend
abbrev pub table_kind : Members → Kind
table_kind entry = option_map_or turnout_kind (value_at (plan_key field.Turnout) entry)
    (passed_kind entry)

-- the kind of what stands at a name in the legend
abbrev pub entry_kind : Data → Kind
entry_kind (table entry) = table_kind entry
entry_kind other = kind.Beside

-- a name as text, if it is text
unfoldable pub text_of : (name : List ℕ) → Option (List ℕ)
text_of name = if is_utf8 name then Some name else None

-- the kind of a name
abbrev pub named_kind : Members → (name : List ℕ) → Kind
named_kind legend name =
    option_map_or entry_kind (option_and_then (λ text. get_member text legend) (text_of name)) kind.Beside

-- the kind of a piece of this shape, if there is a legend
abbrev pub shape_kind : List ℕ → Option Members → Piece → Shape → Kind
shape_kind text legend piece shape.Crossing = kind.Crossing
shape_kind text None piece shape.Name = kind.Beside
shape_kind text (Some legend) piece shape.Name = named_kind legend (name_of text piece)
shape_kind text legend piece other = kind.Track

-- the kind of a piece
abbrev pub kind_of : List ℕ → Option Members → Piece → Kind
kind_of text legend piece = shape_kind text legend piece piece.shape
