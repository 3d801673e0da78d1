-- What a configuration says: from the bytes of a TOML document to the port and the buses, or to the first fault.
use Rattle.std.specs.Prelude.{ℕ, Bool, false, ◌||◌, if◌then◌else◌, List, [], ◌∷◌, Result, Ok, Err, codes}
use Rattle.std.specs.Str.{bytes_eq}
use Rattle.toml.specs.Data.{Data, string, table, Members}
use Rattle.srcp_grammar.specs.Layout.{has_number, with_bus}
use Rattle.srcp_grammar.specs.declared.layout.Bus.{Bus}
use Rattle.srcp_layout_file.specs.Faults.{config_key}
use Rattle.srcp_layout_file.specs.Gives.{◌>>=◌}
use Rattle.srcp_info.specs.Limits.{greatest_bus, greatest_gl, greatest_ga, greatest_fb, fewest_ports, most_ports}
use Rattle.srcp_layout_file.specs.Limits.{default_port, greatest_port}
use Rattle.srcp_layout_file.specs.Member.{array_at, document, given_or, number_at}
use Rattle.srcp_layout_file.specs.declared.config.Config.{Config}
use Rattle.srcp_layout_file.specs.declared.config.ConfigFault.{ConfigFault}
use Rattle.srcp_layout_file.specs.declared.config.ConfigFault.TheVariants as fault
use Rattle.srcp_layout_file.specs.declared.config.Field.TheVariants as field
use Rattle.srcp_layout_file.specs.declared.document.groups.Groups.{Groups}

-- what may be read, or the first fault
abbrev pub OrFault : Type 0 → Type 0
OrFault A = Result A ConfigFault

-- ---- groups

-- the text is that name
abbrev pub is_named : (name text : List ℕ) → Bool
is_named name text = bytes_eq text name

-- one of the four groups has that name
abbrev pub is_group : List ℕ → Bool
is_group text = is_named (codes "POWER") text
    || (is_named (codes "GL") text || (is_named (codes "GA") text || is_named (codes "FB") text))

-- the name of one of the four groups
abbrev pub group_in : Data → OrFault (List ℕ)
group_in (string text) = if is_group text then Ok text else Err fault.UnknownGroup
group_in other = Err (fault.OutOfRange field.Groups)

-- none of the four groups
abbrev pub no_groups : Groups
no_groups = record { power = false; gl = false; ga = false; fb = false }

-- the groups and the one of this name, which count once however often they are named
abbrev pub with_group : Groups → List ℕ → Groups
with_group groups text = record {
  power = groups.power || is_named (codes "POWER") text;
  gl = groups.gl || is_named (codes "GL") text;
  ga = groups.ga || is_named (codes "GA") text;
  fb = groups.fb || is_named (codes "FB") text;
}

-- the groups before, and these from left to right
abbrev pub groups_in : Groups → List Data → OrFault Groups
groups_in before [] = Ok before
groups_in before (value ∷ values) = do
  text ← group_in value
  groups_in (with_group before text) values

-- what is read only if the bus has the group
abbrev pub if_named : {A : Type 0} → Bool → (otherwise : A) → OrFault A → OrFault A
if_named is_there otherwise reading = if is_there then reading else Ok otherwise

-- ---- buses

-- the number of a bus that is not there yet
abbrev pub new_number : List Bus → ℕ → OrFault ℕ
new_number buses number = if has_number buses number then Err (fault.Twice number) else Ok number

-- the number of a bus beside those before it
abbrev pub number_beside : List Bus → Members → OrFault ℕ
number_beside before members = number_at 1 greatest_bus (config_key field.Number) members >>= new_number before

-- a bus beside those before it: its number, its groups, and what these need
abbrev pub bus_of : List Bus → Members → OrFault Bus
bus_of before members = do
  number ← number_beside before members
  groups ← array_at (config_key field.Groups) members >>= groups_in no_groups
  gl_max ← if_named groups.gl 0 (number_at 1 greatest_gl (config_key field.GlMax) members)
  ga_max ← if_named groups.ga 0 (number_at 1 greatest_ga (config_key field.GaMax) members)
  ga_ports ← if_named groups.ga fewest_ports
      (given_or fewest_ports fewest_ports most_ports (config_key field.GaPorts) members)
  fb_ports ← if_named groups.fb 0 (number_at 1 greatest_fb (config_key field.FbPorts) members)
  Ok (record {
    number = number;
    power = groups.power;
    gl_max = gl_max;
    ga_max = ga_max;
    ga_ports = ga_ports;
    fb_ports = fb_ports;
  })

-- a bus is a table
abbrev pub bus_in : List Bus → Data → OrFault Bus
bus_in before (table members) = bus_of before members
bus_in before other = Err (fault.OutOfRange field.Bus)

-- the buses before, and these in the order of the document
abbrev pub buses_in : List Bus → List Data → OrFault (List Bus)
buses_in before [] = Ok before
buses_in before (value ∷ values) = do
  bus ← bus_in before value
  buses_in (with_bus bus before) values

-- ---- documents

-- what a document says
abbrev pub config_in : Members → OrFault Config
config_in members = do
  port ← given_or default_port 1 greatest_port (config_key field.Port) members
  buses ← array_at (config_key field.Bus) members >>= buses_in []
  Ok (record { port = port; layout = buses })

-- what the bytes of a configuration say
abbrev pub config_of : List ℕ → OrFault Config
config_of bytes = document fault.NotToml bytes >>= config_in
