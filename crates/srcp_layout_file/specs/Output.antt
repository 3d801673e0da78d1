-- What is printed of a configuration.
use Rattle.std.specs.Prelude.{ℕ, Bool, ◌&&◌, ◌==◌, nat_lt, if◌then◌else◌, List, [], ◌∷◌, ◌++◌, flat_map, codes, decimal}
use Rattle.srcp_info.specs.Line.{spaced}
use Rattle.srcp_grammar.specs.declared.layout.Bus.{Bus}
use Rattle.srcp_info.specs.Limits.{fewest_ports}
use Rattle.srcp_layout_file.specs.declared.config.Config.{Config}

-- a group's name and how many devices it has, if it has any
abbrev pub group_words : (name : List ℕ) → ℕ → List (List ℕ)
group_words name count = if count == 0 then [] else name ∷ decimal count ∷ []

-- the ports of an accessory are printed if there are more than the fewest
abbrev pub port_words : Bus → List (List ℕ)
port_words bus =
    if nat_lt 0 bus.ga_max && nat_lt fewest_ports bus.ga_ports then codes "PORTS" ∷ decimal bus.ga_ports ∷ [] else []

-- the word of a bus that has POWER
abbrev pub power_words : Bool → List (List ℕ)
power_words power = if power then codes "POWER" ∷ [] else []

-- a bus, with its groups
abbrev pub bus_line : Bus → List ℕ
bus_line bus = spaced (codes "bus" ∷ decimal bus.number ∷ (power_words bus.power
    ++ group_words (codes "GL") bus.gl_max
    ++ group_words (codes "GA") bus.ga_max
    ++ port_words bus
    ++ group_words (codes "FB") bus.fb_ports))

-- the port
abbrev pub port_line : (port : ℕ) → List ℕ
port_line port = spaced (codes "port" ∷ decimal port ∷ [])

-- what is printed of a configuration
abbrev pub checked : Config → List ℕ
checked config = port_line config.port ++ flat_map bus_line config.layout
