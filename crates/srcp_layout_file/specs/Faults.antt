-- The texts of the faults of a configuration.
use Rattle.std.specs.Prelude.{List, ℕ, ◌++◌, codes, decimal}
use Rattle.srcp_layout_file.specs.Member.{Named}
use Rattle.srcp_layout_file.specs.declared.config.Field.{Field}
use Rattle.srcp_layout_file.specs.declared.config.Field.TheVariants as field
use Rattle.srcp_layout_file.specs.declared.config.ConfigFault.{ConfigFault}
use Rattle.srcp_layout_file.specs.declared.config.ConfigFault.TheVariants as config

-- the key as a configuration writes it
abbrev pub field_key : Field → List ℕ
field_key field.Port = codes "port"
field_key field.Bus = codes "bus"
field_key field.Number = codes "number"
field_key field.Groups = codes "groups"
field_key field.GlMax = codes "gl_max"
field_key field.GaMax = codes "ga_max"
field_key field.GaPorts = codes "ga_ports"
field_key field.FbPorts = codes "fb_ports"

-- the key with the faults of its value
abbrev pub config_key : Field → Named ConfigFault
config_key of = record { name = field_key of; missing = config.Missing of; beyond = config.OutOfRange of }

-- the text of a fault
abbrev pub config_text : ConfigFault → List ℕ
config_text config.NotToml = codes "config: not TOML"
config_text (config.Missing field) = codes "config: " ++ field_key field ++ codes " missing"
config_text (config.OutOfRange field) = codes "config: " ++ field_key field ++ codes " out of range"
config_text (config.Twice bus) = codes "config: bus " ++ decimal bus ++ codes " twice"
config_text config.UnknownGroup = codes "config: unknown group"
config_text config.Memory = codes "out of memory"
