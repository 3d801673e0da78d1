-- Worked configurations, computed by the definitions.
use Rattle.std.proofs.Common.{◌≡◌, ℕ, true, false, [], ◌∷◌, Ok, Err, codes, refl}
use Rattle.std.specs.Prelude.{pos}
use Rattle.std.specs.Fmt.{digits}
use Rattle.toml.specs.Data.{Data, Items, Members, string, integer, boolean, array, table, no_items, item, no_members, member}
use Rattle.srcp_grammar.specs.declared.layout.Bus.{Bus}
use Rattle.srcp_layout_file.specs.Document.{config_in}
use Rattle.srcp_layout_file.specs.Output.{checked}
use Rattle.srcp_layout_file.specs.declared.config.ConfigFault.TheVariants as config
use Rattle.srcp_layout_file.specs.declared.config.Field.TheVariants as field

-- a document with these buses
abbrev with_buses : Items → Members
with_buses buses = member (codes "bus") (array buses) (member (codes "port") (integer (pos 4303)) no_members)

-- a bus with this number, these groups, and the sizes of them
abbrev bus : (number gl_max : ℕ) (groups : Items) (ports : Members → Members) → Data
bus number gl_max groups ports =
    table (member (codes "fb_ports") (integer (pos 2))
    (member (codes "ga_max") (integer (pos 2044)) (ports (member (codes "gl_max") (integer (pos gl_max))
    (member (codes "groups") (array groups) (member (codes "number") (integer (pos number)) no_members))))))

abbrev four_groups : Items
four_groups = item (string (codes "POWER")) (item (string (codes "GL")) (item (string (codes "GA")) (item (string (codes "FB")) no_items)))

abbrev four_ports : Members → Members
four_ports members = member (codes "ga_ports") (integer (pos 4)) members

abbrev whole_bus : (ports : ℕ) → Bus
whole_bus ports = record { number = 1; power = true; gl_max = 10239; ga_max = 2044; ga_ports = ports; fb_ports = 2 }

document_is_read : config_in (with_buses (item (bus 1 10239 four_groups (λ members. members)) no_items))
    ≡ Ok (record { port = 4303; layout = whole_bus 2 ∷ [] })
document_is_read = refl

ports_are_read : config_in (with_buses (item (bus 1 10239 four_groups four_ports) no_items))
    ≡ Ok (record { port = 4303; layout = whole_bus 4 ∷ [] })
ports_are_read = refl

bus_twice : config_in (with_buses (item (bus 1 5 no_items four_ports) (item (bus 1 5 no_items four_ports) no_items))) ≡ Err (config.Twice 1)
bus_twice = refl

unknown_group : config_in (with_buses (item (bus 1 5 (item (string (codes "SM")) no_items) four_ports) no_items)) ≡ Err config.UnknownGroup
unknown_group = refl

gl_max_is_too_large : config_in (with_buses (item (bus 1 10240 four_groups four_ports) no_items)) ≡ Err (config.OutOfRange field.GlMax)
gl_max_is_too_large = refl

-- what is not named in the groups is not read
gl_max_is_not_read : config_in (with_buses (item (bus 1 10240 no_items four_ports) no_items))
    ≡ Ok (record { port = 4303; layout = record { number = 1; power = false; gl_max = 0; ga_max = 0; ga_ports = 2; fb_ports = 0 } ∷ [] })
gl_max_is_not_read = refl

empty_document : config_in no_members ≡ Err (config.Missing field.Bus)
empty_document = refl

bus_is_no_table : config_in (with_buses (item (boolean true) no_items)) ≡ Err (config.OutOfRange field.Bus)
bus_is_no_table = refl

is_checked : checked (record { port = 4303; layout = whole_bus 2 ∷ [] }) ≡ codes "port 4303\nbus 1 POWER GL 10239 GA 2044 FB 2\n"
unfolding digits
is_checked = refl

is_checked_with_ports : checked (record { port = 4303; layout = whole_bus 4 ∷ [] })
    ≡ codes "port 4303\nbus 1 POWER GL 10239 GA 2044 PORTS 4 FB 2\n"
unfolding digits
is_checked_with_ports = refl
