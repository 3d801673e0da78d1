-- The layout of a server: the buses, and the devices that may be on each.
use Rattle.std.specs.Prelude.{◌≡◌, ℕ, ◌+◌, ◌≤◌, ◌<◌, Bool, true, false, ◌&&◌, ◌||◌, ◌==◌, nat_lt, nat_le, if◌then◌else◌}
use Rattle.std.specs.Prelude.{List, ◌∷◌, ◌++◌, map, filter, Option, find, is_some}
use Rattle.std.specs.List.{AllByRecursion}
use Rattle.std.specs.List.Sorted.{IsStrictlyIncreasing}
use Rattle.std.specs.Option.{option_map_or}
use Rattle.srcp_info.specs.declared.key.Group.{Group}
use Rattle.srcp_info.specs.declared.key.Group.TheVariants.{Session, Power, Gl, Ga, Fb, LockGl, LockGa}
use Rattle.srcp_info.specs.declared.key.Device.{Device}
use Rattle.srcp_info.specs.declared.key.Key.{Key}
use Rattle.srcp_info.specs.Key.{device_of}
use Rattle.srcp_info.specs.Limits.{greatest_bus, greatest_gl, greatest_ga, greatest_fb, fewest_ports, most_ports}
use Rattle.srcp_info.specs.Limits.{greatest_id}
use Rattle.srcp_grammar.specs.declared.layout.Bus.{Bus}
use Rattle.srcp_grammar.specs.declared.layout.LayoutFault.{LayoutFault}
use Rattle.srcp_grammar.specs.declared.layout.LayoutFault.TheVariants.{OutOfRange, Twice, Memory}
use Rattle.srcp_grammar.specs.declared.command.CommandGroup.{CommandGroup}
use Rattle.srcp_grammar.specs.declared.command.CommandGroup.TheVariants as named
use Rattle.srcp_grammar.specs.declared.command.DeviceGroup.{DeviceGroup}
use Rattle.srcp_grammar.specs.declared.command.DeviceGroup.TheVariants as devices

-- a bus within the limits; how many ports an accessory has is free if the bus has none
pub record IsBus (bus : Bus) : Type 0 where
  pub number : (1 ≤ bus.number) × (bus.number ≤ greatest_bus)
  pub gl_max : bus.gl_max ≤ greatest_gl
  pub ga_max : bus.ga_max ≤ greatest_ga
  pub ga_ports : 0 < bus.ga_max → (fewest_ports ≤ bus.ga_ports) × (bus.ga_ports ≤ most_ports)
  pub fb_ports : bus.fb_ports ≤ greatest_fb

-- buses within the limits, by rising number
pub record IsLayout (buses : List Bus) : Type 0 where
  pub each : AllByRecursion IsBus buses
  pub rising : IsStrictlyIncreasing (map (λ bus. bus.number) buses)

module _ (buses : List Bus) where
  -- the bus of this number among these
  abbrev pub bus_numbered : (number : ℕ) → Option Bus
  bus_numbered number = find (λ bus. bus.number == number) buses

  -- a bus of this number is there
  abbrev pub has_number : (number : ℕ) → Bool
  has_number number = is_some (bus_numbered number)

-- the buses with a further bus, by rising number
abbrev pub with_bus : Bus → List Bus → List Bus
with_bus bus buses =
    filter (λ other. nat_lt other.number bus.number) buses ++ bus
    ∷ filter (λ other. nat_lt bus.number other.number) buses

-- the bus is beyond the limits; or else the number is there; or the bus may be added, but memory was refused
abbrev pub IsFaultOf : List Bus → Bus → LayoutFault → Type 0
IsFaultOf buses bus OutOfRange = ¬ IsBus bus
IsFaultOf buses bus Twice = IsBus bus × (has_number buses bus.number ≡ true)
IsFaultOf buses bus Memory = IsBus bus × (has_number buses bus.number ≡ false)

-- bus 0, which is the server itself
abbrev pub server : Bus
server = record { number = 0; power = false; gl_max = 0; ga_max = 0; ga_ports = 0; fb_ports = 0 }

-- the bus of this number: the server or a configured bus
abbrev pub bus_at : List Bus → ℕ → Option Bus
bus_at buses number = bus_numbered (server ∷ buses) number

-- the number is from least to most
abbrev pub is_within : (least most : ℕ) → ℕ → Bool
is_within least most number = nat_le least number && nat_le number most

-- n if the test passes, else none
abbrev pub rows_if : Bool → ℕ → ℕ
rows_if test n = if test then n else 0

module _ (bus : Bus) where
  -- the bus has the group named by the third word of a command
  abbrev pub has_group : CommandGroup → Bool
  has_group named.Session = bus.number == 0
  has_group named.Power = bus.power
  has_group named.Gl = nat_lt 0 bus.gl_max
  has_group named.Ga = nat_lt 0 bus.ga_max
  has_group named.Fb = nat_lt 0 bus.fb_ports
  has_group named.Lock = nat_lt 0 bus.gl_max || nat_lt 0 bus.ga_max

  -- the greatest address of the bus's locomotives or accessories, 0 if the bus has none
  abbrev pub address_max : DeviceGroup → ℕ
  address_max devices.Gl = bus.gl_max
  address_max devices.Ga = bus.ga_max

  -- how many rows a device of this group and address has on the bus, 0 if the bus has no such device
  abbrev pub rows_on : Group → (address : ℕ) → ℕ
  rows_on Session address = rows_if (bus.number == 0 && is_within 1 greatest_id address) 1
  rows_on Power address = rows_if (bus.power && address == 0) 1
  rows_on Gl address = rows_if (is_within 1 bus.gl_max address) 2
  rows_on Ga address = rows_if (is_within 1 bus.ga_max address) (1 + bus.ga_ports)
  rows_on Fb address = rows_if (is_within 1 bus.fb_ports address) 1
  rows_on LockGl address = rows_if (is_within 1 bus.gl_max address) 1
  rows_on LockGa address = rows_if (is_within 1 bus.ga_max address) 1

-- how many rows the device has once made: the ports are below this number
abbrev pub row_count : List Bus → Device → ℕ
row_count buses device = option_map_or (λ bus. rows_on bus device.group device.address) (bus_at buses device.bus) 0

-- a row of the layout may stand at this key
abbrev pub IsKeyOf : List Bus → Key → Type 0
IsKeyOf buses key = key.port < row_count buses (device_of key)
