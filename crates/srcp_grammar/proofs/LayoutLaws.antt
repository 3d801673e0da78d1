-- A key of a layout has a line.
use Rattle.std.specs.Prelude.{◌≡◌, ℕ, zero, suc, ◌+◌, ◌<◌, ◌≤◌, Bool, true, false, ◌&&◌, ◌==◌, List, [], ◌∷◌, Option}
use Rattle.std.proofs.Common.{refl, arith, eqb-true}
use Rattle.std.specs.Option.{option_map_or}
use Rattle.std.specs.List.{AllByRecursion}
use Rattle.srcp_info.specs.declared.key.Group.{Group}
use Rattle.srcp_info.specs.declared.key.Group.TheVariants as group
use Rattle.srcp_info.specs.declared.key.Key.{Key}
use Rattle.srcp_info.specs.Limits.{greatest_bus, greatest_gl, greatest_ga, greatest_fb, most_ports}
use Rattle.srcp_info.specs.WellFormed.{IsAddress, IsBetween}
use Rattle.srcp_grammar.specs.declared.layout.Bus.{Bus}
use Rattle.srcp_grammar.specs.Layout.{IsBus, IsLayout, IsKeyOf, server, bus_at, is_within, row_count, rows_if, rows_on}
use Rattle.srcp_grammar.proofs.FindLaws.{found_holds}
use Rattle.srcp_info.proofs.ListingLaws.{find_passes}

-- the limits of a bus; the server has no group of these
pub record HasLimits (bus : Bus) : Type 0 where
  pub number : bus.number ≤ greatest_bus
  pub gl_max : bus.gl_max ≤ greatest_gl
  pub ga_max : bus.ga_max ≤ greatest_ga
  pub fb_ports : bus.fb_ports ≤ greatest_fb
  pub groups : bus.number ≡ 0 → (bus.power ≡ false) × (bus.gl_max ≡ 0) × (bus.ga_max ≡ 0) × (bus.fb_ports ≡ 0)

server-limits : HasLimits server
server-limits = grind arith

bus-limits : (bus : Bus) → IsBus bus → HasLimits bus
bus-limits bus h = grind arith

each-limits : (buses : List Bus) → AllByRecursion IsBus buses → AllByRecursion HasLimits buses
each-limits [] h = tt
each-limits (bus ∷ buses) h = (bus-limits bus h.0, each-limits buses h.1)

pub within_step : (b : Bool) (n : ℕ) → 0 < rows_if b n → b ≡ true
within_step b n h = grind arith

pub within : (least most n : ℕ) → least ≤ n → n ≤ most → is_within least most n ≡ true
within least most n low high = grind arith

pub between : (least most n : ℕ) → is_within least most n ≡ true → IsBetween least most n
between least most n e = grind arith

positive : (n : ℕ) → (n ≡ 0 → ⊥) → 1 ≤ n
positive zero h = absurd (h refl)
positive (suc n) h = omega arith

-- a number of a bus that has something
on_bus : (bus : Bus) → HasLimits bus → (n most : ℕ) → IsBetween 1 most n → (bus.number ≡ 0 → most ≡ 0) → IsBetween 1 greatest_bus bus.number
on_bus bus limits n most h none = grind arith

ranged : (bus : Bus) → HasLimits bus → (n most limit count : ℕ) → 0 < rows_if (is_within 1 most n) count → most ≤ limit
    → (bus.number ≡ 0 → most ≡ 0) → IsBetween 1 greatest_bus bus.number × IsBetween 1 limit n
ranged bus limits n most limit count h below none = grind arith

powered : (bus : Bus) → HasLimits bus → (n : ℕ) → (bus.power && (n == 0)) ≡ true → IsBetween 1 greatest_bus bus.number × (n ≡ 0)
powered bus limits n e = grind arith

address_on : (bus : Bus) → HasLimits bus → (g : Group) (address : ℕ) → 0 < rows_on bus g address → IsAddress g bus.number address
address_on bus limits g address h = grind arith

found_address : (buses : List Bus) → IsLayout buses → (number : ℕ) (g : Group) (address : ℕ) (o : Option Bus) → bus_at buses number ≡ o
    → 0 < option_map_or (λ bus. rows_on bus g address) o 0 → IsAddress g number address
found_address buses layout number g address o e h =
    grind (arith, found_holds, server-limits, each-limits, eqb-true, find_passes, address_on)

-- the address of a key of the layout is in range
pub key_address : (buses : List Bus) → IsLayout buses → (key : Key) → IsKeyOf buses key → IsAddress key.group key.bus key.address
key_address buses layout key h = found_address buses layout key.bus key.group key.address (bus_at buses key.bus) refl (omega (arith, h))

-- ---- accessories

abbrev HasFewPorts : Bus → Type 0
HasFewPorts bus = 0 < bus.ga_max → bus.ga_ports ≤ most_ports

each_few : (buses : List Bus) → AllByRecursion IsBus buses → AllByRecursion HasFewPorts buses
each_few [] h = grind arith
each_few (bus ∷ buses) h = grind (arith, each_few buses h.1)

few_rows : (bus : Bus) (address : ℕ) → HasFewPorts bus → (b : Bool) → is_within 1 bus.ga_max address ≡ b → rows_if b (1 + bus.ga_ports) ≤ 9
few_rows bus address few b e = grind arith

found_few : (buses : List Bus) → IsLayout buses → (number address : ℕ) (o : Option Bus) → bus_at buses number ≡ o
    → option_map_or (λ bus. rows_on bus group.Ga address) o 0 ≤ 9
found_few buses layout number address o e = grind (arith, few_rows, found_holds, each_few)

-- an accessory has at most eight ports
pub ga_few : (buses : List Bus) → IsLayout buses → (bus address : ℕ)
    → row_count buses (record { bus = bus; group = group.Ga; address = address }) ≤ 9
ga_few buses layout bus address = found_few buses layout bus address (bus_at buses bus) refl
