-- The line of an order is read as the command that the order means.
use Rattle.std.proofs.Common.{◌≡◌, ℕ, ◌<◌, ◌≤◌, ◌+◌, ◌-◌, ◌^◌, Bool, true, false, List, [], ◌∷◌, Option, Some, None, Ok}
use Rattle.std.proofs.Common.{refl, arith, eqb-true}
use Rattle.std.specs.Prelude.{codes, decimal, nat_lt, ◌==◌}
use Rattle.std.specs.Fmt.{digits}
use Rattle.std.specs.List.{join_with_byte, AllByRecursion}
use Rattle.std.specs.Option.{option_map_or}
use Rattle.std.proofs.lemmas.Bool.{le-leb, lt-ltb}
use Rattle.std.proofs.Math.Bool.{or-true}
use Rattle.std.proofs.lemmas.List.{same_from_push}
use Rattle.std.proofs.lemmas.Fmt.{digits_value-decimal}
use Rattle.srcp_text.specs.Words.{number_of, IsWord}
use Rattle.srcp_text.proofs.NumberLaws.{is_numeral-decimal, own as own_digits}
use Rattle.srcp_text.proofs.StampLaws.{decimal_word}
use Rattle.srcp_text.proofs.WordLaws.{words_again}
use Rattle.srcp_info.specs.declared.key.Group.{Group}
use Rattle.srcp_info.specs.declared.key.Group.TheVariants as group
use Rattle.srcp_info.specs.Limits.{greatest_bus}
use Rattle.srcp_info.specs.Line.{bit_word}
use Rattle.srcp_info.specs.WellFormed.{IsAddress}
use Rattle.srcp_info.proofs.ListingLaws.{find_passes}
use Rattle.srcp_grammar.specs.Grammar.{bit_of, number_in, parsed, reads}
use Rattle.srcp_grammar.specs.Layout.{IsLayout, bus_at, rows_on, row_count, server}
use Rattle.srcp_grammar.specs.declared.layout.Bus.{Bus}
use Rattle.srcp_grammar.proofs.LayoutLaws.{ga_few, key_address}
use Rattle.srcp_routes.specs.declared.route.Device.{Device}
use Rattle.srcp_routes.specs.declared.route.Order.{Order}
use Rattle.srcp_routes.specs.declared.route.Order.TheVariants as order
use Rattle.srcp_routes.specs.declared.route.Setting.{Setting}
use Rattle.srcp_interlock.specs.Laws.{IsOrderLine, OrdersAreRead}
use Rattle.srcp_interlock.specs.Orders.{command_of, order_words, pulse, set_command, set_words}

-- ---- numbers

number_read : (most n : ℕ) → n ≤ most → n < 2 ^ 64 → number_of most (decimal n) ≡ Some n
number_read most n low h = rw (is_numeral-decimal n h, digits_value-decimal own_digits n h, le-leb n most low) refl

in_range : (least most n : ℕ) → least ≤ n → n ≤ most → n < 2 ^ 64 → number_in least most (decimal n) ≡ Ok n
in_range least most n low high h = grind (arith, number_read most n high h)

bit_read : (on : Bool) → bit_of (bit_word on) ≡ Ok on
bit_read true = refl
bit_read false = refl

pub pulse_said : decimal pulse ≡ codes "250"
unfolding digits
pulse_said = refl

-- ---- the bus of a device

-- a row of the layout is on a bus of it, and its numbers are small
record IsOn (buses : List Bus) (number : ℕ) (g : Group) (address port : ℕ) : Type 0 where
  bus : Bus
  at : bus_at buses number ≡ Some bus
  same : bus.number ≡ number
  rows : port < rows_on bus g address
  few : number ≤ greatest_bus
  small : address < 2 ^ 32

at_bus : (buses : List Bus) (number : ℕ) (g : Group) (address port : ℕ) (o : Option Bus) → bus_at buses number ≡ o
    → port < option_map_or (λ bus. rows_on bus g address) o 0 → number ≤ greatest_bus → address < 2 ^ 32 → IsOn buses number g address port
at_bus buses number g address port None e h few small = absurd (omega (arith, h))
at_bus buses number g address port (Some bus) e h few small =
    let same = eqb-true _ _ (find_passes (λ (x : Bus). x.number == number) (server ∷ buses) bus e) in
    record { bus = bus; at = e; same = same; rows = h; few = few; small = small }

on_layout : (buses : List Bus) → IsLayout buses → (number : ℕ) (g : Group) (address port : ℕ)
    → port < row_count buses (record { bus = number; group = g; address = address }) → number ≤ greatest_bus → address < 2 ^ 32
    → IsOn buses number g address port
on_layout buses layout number g address port h few small =
    at_bus buses number g address port (bus_at buses number) refl h few small

-- ---- the words of each order

locks_read : (buses : List Bus) (device : Device) → IsOn buses device.bus group.LockGa device.address 0
    → (parsed buses (order_words 0 (order.Lock device)) ≡ Ok (command_of 0 (order.Lock device)))
    × (parsed buses (order_words 0 (order.Unlock device)) ≡ Ok (command_of 0 (order.Unlock device)))
locks_read buses device on =
    let low : 1 ≤ device.address = grind (arith, on.rows) in
    let high : device.address ≤ on.bus.ga_max = grind (arith, on.rows) in
    rw (
      number_read greatest_bus device.bus on.few (omega (arith, on.few)),
      on.at,
      lt-ltb 0 on.bus.ga_max (omega (arith, low, high)),
      or-true (nat_lt 0 on.bus.gl_max),
      in_range 1 on.bus.ga_max device.address low high (omega (arith, on.small)),
      on.same,
    )
    (refl, refl)

set_read : (buses : List Bus) (setting : Setting) → IsOn buses setting.device.bus group.Ga setting.device.address (1 + setting.port)
    → setting.port < 2 ^ 32 → parsed buses (set_words setting) ≡ Ok (set_command setting)
set_read buses setting on small =
    let low : 1 ≤ setting.device.address = grind (arith, on.rows) in
    let high : setting.device.address ≤ on.bus.ga_max = grind (arith, on.rows) in
    let port : setting.port ≤ on.bus.ga_ports - 1 = grind (arith, on.rows) in
    rw (
      number_read greatest_bus setting.device.bus on.few (omega (arith, on.few)),
      on.at,
      lt-ltb 0 on.bus.ga_max (omega (arith, low, high)),
      in_range 1 on.bus.ga_max setting.device.address low high (omega (arith, on.small)),
      in_range 0 (on.bus.ga_ports - 1) setting.port (omega arith) port (omega (arith, small)),
      pulse_said,
      on.same,
    )
    refl

report_read : (buses : List Bus) (own number : ℕ) (is_set : Bool) → IsOn buses own group.Fb number 0
    → parsed buses (order_words own (order.Report number is_set)) ≡ Ok (command_of own (order.Report number is_set))
report_read buses own number is_set on =
    let low : 1 ≤ number = grind (arith, on.rows) in
    let high : number ≤ on.bus.fb_ports = grind (arith, on.rows) in
    rw (
      number_read greatest_bus own on.few (omega (arith, on.few)),
      on.at,
      lt-ltb 0 on.bus.fb_ports (omega (arith, low, high)),
      in_range 1 on.bus.fb_ports number low high (omega (arith, on.small)),
      bit_read is_set,
      on.same,
    )
    refl

-- ---- the line of each order

spoken : (buses : List Bus) (own : ℕ) (sent : Order) (text : List ℕ) → AllByRecursion IsWord (order_words own sent)
    → IsOrderLine own sent text → parsed buses (order_words own sent) ≡ Ok (command_of own sent)
    → reads buses text ≡ Ok (command_of own sent)
spoken buses own sent text words e read =
    let same : join_with_byte 32 (order_words own sent) ≡ text = (same_from_push _ _ _ _ e).0 in
    rw (← same, words_again (order_words own sent) words) read

set_are_words : (setting : Setting) → setting.device.bus ≤ greatest_bus → setting.device.address < 2 ^ 32 → setting.port < 2 ^ 32
    → AllByRecursion IsWord (set_words setting)
unfolding digits
set_are_words setting few small port =
    let numbers : AllByRecursion IsWord (decimal setting.device.address ∷ decimal setting.port ∷ codes "1" ∷ decimal pulse ∷ []) = (
      decimal_word setting.device.address (omega (arith, small)),
      (decimal_word setting.port (omega (arith, port)), ((refl, refl), ((refl, refl), tt))),
    ) in
    ((refl, refl), (decimal_word setting.device.bus (omega (arith, few)), ((refl, refl), numbers)))

bit_is_word : (on : Bool) → IsWord (bit_word on)
bit_is_word true = (refl, refl)
bit_is_word false = (refl, refl)

-- the numbers of a row of the layout
numbered : (buses : List Bus) → IsLayout buses → (number : ℕ) (g : Group) (address port : ℕ)
    → port < row_count buses (record { bus = number; group = g; address = address }) → IsAddress g number address
numbered buses layout number g address port h =
    key_address buses layout (record { bus = number; group = g; address = address; port = port }) h

-- the lock of an accessory of the layout
lock_on : (buses : List Bus) → IsLayout buses → (device : Device)
    → 0 < row_count buses (record { bus = device.bus; group = group.LockGa; address = device.address })
    → IsOn buses device.bus group.LockGa device.address 0
lock_on buses layout device h =
    let at = numbered buses layout device.bus group.LockGa device.address 0 h in
    on_layout buses layout _ group.LockGa _ 0 h (omega (arith, at)) (omega (arith, at))

set_spoken : (buses : List Bus) → IsLayout buses → (setting : Setting)
    → 1 + setting.port < row_count buses (record { bus = setting.device.bus; group = group.Ga; address = setting.device.address })
    → (parsed buses (set_words setting) ≡ Ok (set_command setting)) × AllByRecursion IsWord (set_words setting)
set_spoken buses layout setting h =
    let at = numbered buses layout setting.device.bus group.Ga setting.device.address (1 + setting.port) h in
    let few : setting.device.bus ≤ greatest_bus = omega (arith, at) in
    let small : setting.device.address < 2 ^ 32 = omega (arith, at) in
    let port : setting.port < 2 ^ 32 = omega (arith, h, ga_few buses layout setting.device.bus setting.device.address) in (
      set_read buses setting (on_layout buses layout _ group.Ga _ (1 + setting.port) h few small) port,
      set_are_words setting few small port,
    )

pub orders_are_read : OrdersAreRead
orders_are_read buses own (order.Lock device) text layout h e =
    let on = lock_on buses layout device h.0 in
    let address = decimal_word device.address (omega (arith, on.small)) in
    spoken buses own (order.Lock device) text
    ((refl, refl), (decimal_word device.bus (omega (arith, on.few)), ((refl, refl), ((refl, refl), (address, ((refl, refl), tt))))))
    e (locks_read buses device on).0
orders_are_read buses own (order.Throw setting) text layout h e =
    let read = set_spoken buses layout setting h.0.0 in
    spoken buses own (order.Throw setting) text read.1 e read.0
orders_are_read buses own (order.Show setting) text layout h e =
    let read = set_spoken buses layout setting h.0.0 in
    spoken buses own (order.Show setting) text read.1 e read.0
orders_are_read buses own (order.Stop setting) text layout h e =
    let read = set_spoken buses layout setting h.0.0 in
    spoken buses own (order.Stop setting) text read.1 e read.0
orders_are_read buses own (order.Report number is_set) text layout h e =
    let at = numbered buses layout own group.Fb number 0 h in
    let few : own ≤ greatest_bus = omega (arith, at) in
    let small : number < 2 ^ 32 = omega (arith, at) in
    spoken buses own (order.Report number is_set) text (
      (refl, refl),
      (
        decimal_word own (omega (arith, few)),
        (
          (refl, refl),
          (decimal_word number (omega (arith, small)), (bit_is_word is_set, tt)),
        ),
      ),
    )
    e (report_read buses own number is_set (on_layout buses layout _ group.Fb _ 0 h few small))
orders_are_read buses own (order.Unlock device) text layout h e =
    let on = lock_on buses layout device h in
    let address = decimal_word device.address (omega (arith, on.small)) in
    spoken buses own (order.Unlock device) text
    ((refl, refl), (decimal_word device.bus (omega (arith, on.few)), ((refl, refl), ((refl, refl), (address, tt)))))
    e (locks_read buses device on).1
