use Rattle.srcp_rules.proofs.Names
use Names.{◌≡◌, ◌<◌, ◌+◌, List, [], ◌∷◌, ◌++◌, map, take, suc, slice_index_or, sym, ap, subst, ◌∙◌, arith, AllByRecursion, flat_map}
use Names.{keys_of, all_append, Bus, IsLayout, server, opening_on, AreRowsOfBus, bus_rows, listed, Rising, weaken}
use Rattle.std.proofs.lemmas.List.{map-append, take_more}
use Rattle.std.proofs.lemmas.Map.Keys.{sorted_from_strictly_increasing}
use Rattle.srcp_grammar.proofs.BusLaws.{rising_buses}
use Rattle.srcp_rules.proofs.NestedLaws.{before_rising, flat_map_last}
use Rattle.srcp_rules.proofs.nested.opening_buses.Goals as goal

-- the server's number is below all others
rises : (buses : List Bus) → IsLayout buses → Rising (server ∷ buses)
rises buses layout = (
  weaken buses layout.each (λ bus h. h.number.0),
  rising_buses buses (sorted_from_strictly_increasing _ layout.rising),
)

pub add_bus-requires : goal.add_bus-requires
add_bus-requires c = subst (λ ns. AllByRecursion (λ n. n < 0) ns) (sym (ap keys_of c.new-buses.ensures.empty)) tt

pub add_bus-requires-in-loop-bus : goal.add_bus-requires-in-loop-bus
add_bus-requires-in-loop-bus c =
    let items = c.buses-bus-items.result.now in
    let place = c.loop-bus.bus-index in
    let layout : IsLayout items = subst IsLayout (sym c.buses-bus-items.ensures.all) c.buses-bus-items.ensures.laid_out in
    let bus = slice_index_or items place server in
    let below = before_rising (server ∷ items) (rises items layout) (suc place) server (omega (arith, c.loop-bus-test.true)) in
    subst (AllByRecursion (λ n. n < bus.number)) (sym c.loop-bus.invariant.numbers) below

pub loop-bus-preserved : goal.loop-bus-preserved
loop-bus-preserved c =
    let items = c.buses-bus-items.result.now in
    let place = c.loop-bus.bus-index in
    let bus = slice_index_or items place server in
    let more : take (place + 1) items ≡ take place items ++ bus ∷ [] = take_more items place server c.loop-bus-test.true in
    let before = c.loop-bus.buses.entries in
    let rows = c.in_ok-rows.rows in
    let is = c.in_ok-add_bus-2.ensures.entries in
    record {
      each =
          subst (AllByRecursion (λ e. AreRowsOfBus e.0 e.1)) (sym is)
          (all_append (λ e. AreRowsOfBus e.0 e.1) before ((bus.number, rows) ∷ []) c.loop-bus.invariant.each
          (c.in_ok-rows.ensures.bus, tt));
      sorted = c.in_ok-add_bus-2.ensures.sorted;
      numbers =
          ap keys_of is ∙ map-append (λ e. e.0) before ((bus.number, rows) ∷ [])
          ∙ ap (λ ns. ns ++ bus.number ∷ []) c.loop-bus.invariant.numbers
          ∙ sym (ap (λ bs. 0 ∷ map (λ (b : Bus). b.number) bs) more
          ∙ map-append (λ (b : Bus). b.number) (server ∷ take place items) (bus ∷ []));
      rows =
          ap (listed bus_rows) is ∙ flat_map_last (λ e. bus_rows e.1) before (bus.number, rows)
          ∙ (λ i. c.loop-bus.invariant.rows i ++ c.in_ok-rows.ensures.rows i)
          ∙ sym (ap (flat_map (opening_on 0)) more ∙ flat_map_last (opening_on 0) (take place items) bus);
    }
