use Rattle.srcp_rules.proofs.Names
use Names.{◌≡◌, ◌∷◌, map, take, AllByRecursion, flat_map, keys_of, Bus, server, opening_on, AreRowsOfBus, AreSorted, bus_rows, listed}
use Rattle.srcp_rules.proofs.nested.opening_buses.Given as goal

abbrev pub invariant-loop-bus : goal.invariant-loop-bus
invariant-loop-bus l = record {
  each : AllByRecursion (λ e. AreRowsOfBus e.0 e.1) l.buses.entries;
  sorted : AreSorted l.buses.entries;
  numbers : keys_of l.buses.entries ≡ map (λ (bus : Bus). bus.number) (server ∷ take l.bus-index l.bus-items);
  rows : listed bus_rows l.buses.entries ≡ flat_map (opening_on 0) (take l.bus-index l.bus-items);
}
