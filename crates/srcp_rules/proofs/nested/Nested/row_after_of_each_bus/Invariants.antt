use Rattle.srcp_rules.proofs.Names.{◌≡◌, AllByRecursion, row_after, AreRowsOfBus, bus_rows, listed}
use Rattle.srcp_rules.proofs.nested.Nested.row_after_of_each_bus.Given as goal

abbrev pub invariant-loop-number : goal.invariant-loop-number
invariant-loop-number l = record {
  can : (goal.iterator-loop-number).can_next l.number-iterator;
  finite : (goal.iterator-loop-number).is_finite l.number-iterator;
  each : AllByRecursion (λ e. AreRowsOfBus e.0 e.1) l.number-iterator;
  rest : row_after l.cursor l.self.state ≡ row_after l.cursor (listed bus_rows l.number-iterator);
}
