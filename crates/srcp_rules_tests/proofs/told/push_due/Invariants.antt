use Rattle.std.proofs.Common.{◌≡◌}
use Rattle.srcp_rules.specs.State.{IsWhole}
use Rattle.srcp_rules_tests.proofs.told.push_due.Given as goal

abbrev pub invariant-loop : goal.invariant-loop
invariant-loop g l = record {
  layout : g.R.Rows.buses l.rows ≡ g.R.Rows.buses l.fn.rows;
  whole : IsWhole (g.R.Rows.buses l.rows) (g.R.Rows.state l.rows);
}
