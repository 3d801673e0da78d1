use Rattle.srcp_core.proofs.Names.{◌≡◌, length, AllByRecursion, IsRising, IsRowOf, opening}
use Rattle.srcp_rules.proofs.CursorLaws.{beyond}
use Rattle.srcp_core.proofs.Invariants.OpeningRowsAreStamped.{stamped_beyond}
use Rattle.srcp_core.proofs.server_core.stamp.stamp_all.Given as goal

abbrev pub invariant-loop-row : goal.invariant-loop-row
invariant-loop-row g l = record {
  layout : g.R.Rows.buses l.rows ≡ g.R.Rows.buses l.fn.rows;
  rising : IsRising (g.R.Rows.state l.rows);
  each : AllByRecursion (IsRowOf (g.R.Rows.buses l.fn.rows)) (g.R.Rows.state l.rows);
  stamps : stamped_beyond l.moment l.at (g.R.Rows.state l.rows) ≡ opening (g.R.Rows.buses l.fn.rows) l.moment;
}

abbrev pub decreases-loop-row : goal.decreases-loop-row
decreases-loop-row g l = length (beyond l.at (g.R.Rows.state l.rows))
