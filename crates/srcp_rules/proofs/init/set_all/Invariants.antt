use Rattle.srcp_rules.proofs.Names.{◌≡◌, take, put_rows}
use Rattle.srcp_rules.proofs.init.set_all.Given as goal

abbrev pub invariant-loop-row : goal.invariant-loop-row
invariant-loop-row g l = record {
  layout : g.R.Rows.buses l.rows ≡ g.R.Rows.buses l.fn.rows;
  rows : g.R.Rows.state l.rows ≡ put_rows (take l.row-index l.fresh) (g.R.Rows.state l.fn.rows);
}
