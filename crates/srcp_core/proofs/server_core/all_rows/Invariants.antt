use Rattle.srcp_core.proofs.Names.{◌≡◌, length, ◌++◌}
use Rattle.srcp_rules.proofs.CursorLaws.{beyond}
use Rattle.srcp_core.proofs.server_core.all_rows.Given as goal

abbrev pub invariant-loop-row : goal.invariant-loop-row
invariant-loop-row g l = l.list ++ beyond l.at (g.R.Rows.state l.rows) ≡ g.R.Rows.state l.rows

abbrev pub decreases-loop-row : goal.decreases-loop-row
decreases-loop-row g l = length (beyond l.at (g.R.Rows.state l.rows))
