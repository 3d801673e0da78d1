use Rattle.srcp_core.proofs.Invariants.RowLists.{told_well_formed}
use Rattle.srcp_core.proofs.server_core.Core.rows.Goals as goal

pub returns-clause-well_formed : goal.returns-clause-well_formed
returns-clause-well_formed g c =
    told_well_formed c.self.inside.layout.now
    (g.R.Rows.state c.self.inside.rows) _ c.self.invariant.0.whole c.all_rows.ensures
