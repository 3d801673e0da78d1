use Rattle.srcp_index.proofs.Least.{earliest}
use Rattle.srcp_index.proofs.indexed.Indexed.earliest_due.Goals as goal

pub returns : goal.returns
returns g c = rw (← c.self.view_is) (earliest _ _ _ _ c.self.invariant.due.pairs c.least.ensures)
