use Rattle.srcp_core.proofs.Agreement.PastIsLived.{due_is}
use Rattle.srcp_core.proofs.logged.LoggedCore.earliest_due.Goals as goal

pub returns : goal.returns
returns g c = rw (← c.self.view_is) (due_is _ _ _ c.self.invariant _ c.earliest_due.ensures)
