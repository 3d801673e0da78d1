use Rattle.srcp_core.proofs.Names.{◌∙◌, ap, is_none, giving, []}
use Rattle.srcp_core.proofs.Agreement.PastIsLived.{fault_is}
use Rattle.srcp_core.proofs.logged.LoggedCore.ready.Goals as goal

pub returns : goal.returns
returns g c = rw (← c.self.view_is) (c.ready.ensures ∙ ap is_none (fault_is _ _ _ c.self.invariant c.args.conn (giving [])))
