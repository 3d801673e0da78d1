use Rattle.srcp_core.proofs.Names.{◌∙◌}
use Rattle.srcp_core.proofs.Agreement.PastIsLived.{closes_is}
use Rattle.srcp_core.proofs.logged.LoggedCore.closing.Goals as goal

pub returns : goal.returns
returns g c = rw (← c.self.view_is) (c.closing.ensures ∙ closes_is _ _ _ c.self.invariant c.args.conn)
