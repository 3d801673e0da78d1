use Rattle.srcp_core.proofs.Names.{◌∙◌}
use Rattle.srcp_core.proofs.Agreement.PastIsLived.{slack_is}
use Rattle.srcp_core.proofs.logged.LoggedCore.slack.Goals as goal

pub returns : goal.returns
returns g c = rw (← c.self.view_is) (c.slack.ensures ∙ slack_is _ _ _ c.self.invariant)
