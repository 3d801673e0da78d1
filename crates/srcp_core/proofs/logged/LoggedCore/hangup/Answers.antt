use Rattle.srcp_core.proofs.Agreement.PastIsLived.{lived_shut, there_is}
use Rattle.srcp_core.proofs.logged.LoggedCore.hangup.Goals as goal

pub invariant_of-self : goal.invariant_of-self
invariant_of-self g c = lived_shut _ _ _ c.self.invariant c.args.conn _ _ c.hangup.ensures.core c.note.ensures

pub returns-clause-says : goal.returns-clause-says
returns-clause-says g c = rw (← c.self.view_is) (there_is _ _ _ c.self.invariant c.args.conn _ c.hangup.ensures.absent)
