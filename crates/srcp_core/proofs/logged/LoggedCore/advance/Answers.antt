use Rattle.srcp_core.proofs.Agreement.PastIsLived.{lived_at}
use Rattle.srcp_core.proofs.logged.LoggedCore.advance.Goals as goal

pub invariant_of-self : goal.invariant_of-self
invariant_of-self g c = lived_at _ _ _ c.self.invariant c.args.moment c.ranges.moment.fits _ _ c.advance.ensures c.note.ensures
