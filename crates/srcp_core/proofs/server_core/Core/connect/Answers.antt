use Rattle.std.proofs.Common.{rules}
use Rattle.srcp_core.proofs.Invariants.PanelsStay.{panels_inserted}
use Rattle.srcp_core.proofs.server_core.Core.connect.Goals as goal

pub invariant_of-self : goal.invariant_of-self
invariant_of-self g c = (search rules, search rules, search rules, search (rules, panels_inserted))
