use Rattle.srcp_core.proofs.Invariants.UnsentBytes.{none_left}
use Rattle.srcp_core.proofs.connection.Connection.is_sent.Goals as goal

pub returns : goal.returns
returns c = cc (none_left _ _ c.self.invariant.1, c.self.view_is)
