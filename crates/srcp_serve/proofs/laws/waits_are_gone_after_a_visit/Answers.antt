use Rattle.srcp_serve.proofs.Settling.PanelsSettle.{waits_are_gone}
use Rattle.srcp_serve.proofs.laws.waits_are_gone_after_a_visit.Goals as goal

pub returns : goal.returns
returns c = waits_are_gone
