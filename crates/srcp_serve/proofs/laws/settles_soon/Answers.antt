use Rattle.srcp_serve.proofs.Settling.PanelsSettle.{settles_soon}
use Rattle.srcp_serve.proofs.laws.settles_soon.Goals as goal

pub returns : goal.returns
returns c = settles_soon
