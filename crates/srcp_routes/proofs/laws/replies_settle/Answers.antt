-- The law is proved of the definitions.
use Rattle.srcp_routes.proofs.Settling.{replies_settle}
use Rattle.srcp_routes.proofs.laws.replies_settle.Goals as goal

pub returns : goal.returns
returns c = replies_settle
