-- The law is proved of the definitions.
use Rattle.srcp_routes.proofs.Left.{left_ends}
use Rattle.srcp_routes.proofs.laws.left_ends.Goals as goal

pub returns : goal.returns
returns c = left_ends
