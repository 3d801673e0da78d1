-- The law is proved of the definitions.
use Rattle.srcp_routes.proofs.Crossed.{cross_apart}
use Rattle.srcp_routes.proofs.laws.cross_apart.Goals as goal

pub returns : goal.returns
returns c = cross_apart
