-- The law is proved of the definitions.
use Rattle.srcp_routes.proofs.Given.{given_end}
use Rattle.srcp_routes.proofs.laws.given_end.Goals as goal

pub returns : goal.returns
returns c = given_end
