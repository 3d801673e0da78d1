-- The law is proved of the definitions.
use Rattle.srcp_routes.proofs.Asked.{wanted_are_served}
use Rattle.srcp_routes.proofs.laws.wanted_are_served.Goals as goal

pub returns : goal.returns
returns c = wanted_are_served
