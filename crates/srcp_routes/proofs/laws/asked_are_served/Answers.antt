-- The law is proved of the definitions.
use Rattle.srcp_routes.proofs.Asked.{asked_are_served}
use Rattle.srcp_routes.proofs.laws.asked_are_served.Goals as goal

pub returns : goal.returns
returns c = asked_are_served
