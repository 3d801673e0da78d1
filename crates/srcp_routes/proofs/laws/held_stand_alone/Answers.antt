-- The law is proved of the definitions.
use Rattle.srcp_routes.proofs.Apart.{held_stand_alone}
use Rattle.srcp_routes.proofs.laws.held_stand_alone.Goals as goal

pub returns : goal.returns
returns c = held_stand_alone
