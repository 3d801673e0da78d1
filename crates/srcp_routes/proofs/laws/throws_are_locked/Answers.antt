-- The law is proved of the definitions.
use Rattle.srcp_routes.proofs.Throws.{throws_are_locked}
use Rattle.srcp_routes.proofs.laws.throws_are_locked.Goals as goal

pub returns : goal.returns
returns c = throws_are_locked
