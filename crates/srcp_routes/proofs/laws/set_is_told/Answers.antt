-- The law is proved of the definitions.
use Rattle.srcp_routes.proofs.Shown.{set_is_told}
use Rattle.srcp_routes.proofs.laws.set_is_told.Goals as goal

pub returns : goal.returns
returns c = set_is_told
