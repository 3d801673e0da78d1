-- The law is proved of the definitions.
use Rattle.srcp_routes.proofs.Behind.{freed_behind}
use Rattle.srcp_routes.proofs.laws.freed_behind.Goals as goal

pub returns : goal.returns
returns c = freed_behind
