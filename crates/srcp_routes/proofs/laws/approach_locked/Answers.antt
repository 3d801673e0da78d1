-- The law is proved of the definitions.
use Rattle.srcp_routes.proofs.Delays.{approach_kept, approach_locked}
use Rattle.srcp_routes.proofs.laws.approach_locked.Goals as goal

pub returns : goal.returns
returns c = record { ends = approach_locked; kept = approach_kept }
