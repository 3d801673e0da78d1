-- The law is proved of the definitions.
use Rattle.srcp_drive.proofs.LineLaws.{nothing_changes}
use Rattle.srcp_drive.proofs.laws.nothing_changes.Goals as goal

pub returns : goal.returns
returns c = nothing_changes
