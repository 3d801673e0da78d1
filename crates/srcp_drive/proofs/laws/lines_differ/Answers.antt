-- The law is proved of the definitions.
use Rattle.srcp_drive.proofs.LineLaws.{lines_differ}
use Rattle.srcp_drive.proofs.laws.lines_differ.Goals as goal

pub returns : goal.returns
returns c = lines_differ
