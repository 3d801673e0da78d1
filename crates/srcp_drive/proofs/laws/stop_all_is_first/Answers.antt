-- The law is proved of the definitions.
use Rattle.srcp_drive.proofs.FirstLaws.{stop_all_is_first}
use Rattle.srcp_drive.proofs.laws.stop_all_is_first.Goals as goal

pub returns : goal.returns
returns c = stop_all_is_first
