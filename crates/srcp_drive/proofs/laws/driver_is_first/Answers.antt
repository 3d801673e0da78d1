-- The law is proved of the definitions.
use Rattle.srcp_drive.proofs.FirstLaws.{driver_is_first}
use Rattle.srcp_drive.proofs.laws.driver_is_first.Goals as goal

pub returns : goal.returns
returns c = driver_is_first
