-- The law is proved of the definitions.
use Rattle.srcp_driver.proofs.Newest.{newest_is_told}
use Rattle.srcp_driver.proofs.laws.newest_is_told.Goals as goal

pub returns : goal.returns
returns c = newest_is_told
