-- The law is proved of the definitions.
use Rattle.srcp_driver.proofs.Boards.{rows_follow, settings_are_paced, settings_are_told}
use Rattle.srcp_driver.proofs.laws.boards_are_told.Goals as goal

pub returns : goal.returns
returns c = record { told = settings_are_told; rows = rows_follow; paced = settings_are_paced }
