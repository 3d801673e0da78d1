-- The law is proved of the definitions.
use Rattle.srcp_drive.proofs.BoardLaws.{boards_ask_nothing}
use Rattle.srcp_drive.proofs.laws.boards_ask_nothing.Goals as goal

pub returns : goal.returns
returns c = boards_ask_nothing
