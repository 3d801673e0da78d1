-- The law is proved of the definitions.
use Rattle.srcp_drive.proofs.ReplyLaws.{replies_are_heard}
use Rattle.srcp_drive.proofs.laws.replies_are_heard.Goals as goal

pub returns : goal.returns
returns c = replies_are_heard
