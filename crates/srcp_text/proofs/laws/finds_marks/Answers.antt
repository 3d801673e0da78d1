-- The law is proved of the definitions.
use Rattle.srcp_text.proofs.PieceLaws.{finds_marks}
use Rattle.srcp_text.proofs.laws.finds_marks.Goals as goal

pub returns : goal.returns
returns c = finds_marks
