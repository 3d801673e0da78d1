use Rattle.srcp_serve.proofs.LendingsTellNothing.{lendings_tell_nothing}
use Rattle.srcp_serve.proofs.laws.lendings_tell_nothing.Goals as goal

pub returns : goal.returns
returns c = lendings_tell_nothing
