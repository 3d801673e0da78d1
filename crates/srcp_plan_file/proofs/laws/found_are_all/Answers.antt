use Rattle.srcp_plan_file.proofs.Complete.{found-are-all}
use Rattle.srcp_plan_file.proofs.laws.found_are_all.Goals as goal

pub returns : goal.returns
returns c = found-are-all
