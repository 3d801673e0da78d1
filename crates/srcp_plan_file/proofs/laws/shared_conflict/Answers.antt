use Rattle.srcp_plan_file.proofs.Sharing.{shared-conflict}
use Rattle.srcp_plan_file.proofs.laws.shared_conflict.Goals as goal

pub returns : goal.returns
returns c = shared-conflict
