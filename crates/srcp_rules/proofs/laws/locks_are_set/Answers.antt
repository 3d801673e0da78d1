use Rattle.srcp_rules.proofs.FallLaws.{lock_set}
use Rattle.srcp_rules.proofs.laws.locks_are_set.Goals as goal

pub returns : goal.returns
returns c = lock_set
