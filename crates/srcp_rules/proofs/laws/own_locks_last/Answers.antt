use Rattle.srcp_rules.proofs.SafetyLaws.{own_locks_last}
use Rattle.srcp_rules.proofs.laws.own_locks_last.Goals as goal

pub returns : goal.returns
returns c = own_locks_last
