use Rattle.srcp_rules.proofs.LockedLaws.{locks_hold}
use Rattle.srcp_rules.proofs.laws.locks_hold.Goals as goal

pub returns : goal.returns
returns c = locks_hold
