use Rattle.srcp_rules.proofs.FallLaws.{ends_in_time}
use Rattle.srcp_rules.proofs.laws.moments_end.Goals as goal

pub returns : goal.returns
returns c = ends_in_time
