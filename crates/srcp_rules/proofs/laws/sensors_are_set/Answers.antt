use Rattle.srcp_rules.proofs.SafetyLaws.{sensors_set}
use Rattle.srcp_rules.proofs.laws.sensors_are_set.Goals as goal

pub returns : goal.returns
returns c = sensors_set
