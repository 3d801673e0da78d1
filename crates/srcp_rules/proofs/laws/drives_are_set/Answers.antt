use Rattle.srcp_rules.proofs.SafetyLaws.{drives_set}
use Rattle.srcp_rules.proofs.laws.drives_are_set.Goals as goal

pub returns : goal.returns
returns c = drives_set
