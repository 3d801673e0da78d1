use Rattle.srcp_rules.proofs.SafetyLaws.{powers_set}
use Rattle.srcp_rules.proofs.laws.powers_are_set.Goals as goal

pub returns : goal.returns
returns c = powers_set
