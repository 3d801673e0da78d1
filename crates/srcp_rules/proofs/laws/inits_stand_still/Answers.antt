use Rattle.srcp_rules.proofs.SafetyLaws.{inits_stand_still}
use Rattle.srcp_rules.proofs.laws.inits_stand_still.Goals as goal

pub returns : goal.returns
returns c = inits_stand_still
