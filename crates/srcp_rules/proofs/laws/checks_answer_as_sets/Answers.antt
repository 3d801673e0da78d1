use Rattle.srcp_rules.proofs.CheckLaws.{check_as_set}
use Rattle.srcp_rules.proofs.laws.checks_answer_as_sets.Goals as goal

pub returns : goal.returns
returns c = check_as_set
