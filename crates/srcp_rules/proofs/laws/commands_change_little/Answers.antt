use Rattle.srcp_rules.proofs.CountLaws.{effect_few}
use Rattle.srcp_rules.proofs.laws.commands_change_little.Goals as goal

pub returns : goal.returns
returns c = effect_few
