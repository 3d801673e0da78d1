use Rattle.srcp_rules.proofs.StateLaws.{rising-updated}
use Rattle.srcp_rules.proofs.laws.updates_keep_rising.Goals as goal

pub returns : goal.returns
returns c = rising-updated
