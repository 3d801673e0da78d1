use Rattle.srcp_rules.proofs.FreedLaws.{all_freed}
use Rattle.srcp_rules.proofs.laws.ends_free_all.Goals as goal

pub returns : goal.returns
returns c = all_freed
