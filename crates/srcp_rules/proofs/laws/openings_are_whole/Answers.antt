use Rattle.srcp_rules.proofs.OpeningLaws.{opening_whole}
use Rattle.srcp_rules.proofs.laws.openings_are_whole.Goals as goal

pub returns : goal.returns
returns c = λ buses moment layout now. opening_whole buses layout moment now
