use Rattle.srcp_rules.proofs.WeightLaws.{line_weighs, weights_small, go_weighs_one}
use Rattle.srcp_rules.proofs.laws.lines_weigh_enough.Goals as goal

pub returns : goal.returns
returns c = record { enough = line_weighs; small = weights_small; goes = go_weighs_one }
