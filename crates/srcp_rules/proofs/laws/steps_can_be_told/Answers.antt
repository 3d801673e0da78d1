use Rattle.srcp_rules.proofs.EachStepLaws.{step_told}
use Rattle.srcp_rules.proofs.ToldLaws.{reply_told}
use Rattle.srcp_rules.proofs.laws.steps_can_be_told.Goals as goal

pub returns : goal.returns
returns c = record {
  changes = step_told;
  replies = λ buses state session moment command may now. reply_told buses state may.whole session moment may.begun now command;
}
