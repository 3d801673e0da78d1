use Rattle.srcp_rules.proofs.DueLaws.{due_front, freed_front}
use Rattle.srcp_rules.proofs.EachStepLaws.{step_whole}
use Rattle.srcp_rules.proofs.laws.steps_keep_whole.Goals as goal

pub returns : goal.returns
returns c = record { steps = step_whole; moments = due_front; ends = freed_front }
