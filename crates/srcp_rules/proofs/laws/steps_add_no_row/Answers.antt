use Rattle.srcp_rules.proofs.AddsNoRowLaws.{freed_adds}
use Rattle.srcp_rules.proofs.EachStepLaws.{step_adds}
use Rattle.srcp_rules.proofs.laws.steps_add_no_row.Goals as goal

pub returns : goal.returns
returns c = record { steps = step_adds; ends = freed_adds }
