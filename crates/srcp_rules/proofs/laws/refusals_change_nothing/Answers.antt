use Rattle.srcp_rules.proofs.CheckLaws.{refusal_alone}
use Rattle.srcp_rules.proofs.EachStepLaws.{refusals_stand}
use Rattle.srcp_rules.proofs.laws.refusals_change_nothing.Goals as goal

pub returns : goal.returns
returns c = record { nothing = λ state session moment command. refusal_alone state session moment command; memory = refusals_stand }
