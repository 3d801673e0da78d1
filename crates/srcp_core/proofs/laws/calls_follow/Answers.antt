-- The laws are proved of the definitions.
use Rattle.srcp_core.proofs.Agreement.CallLaws.{calls_lead, calls_agree, calls_count}
use Rattle.srcp_core.proofs.laws.calls_follow.Goals as goal

pub returns : goal.returns
returns c = record { lead = calls_lead; agree = calls_agree; count = calls_count }
