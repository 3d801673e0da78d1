use Rattle.srcp_plan_file.proofs.Finding.{found-lead}
use Rattle.srcp_plan_file.proofs.laws.found_lead.Goals as goal

pub returns : goal.returns
returns c = found-lead
