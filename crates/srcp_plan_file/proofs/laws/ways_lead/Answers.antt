use Rattle.srcp_plan_file.proofs.Leading.{ways-lead}
use Rattle.srcp_plan_file.proofs.laws.ways_lead.Goals as goal

pub returns : goal.returns
returns c = ways-lead
