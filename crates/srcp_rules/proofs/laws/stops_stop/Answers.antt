use Rattle.srcp_rules.proofs.SafetyLaws.{stops_stop}
use Rattle.srcp_rules.proofs.laws.stops_stop.Goals as goal

pub returns : goal.returns
returns c = stops_stop
