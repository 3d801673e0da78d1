use Rattle.srcp_stations.proofs.TellLaws.{commands_are_short}
use Rattle.srcp_stations.proofs.laws.commands_are_short.Goals as goal

pub returns : goal.returns
returns c = commands_are_short
