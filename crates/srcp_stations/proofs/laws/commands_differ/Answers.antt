use Rattle.srcp_stations.proofs.TellLaws.{commands_differ}
use Rattle.srcp_stations.proofs.laws.commands_differ.Goals as goal

pub returns : goal.returns
returns c = commands_differ
