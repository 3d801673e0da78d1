use Rattle.srcp_stations.proofs.DatasetLaws.{commands_are_checked}
use Rattle.srcp_stations.proofs.laws.commands_are_checked.Goals as goal

pub returns : goal.returns
returns c = commands_are_checked
