use Rattle.srcp_stations.proofs.DatasetLaws.{datasets_differ}
use Rattle.srcp_stations.proofs.laws.datasets_differ.Goals as goal

pub returns : goal.returns
returns c = datasets_differ
