use Rattle.srcp_stations.proofs.NoiseLaws.{messages_read_again}
use Rattle.srcp_stations.proofs.laws.messages_read_again.Goals as goal

pub returns : goal.returns
returns c = messages_read_again
