use Rattle.srcp_stations.proofs.SaidLaws.{messages_differ}
use Rattle.srcp_stations.proofs.laws.messages_differ.Goals as goal

pub returns : goal.returns
returns c = messages_differ
