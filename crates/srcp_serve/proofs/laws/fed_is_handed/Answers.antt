use Rattle.srcp_serve.proofs.TurnsCarryStreams.{fed_handed}
use Rattle.srcp_serve.proofs.laws.fed_is_handed.Goals as goal

pub returns : goal.returns
returns c = fed_handed
