use Rattle.srcp_serve.proofs.TurnsCarryStreams.{sent_taken}
use Rattle.srcp_serve.proofs.laws.sent_is_taken.Goals as goal

pub returns : goal.returns
returns c = sent_taken
