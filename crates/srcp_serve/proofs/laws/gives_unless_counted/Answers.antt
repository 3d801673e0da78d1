use Rattle.srcp_serve.proofs.CallsAreAdded.{gives_all}
use Rattle.srcp_serve.proofs.laws.gives_unless_counted.Goals as goal

pub returns : goal.returns
returns c = gives_all
