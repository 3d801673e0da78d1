use Rattle.srcp_rules.proofs.FallLaws.{port_falls}
use Rattle.srcp_rules.proofs.laws.ports_fall_back.Goals as goal

pub returns : goal.returns
returns c = port_falls
