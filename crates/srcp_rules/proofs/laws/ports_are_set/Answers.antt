use Rattle.srcp_rules.proofs.FallLaws.{port_set}
use Rattle.srcp_rules.proofs.laws.ports_are_set.Goals as goal

pub returns : goal.returns
returns c = port_set
