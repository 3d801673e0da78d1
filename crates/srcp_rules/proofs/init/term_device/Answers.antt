use Rattle.std.proofs.Common.{rules}
use Rattle.srcp_rules.proofs.init.term_device.Goals as goal

pub returns-clause-took : goal.returns-clause-took
returns-clause-took g c = search rules

pub returns-in-Some-clause-took : goal.returns-in-Some-clause-took
returns-in-Some-clause-took g c = search rules
