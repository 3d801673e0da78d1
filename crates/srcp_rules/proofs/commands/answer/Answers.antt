use Rattle.std.proofs.Common.{arith}
use Rattle.std.proofs.lemmas.Grind.{common_steps}
use Rattle.srcp_rules.proofs.commands.answer.Goals as goal

pub returns-in-CheckLock-clause-obeyed : goal.returns-in-CheckLock-clause-obeyed
returns-in-CheckLock-clause-obeyed g c = grind (arith, common_steps)
