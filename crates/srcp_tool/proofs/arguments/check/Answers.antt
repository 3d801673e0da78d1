use Rattle.std.proofs.Common.{rules}
use Rattle.srcp_tool.proofs.arguments.check.Goals as goal

pub returns-clause-app : goal.returns-clause-app
returns-clause-app c = search rules
