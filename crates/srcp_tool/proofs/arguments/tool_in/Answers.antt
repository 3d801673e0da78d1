use Rattle.std.proofs.Common.{rules}
use Rattle.srcp_tool.proofs.arguments.tool_in.Goals as goal

pub returns-in-None : goal.returns-in-None
returns-in-None c = search rules
