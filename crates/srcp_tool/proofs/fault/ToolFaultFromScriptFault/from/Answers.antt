use Rattle.std.proofs.Common.{refl}
use Rattle.srcp_tool.proofs.fault.ToolFaultFromScriptFault.from.Goals as goal

pub returns-in-Memory : goal.returns-in-Memory
returns-in-Memory c = rw c.in-Memory.is refl
