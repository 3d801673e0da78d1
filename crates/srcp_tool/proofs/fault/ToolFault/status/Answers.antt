use Rattle.std.proofs.Common.{refl}
use Rattle.srcp_tool.proofs.fault.ToolFault.status.Goals as goal

pub returns-in-TooLarge : goal.returns-in-TooLarge
returns-in-TooLarge c = rw c.in-TooLarge.is refl
