use Rattle.std.proofs.Common.{rules}
use Rattle.srcp_info.proofs.mirror.Mirror.new.Goals as goal

pub returns : goal.returns
returns c = search rules
