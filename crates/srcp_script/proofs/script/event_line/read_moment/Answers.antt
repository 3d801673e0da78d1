use Rattle.std.proofs.Common.{rules}
use Rattle.srcp_script.proofs.script.event_line.read_moment.Goals as goal

pub returns : goal.returns
returns c = search rules
