use Rattle.std.proofs.Common.{rules}
use Rattle.srcp_rules.proofs.new_device.gl_rows.Goals as goal

pub returns : goal.returns
returns c = search rules
