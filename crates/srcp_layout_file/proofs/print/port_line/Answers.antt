use Rattle.std.proofs.Common.{rules, append_assoc}
use Rattle.srcp_layout_file.proofs.print.port_line.Goals as goal

pub returns : goal.returns
returns c = simp append_assoc (search rules)
