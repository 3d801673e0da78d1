use Rattle.std.proofs.Common.{rules}
use Rattle.srcp_layout_file.proofs.print.print_ports.Goals as goal

pub returns : goal.returns
returns c = search rules
