use Rattle.std.proofs.Common.{rules}
use Rattle.srcp_layout_file.proofs.document.ports_if.Goals as goal

pub returns-in_err-ports-clause-ports : goal.returns-in_err-ports-clause-ports
returns-in_err-ports-clause-ports c = search rules
