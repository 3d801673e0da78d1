use Rattle.std.proofs.Common.{rules}
use Rattle.srcp_script.proofs.Prints.{rest-cut}
use Rattle.srcp_script.proofs.print.is_cut.Goals as goal

pub returns-then-not-is_empty : goal.returns-then-not-is_empty
returns-then-not-is_empty c = rest-cut c.args.bytes.now (search rules)
