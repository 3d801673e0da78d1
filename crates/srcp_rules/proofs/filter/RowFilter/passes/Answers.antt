use Rattle.std.proofs.Common.{rules}
use Rattle.srcp_rules.proofs.filter.RowFilter.passes.Goals as goal

pub returns-in-Some : goal.returns-in-Some
returns-in-Some c = search rules
