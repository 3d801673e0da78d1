use Rattle.std.proofs.Common.{rules}
use Rattle.srcp_script.proofs.script.escape.escaped_byte.Goals as goal

pub returns-in_default-letter-clause-first : goal.returns-in_default-letter-clause-first
returns-in_default-letter-clause-first c = search rules
