use Rattle.std.proofs.Common.{rules}
use Rattle.srcp_rules.proofs.lock.is_locked.Goals as goal

pub returns-in-Lock : goal.returns-in-Lock
returns-in-Lock g c = search rules
