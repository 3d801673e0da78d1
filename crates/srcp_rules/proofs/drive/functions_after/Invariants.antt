use Rattle.std.proofs.Common.{◌≡◌, ◌++◌, length}
use Rattle.std.specs.List.{between}
use Rattle.srcp_rules.proofs.drive.functions_after.Given as goal

abbrev pub invariant-loop-index : goal.invariant-loop-index
invariant-loop-index l = l.after ≡ l.given ++ between (length l.given) l.index l.before
