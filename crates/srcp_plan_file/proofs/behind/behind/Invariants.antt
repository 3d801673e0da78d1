use Rattle.std.proofs.Common.{◌≡◌, drop}
use Rattle.srcp_plan_file.specs.Behind.{behind}
use Rattle.srcp_plan_file.proofs.behind.behind.Given as goal

abbrev pub invariant-loop-n : goal.invariant-loop-n
invariant-loop-n l = behind l.kinds l.signal (drop l.n l.pieces) ≡ behind l.kinds l.signal l.pieces
