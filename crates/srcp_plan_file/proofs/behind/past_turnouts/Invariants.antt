use Rattle.std.proofs.Common.{◌≡◌, drop}
use Rattle.srcp_plan_file.specs.Behind.{past, past_turnouts}
use Rattle.srcp_plan_file.proofs.behind.past_turnouts.Given as goal

abbrev pub invariant-loop-n : goal.invariant-loop-n
invariant-loop-n l = past l.kinds l.past (drop l.n l.pieces) ≡ past_turnouts l.kinds l.pieces
