-- The joins so far, and those of the pieces that follow, are those of the drawing.
use Rattle.std.proofs.Common.{◌≡◌, ◌++◌, drop}
use Rattle.srcp_plan_file.specs.Joins.{joins_from, joins_of}
use Rattle.srcp_plan_file.proofs.join.joins_of.Given as goal

abbrev pub invariant-loop-n : goal.invariant-loop-n
invariant-loop-n l = l.joins.items ++ joins_from l.pieces l.n (drop l.n l.pieces) ≡ joins_of l.pieces
