-- The pieces so far, and those that follow, are those of the way.
use Rattle.std.proofs.Common.{◌≡◌, ◌-◌, length}
use Rattle.srcp_plan_file.specs.Ways.{walk, way_over}
use Rattle.srcp_plan_file.proofs.way.way_over.Given as goal

abbrev pub invariant-loop-passed : goal.invariant-loop-passed
invariant-loop-passed l =
    walk l.joins l.kinds l.turnouts l.goal (length l.joins - l._passed) l.pieces.items l.came
    ≡ way_over l.joins l.kinds l.turnouts l.begin l.goal
