use Rattle.std.proofs.Common.{◌≡◌, drop}
use Rattle.std.specs.List.{find}
use Rattle.srcp_plan_file.specs.Ways.{goes_straight}
use Rattle.srcp_plan_file.proofs.way.straight_join.Given as goal

abbrev pub invariant-loop-join : goal.invariant-loop-join
invariant-loop-join l = find (goes_straight l.came) (drop l.join-index l.joins) ≡ find (goes_straight l.came) l.joins
