use Rattle.std.proofs.Common.{◌≡◌, drop}
use Rattle.std.specs.List.{find}
use Rattle.srcp_plan_file.specs.Ways.{leads}
use Rattle.srcp_plan_file.proofs.way.led_join.Given as goal

abbrev pub invariant-loop-join : goal.invariant-loop-join
invariant-loop-join l =
    find (leads l.joins l.to_branch l.came) (drop l.join-index l.joins) ≡ find (leads l.joins l.to_branch l.came) l.joins
