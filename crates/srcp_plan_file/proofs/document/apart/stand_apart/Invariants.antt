use Rattle.std.proofs.Common.{◌≡◌, drop, map}
use Rattle.srcp_plan_file.specs.Document.{apart_from_all}
use Rattle.srcp_plan_file.specs.Plan.{planned_route}
use Rattle.srcp_plan_file.proofs.document.apart.stand_apart.Given as goal

abbrev pub invariant-loop-other : goal.invariant-loop-other
invariant-loop-other l =
    apart_from_all (map planned_route (drop l.other-index l.before)) (planned_route l.route)
    ≡ apart_from_all (map planned_route l.before) (planned_route l.route)
