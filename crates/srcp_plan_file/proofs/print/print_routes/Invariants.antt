use Rattle.std.proofs.Common.{◌≡◌, ◌++◌, drop}
use Rattle.std.specs.List.{flat_map}
use Rattle.srcp_plan_file.specs.Output.{route_line}
use Rattle.srcp_plan_file.proofs.print.print_routes.Given as goal

abbrev pub invariant-loop-route : goal.invariant-loop-route
invariant-loop-route l =
    l.fn.text.items ++ flat_map (route_line l.drawing l.drawn) l.routes
    ≡ l.text.items ++ flat_map (route_line l.drawing l.drawn) (drop l.route-index l.routes)
