use Rattle.std.proofs.Common.{◌≡◌, [], drop, map}
use Rattle.toml.specs.View.{view}
use Rattle.srcp_plan_file.specs.Document.{routes_in}
use Rattle.srcp_plan_file.specs.Plan.{drawn, planned_route}
use Rattle.srcp_plan_file.proofs.document.read_routes.Given as goal

abbrev pub invariant-loop-value : goal.invariant-loop-value
invariant-loop-value l =
    routes_in l.own (drawn l.tracks) (map planned_route l.routes.items) (map view (drop l.value-index l.values))
    ≡ routes_in l.own (drawn l.tracks) [] (map view l.values)
