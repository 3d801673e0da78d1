use Rattle.std.proofs.Common.{◌≡◌, [], drop, map}
use Rattle.toml.specs.View.{view}
use Rattle.srcp_plan_file.specs.Document.{turnouts_in}
use Rattle.srcp_plan_file.proofs.document.route.turnouts_in.Given as goal

abbrev pub invariant-loop-value : goal.invariant-loop-value
invariant-loop-value l =
    turnouts_in l.own l.number l.turnouts.items (map view (drop l.value-index l.values))
    ≡ turnouts_in l.own l.number [] (map view l.values)
