use Rattle.std.proofs.Common.{◌≡◌, [], drop, map}
use Rattle.toml.specs.View.{view}
use Rattle.srcp_plan_file.specs.Document.{sensors_in}
use Rattle.srcp_plan_file.proofs.document.route.sensors_in.Given as goal

abbrev pub invariant-loop-value : goal.invariant-loop-value
invariant-loop-value l =
    sensors_in l.own l.number l.field l.sensors.items (map view (drop l.value-index l.values))
    ≡ sensors_in l.own l.number l.field [] (map view l.values)
