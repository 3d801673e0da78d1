use Rattle.std.proofs.Common.{◌≡◌, [], drop, map}
use Rattle.toml.specs.View.{view}
use Rattle.srcp_layout_file.specs.Document.{buses_in}
use Rattle.srcp_layout_file.proofs.document.read_buses.Given as goal

abbrev pub invariant-loop-value : goal.invariant-loop-value
invariant-loop-value l = buses_in l.layout (map view (drop l.value-index l.values)) ≡ buses_in [] (map view l.values)
