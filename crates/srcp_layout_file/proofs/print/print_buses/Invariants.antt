use Rattle.std.proofs.Common.{◌≡◌, ◌++◌, drop}
use Rattle.std.specs.List.{flat_map}
use Rattle.srcp_layout_file.specs.Output.{bus_line}
use Rattle.srcp_layout_file.proofs.print.print_buses.Given as goal

abbrev pub invariant-loop-bus : goal.invariant-loop-bus
invariant-loop-bus l =
    l.fn.text.items ++ flat_map bus_line l.buses
    ≡ l.text.items ++ flat_map bus_line (drop l.bus-index l.buses)
