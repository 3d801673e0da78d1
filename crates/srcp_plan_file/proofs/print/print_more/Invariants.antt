use Rattle.std.proofs.Common.{◌≡◌, ◌++◌, drop}
use Rattle.std.specs.List.{flat_map}
use Rattle.srcp_plan_file.specs.Output.{more}
use Rattle.srcp_plan_file.proofs.print.print_more.Given as goal

abbrev pub invariant-loop-device : goal.invariant-loop-device
invariant-loop-device l =
    l.fn.text.items ++ flat_map more l.devices ≡ l.text.items ++ flat_map more (drop l.device-index l.devices)
