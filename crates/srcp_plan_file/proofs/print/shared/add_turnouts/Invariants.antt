use Rattle.std.proofs.Common.{◌≡◌, ◌++◌, drop}
use Rattle.srcp_plan_file.specs.Output.{shared_turnouts}
use Rattle.srcp_plan_file.proofs.print.shared.add_turnouts.Given as goal

abbrev pub invariant-loop-turnout : goal.invariant-loop-turnout
invariant-loop-turnout l =
    l.fn.devices.items ++ shared_turnouts l.other l.route.turnouts.items
    ≡ l.devices.items ++ shared_turnouts l.other (drop l.turnout-index l.route.turnouts.items)
