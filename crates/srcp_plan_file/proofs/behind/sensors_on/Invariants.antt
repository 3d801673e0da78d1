use Rattle.std.proofs.Common.{◌≡◌, ◌++◌, drop}
use Rattle.srcp_plan_file.specs.Behind.{sensors_on}
use Rattle.srcp_plan_file.proofs.behind.sensors_on.Given as goal

abbrev pub invariant-loop-n : goal.invariant-loop-n
invariant-loop-n l =
    sensors_on l.own l.kinds l.pieces ≡ l.sensors.items ++ sensors_on l.own l.kinds (drop l.n-index l.pieces)
