-- As far as the loop has come, each sensor is known as it is after the telling.
use Rattle.std.proofs.Common.{◌≡◌, ◌++◌, take, drop}
use Rattle.std.specs.Prelude.{map}
use Rattle.srcp_routes.specs.Conflicts.{told_sensor}
use Rattle.srcp_routes.proofs.conflict.sense.Given as goal

abbrev pub invariant-loop-known : goal.invariant-loop-known
invariant-loop-known l =
    l.sensors ≡ map (told_sensor l.sensor l.occupancy) (take l.known-index l.initial.sensors) ++ drop l.known-index l.initial.sensors
