-- The sensors so far are added.
use Rattle.std.proofs.Common.{◌≡◌, ◌++◌, take}
use Rattle.std.specs.Prelude.{map}
use Rattle.srcp_routes.specs.Conflicts.{unknown}
use Rattle.srcp_routes.proofs.conflict.add_all.Given as goal

abbrev pub invariant-loop-device : goal.invariant-loop-device
invariant-loop-device l = l.sensors.items ≡ l.initial.sensors.items ++ map unknown (take l.device-index l.devices)
