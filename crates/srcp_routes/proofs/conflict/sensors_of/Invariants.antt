-- The sensors of the routes so far are there.
use Rattle.std.proofs.Common.{◌≡◌, take}
use Rattle.srcp_routes.specs.Conflicts.{sensors_of}
use Rattle.srcp_routes.proofs.conflict.sensors_of.Given as goal

abbrev pub invariant-loop-route : goal.invariant-loop-route
invariant-loop-route l = l.sensors.items ≡ sensors_of (take l.route-index l.routes)
