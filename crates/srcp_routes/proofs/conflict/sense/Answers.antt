-- A step of the loop writes what is known of one sensor more.
use Rattle.std.proofs.Common.{◌<◌, length, get_or, arith}
use Rattle.std.proofs.lemmas.List.Edits.{map_over_more}
use Rattle.std.proofs.lemmas.List.{get_or_default}
use Rattle.srcp_routes.specs.Conflicts.{told_sensor}
use Rattle.srcp_routes.proofs.conflict.sense.Goals as goal

pub loop-known-preserved : goal.loop-known-preserved
loop-known-preserved c =
    let lt : c.loop-known.known-index < length c.args.sensors.now = omega arith in
    let lt' : c.loop-known.known-index < length c.loop-known.sensors = omega arith in
    rw c.told.ensures
    (map_over_more (told_sensor c.args.sensor c.args.occupancy) c.args.sensors.now c.loop-known.sensors c.loop-known.known-index
    (get_or c.loop-known.sensors c.loop-known.known-index _) lt c.loop-known.invariant
    (get_or_default c.loop-known.sensors c.loop-known.known-index _ _ lt'))
