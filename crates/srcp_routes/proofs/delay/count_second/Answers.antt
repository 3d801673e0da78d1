-- A step of the loop counts a second of one delay more.
use Rattle.std.proofs.Common.{◌<◌, length, get_or, arith}
use Rattle.std.proofs.lemmas.List.Edits.{map_over_more}
use Rattle.std.proofs.lemmas.List.{get_or_default}
use Rattle.srcp_routes.specs.Steps.{less}
use Rattle.srcp_routes.proofs.delay.count_second.Goals as goal

pub loop-delay-preserved : goal.loop-delay-preserved
loop-delay-preserved c =
    let lt : c.loop-delay.delay-index < length c.args.delays.now = omega arith in
    let lt' : c.loop-delay.delay-index < length c.loop-delay.delays = omega arith in
    rw c.one_less.ensures
    (map_over_more less c.args.delays.now c.loop-delay.delays c.loop-delay.delay-index
    (get_or c.loop-delay.delays c.loop-delay.delay-index _) lt c.loop-delay.invariant
    (get_or_default c.loop-delay.delays c.loop-delay.delay-index _ _ lt'))
