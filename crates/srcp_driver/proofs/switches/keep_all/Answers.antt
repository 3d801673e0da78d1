-- A step of the loop changes one more.
use Rattle.std.proofs.Common.{◌<◌, length, get_or, arith}
use Rattle.std.proofs.lemmas.List.Edits.{map_over_more}
use Rattle.std.proofs.lemmas.List.{get_or_default}
use Rattle.srcp_driver.specs.Switches.{switch_kept}
use Rattle.srcp_driver.proofs.switches.keep_all.Goals as goal

pub loop-switch-preserved : goal.loop-switch-preserved
loop-switch-preserved c =
    let lt : c.loop-switch.switch-index < length c.args.switches.now = omega arith in
    let lt' : c.loop-switch.switch-index < length c.loop-switch.switches = omega arith in
    rw c.kept.ensures
    (map_over_more switch_kept c.args.switches.now c.loop-switch.switches c.loop-switch.switch-index
    (get_or c.loop-switch.switches c.loop-switch.switch-index _) lt c.loop-switch.invariant
    (get_or_default c.loop-switch.switches c.loop-switch.switch-index _ _ lt'))
