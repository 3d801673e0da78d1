-- A route in the way is found.
use Rattle.std.proofs.Common.{◌≡◌, ◌<◌, true, false, length, sym, arith}
use Rattle.srcp_routes.proofs.Loops.{all_fail, all_hold, in_the_way}
use Rattle.srcp_routes.specs.Plan.{conflict_at, lets, stage_at}
use Rattle.srcp_routes.specs.Stages.{is_idle}
use Rattle.srcp_routes.proofs.table.is_clear.Goals as goal

pub returns-then-not-is_idle : goal.returns-then-not-is_idle
returns-then-not-is_idle c =
    let clash : conflict_at c.args.routes.now c.args.n c.loop-m.m ≡ true = cc in
    let idle : is_idle (stage_at c.args.stages.now c.loop-m.m) ≡ false = cc in
    let lt : c.loop-m.m < length c.args.routes.now = omega arith in
    sym (all_fail (lets c.args.routes.now c.args.stages.now c.args.n) (length c.args.routes.now) c.loop-m.m lt
    (in_the_way (conflict_at c.args.routes.now c.args.n c.loop-m.m) (is_idle (stage_at c.args.stages.now c.loop-m.m)) clash idle))

pub returns : goal.returns
returns c = sym (all_hold (lets c.args.routes.now c.args.stages.now c.args.n) 0 (length c.args.routes.now)
    (λ k low lt. c.loop-m.invariant k (omega (arith, lt))))
