-- Once the loop is through, each place has its value.
use Rattle.std.proofs.Common.{◌≡◌, ◌∙◌, ℕ, length, ap, arith}
use Rattle.srcp_routes.specs.Plan.{has_passed}
use Rattle.srcp_routes.proofs.Loops.{all_freed, freed_below}
use Rattle.srcp_routes.proofs.table.give_passed.Goals as goal

pub returns : goal.returns
returns c =
    let all : c.loop-n.n ≡ length c.args.wanted.now = omega arith in
    let passed = has_passed c.args.routes.now c.args.sensors.now c.args.trains.now c.args.told in
    c.loop-n.invariant ∙ ap (λ (k : ℕ). freed_below passed k c.args.wanted.now) all ∙ all_freed passed c.args.wanted.now
