-- Once the loop is through, each place has its value.
use Rattle.std.proofs.Common.{◌≡◌, ◌∙◌, ℕ, length, ap, arith}
use Rattle.srcp_routes.specs.Plan.{is_freed}
use Rattle.srcp_routes.proofs.Loops.{all_freed, freed_below}
use Rattle.srcp_routes.proofs.table.give_freed.Goals as goal

pub returns : goal.returns
returns c =
    let all : c.loop-n.n ≡ length c.args.wanted.now = omega arith in
    let freed = is_freed c.args.routes.now c.args.stages.now c.args.sensor in
    c.loop-n.invariant ∙ ap (λ (k : ℕ). freed_below freed k c.args.wanted.now) all ∙ all_freed freed c.args.wanted.now
