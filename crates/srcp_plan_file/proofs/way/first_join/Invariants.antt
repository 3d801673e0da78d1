use Rattle.std.proofs.Common.{◌≡◌, ◌==◌, drop}
use Rattle.std.specs.List.{find}
use Rattle.srcp_plan_file.specs.declared.join.Join.{Join}
use Rattle.srcp_plan_file.proofs.way.first_join.Given as goal

abbrev pub invariant-loop-join : goal.invariant-loop-join
invariant-loop-join l =
    find (λ (join : Join). join.from == l.n) (drop l.join-index l.joins) ≡ find (λ (join : Join). join.from == l.n) l.joins
