use Rattle.std.proofs.Common.{◌≡◌, ◌++◌, drop}
use Rattle.srcp_plan_file.specs.Output.{conflict_lines}
use Rattle.srcp_plan_file.proofs.print.print_conflicts.Given as goal

abbrev pub invariant-loop-n : goal.invariant-loop-n
invariant-loop-n l =
    l.fn.text.items ++ conflict_lines l.drawn l.routes ≡ l.text.items ++ conflict_lines l.drawn (drop l.n l.routes)
