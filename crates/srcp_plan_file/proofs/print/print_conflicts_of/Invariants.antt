use Rattle.std.proofs.Common.{◌≡◌, ◌++◌, drop}
use Rattle.std.specs.List.{flat_map}
use Rattle.srcp_plan_file.specs.Output.{conflict_line}
use Rattle.srcp_plan_file.proofs.print.print_conflicts_of.Given as goal

abbrev pub invariant-loop-other : goal.invariant-loop-other
invariant-loop-other l =
    l.fn.text.items ++ flat_map (conflict_line l.drawn l.route) l.others
    ≡ l.text.items ++ flat_map (conflict_line l.drawn l.route) (drop l.other-index l.others)
