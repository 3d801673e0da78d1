use Rattle.std.proofs.Common.{◌≡◌, ◌++◌, drop}
use Rattle.std.specs.List.{flat_map}
use Rattle.std.specs.Prelude.{codes}
use Rattle.srcp_plan_file.specs.Output.{passed_text}
use Rattle.srcp_plan_file.proofs.print.route.print_way.Given as goal

abbrev pub invariant-loop-n : goal.invariant-loop-n
invariant-loop-n l =
    l.fn.text.items ++ (codes " over" ++ flat_map (passed_text l.drawing l.drawn) l.pieces)
    ≡ l.text.items ++ flat_map (passed_text l.drawing l.drawn) (drop l.n-index l.pieces)
