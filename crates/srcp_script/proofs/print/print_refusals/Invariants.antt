use Rattle.std.proofs.Common.{◌≡◌, ◌++◌, drop}
use Rattle.std.specs.List.{flat_map}
use Rattle.srcp_script.specs.Output.{refusal_line}
use Rattle.srcp_script.proofs.print.print_refusals.Given as goal

abbrev pub invariant-loop-refusal : goal.invariant-loop-refusal
invariant-loop-refusal l =
    l.fn.text.items ++ flat_map refusal_line l.refusals
    ≡ l.text.items ++ flat_map refusal_line (drop l.refusal-index l.refusals)
