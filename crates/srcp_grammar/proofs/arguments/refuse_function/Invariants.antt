use Rattle.std.proofs.Common.{◌≡◌, ◌+◌, ◌≤◌, length}
use Rattle.srcp_info.specs.Limits.{most_functions}
use Rattle.srcp_grammar.proofs.arguments.refuse_function.Given as goal

abbrev pub invariant-loop-count : goal.invariant-loop-count
invariant-loop-count l = record {
  few : l.count ≤ most_functions;
  counted : l.fn.before + 1 + length l.fn.words ≡ l.count + length l.words;
}

abbrev pub decreases-loop-count : goal.decreases-loop-count
decreases-loop-count l = length l.words
