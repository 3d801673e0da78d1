use Rattle.srcp_grammar.proofs.BitLaws.{IsReadUpTo}
use Rattle.std.proofs.Common.{length}
use Rattle.srcp_grammar.proofs.arguments.parse_functions.Given as goal

abbrev pub invariant-loop-words : goal.invariant-loop-words
invariant-loop-words l = IsReadUpTo l.fn.words l.functions l.words

abbrev pub decreases-loop-words : goal.decreases-loop-words
decreases-loop-words l = length l.words

abbrev pub invariant-loop-word : goal.invariant-loop-word
invariant-loop-word l = IsReadUpTo l.fn.words l.functions l.words

abbrev pub decreases-loop-word : goal.decreases-loop-word
decreases-loop-word l = length l.words
