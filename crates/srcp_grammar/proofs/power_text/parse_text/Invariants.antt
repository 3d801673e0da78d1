use Rattle.std.proofs.Common.{◌≡◌, ◌++◌, length}
use Rattle.std.specs.List.{join_with_byte}
use Rattle.srcp_grammar.proofs.WordTextLaws.{spaced}
use Rattle.srcp_grammar.proofs.power_text.parse_text.Given as goal

abbrev pub invariant-loop-word : goal.invariant-loop-word
invariant-loop-word l = join_with_byte 32 l.fn.words ≡ l.text ++ spaced l.words

abbrev pub decreases-loop-word : goal.decreases-loop-word
decreases-loop-word l = length l.words
