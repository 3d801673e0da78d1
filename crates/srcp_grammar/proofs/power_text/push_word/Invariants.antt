use Rattle.std.proofs.Common.{◌≡◌, ◌++◌, take}
use Rattle.srcp_grammar.proofs.power_text.push_word.Given as goal

abbrev pub invariant-loop-byte : goal.invariant-loop-byte
invariant-loop-byte l = l.text ≡ l.initial.text ++ take l.byte-index l.word
