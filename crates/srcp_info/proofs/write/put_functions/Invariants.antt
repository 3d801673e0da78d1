use Rattle.std.proofs.Common.{◌≡◌, ◌*◌, length, map, take}
use Rattle.srcp_info.specs.Line.{after_spaces, bit_word}
use Rattle.srcp_info.proofs.write.put_functions.Given as goal

abbrev pub invariant-loop-index : goal.invariant-loop-index
invariant-loop-index g l = (length l.words ≡ 58) × (take (2 * l.index) l.words ≡ after_spaces (map bit_word (take l.index l.bits)))
