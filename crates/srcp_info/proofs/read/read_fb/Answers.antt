use Rattle.std.proofs.Common.{[], ◌∷◌, arith}
use Rattle.srcp_info.specs.Line.{bit_word}
use Rattle.srcp_info.proofs.read.read_fb.Goals as goal

pub returns : goal.returns
returns c = λ address on small is.
    grind (arith, c.next_number-address.ensures address (bit_word on ∷ []) small is, c.next_bit-on.ensures on [])
