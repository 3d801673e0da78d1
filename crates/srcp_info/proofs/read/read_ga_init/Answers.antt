use Rattle.std.proofs.Common.{[], ◌∷◌, arith}
use Rattle.srcp_info.specs.Line.{letter_word}
use Rattle.srcp_info.proofs.read.read_ga_init.Goals as goal

pub returns : goal.returns
returns c = λ address letter small is.
    grind (arith, c.next_number-address.ensures address (letter_word letter ∷ []) small is, c.next_letter-letter.ensures letter [])
