use Rattle.std.proofs.Common.{◌∷◌, map}
use Rattle.std.specs.Fmt.{decimal}
use Rattle.srcp_info.specs.Line.{bit_word}
use Rattle.srcp_info.proofs.read.read_gl_state.Goals as goal

pub returns : goal.returns
returns c = λ address mode v vmax functions small1 small2 small3 small4 few is.
    let one = c.next_number-address.ensures address (decimal mode ∷ decimal v ∷ decimal vmax ∷ map bit_word functions) small1 is in
    let two = c.next_number-mode.ensures mode (decimal v ∷ decimal vmax ∷ map bit_word functions) small2 one.1 in
    let three = c.next_number-v.ensures v (decimal vmax ∷ map bit_word functions) small3 two.1 in
    let four = c.next_number-vmax.ensures vmax (map bit_word functions) small4 three.1 in
    let five = c.functions_of.ensures functions few four.1 in
    cc
