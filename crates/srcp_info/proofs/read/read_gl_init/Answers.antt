use Rattle.std.proofs.Common.{[], ◌∷◌}
use Rattle.std.specs.Fmt.{decimal}
use Rattle.srcp_info.specs.Line.{letter_word}
use Rattle.srcp_info.proofs.read.read_gl_init.Goals as goal

pub returns : goal.returns
returns c = λ address letter version steps functions small1 small2 small3 small4 is.
    let one =
    c.next_number-address.ensures address (letter_word letter ∷ decimal version ∷ decimal steps ∷ decimal functions ∷ []) small1 is in
    let two = c.next_letter-letter.ensures letter (decimal version ∷ decimal steps ∷ decimal functions ∷ []) one.1 in
    let three = c.next_number-version.ensures version (decimal steps ∷ decimal functions ∷ []) small2 two.1 in
    let four = c.next_number-steps.ensures steps (decimal functions ∷ []) small3 three.1 in
    let five = c.next_number-functions.ensures functions [] small4 four.1 in
    cc
