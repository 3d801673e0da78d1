use Rattle.std.proofs.Common.{[], ◌∷◌, arith}
use Rattle.srcp_info.specs.Line.{mode_word}
use Rattle.srcp_info.proofs.read.read_session.Goals as goal

pub returns : goal.returns
returns c = λ address mode small is.
    grind (arith, c.next_number-address.ensures address (mode_word mode ∷ []) small is, c.mode_named-mode.ensures mode)
