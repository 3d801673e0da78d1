use Rattle.std.proofs.Common.{[], ◌∷◌}
use Rattle.std.specs.Fmt.{decimal}
use Rattle.srcp_info.proofs.read.read_lock.Goals as goal

pub returns : goal.returns
returns c = λ address seconds session small1 small2 small3 is.
    let one = c.next_number-address.ensures address (decimal seconds ∷ decimal session ∷ []) small1 is in
    let two = c.next_number-seconds.ensures seconds (decimal session ∷ []) small2 one.1 in
    let three = c.next_number-session.ensures session [] small3 two.1 in
    cc
