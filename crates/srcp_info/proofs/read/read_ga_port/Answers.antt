use Rattle.std.proofs.Common.{◌-◌, [], ◌∷◌, arith}
use Rattle.std.specs.Fmt.{decimal}
use Rattle.srcp_info.specs.Line.{bit_word}
use Rattle.srcp_info.proofs.read.read_ga_port.Goals as goal

pub returns : goal.returns
returns c = λ address port on small least most is.
    let one = c.next_number-address.ensures address (decimal (port - 1) ∷ bit_word on ∷ []) small is in
    let two = c.next_number-port.ensures (port - 1) (bit_word on ∷ []) (omega arith) one.1 in
    let three = c.next_bit-on.ensures on [] two.1 in
    grind (arith, one.0, two.0, three.0)
