use Rattle.std.proofs.Common.{◌-◌, arith}
use Rattle.srcp_stations.proofs.ReadLaws.{bits_negative}
use Rattle.srcp_stations.proofs.read.bits_in.Goals as goal

pub returns : goal.returns
returns c = λ bits small is.
    let digits = bits_negative bits c.args.word.now small is (omega (arith, c.if-word-ne45.false)) in
    let read = c.number_in-2.ensures (4294967296 - bits) (omega (arith, digits.0)) digits.1 in
    omega (arith, read, digits.0, c.wrapping_neg.ensures, c.wrapping_neg.type_inv)
