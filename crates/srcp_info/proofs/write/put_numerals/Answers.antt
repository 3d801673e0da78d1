use Rattle.std.proofs.Common.{arith, length-append}
use Rattle.std.specs.Fmt.{decimal}
use Rattle.srcp_info.proofs.LineLaws.{room_next}
use Rattle.srcp_info.proofs.write.put_numerals.Goals as goal

pub put_numeral-requires : goal.put_numeral-requires
put_numeral-requires g c =
    let room =
    room_next decimal c.args.numbers.now c.loop-number.number-index 0 _ c.loop-number.buffer.items g.row.N c.loop-number-test.true
    c.loop-number.invariant
    (omega (arith, c.requires, length-append c.args.buffer.now.items)) in
    omega (arith, room)
