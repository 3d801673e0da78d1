use Rattle.std.proofs.Common.{arith, length-append}
use Rattle.srcp_info.proofs.LineLaws.{room_gone}
use Rattle.srcp_info.proofs.write.write_gone.Goals as goal

pub put_info-requires : goal.put_info-requires
put_info-requires g c = grind (arith, length-append, room_gone c.args.stamp c.args.device.now c.requires.well_formed)

pub put_numeral-requires : goal.put_numeral-requires
put_numeral-requires g c = grind (arith, length-append, room_gone c.args.stamp c.args.device.now c.requires.well_formed)

pub push-requires : goal.push-requires
push-requires g c = grind (arith, length-append, room_gone c.args.stamp c.args.device.now c.requires.well_formed)

pub returns-clause-most : goal.returns-clause-most
returns-clause-most g c = grind (arith, length-append, room_gone c.args.stamp c.args.device.now c.requires.well_formed)
