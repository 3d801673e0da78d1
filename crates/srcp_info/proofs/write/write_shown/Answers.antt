use Rattle.std.proofs.Common.{arith, length-append, append_assoc}
use Rattle.srcp_info.proofs.LineLaws.{room_row, info_more, length-line-le}
use Rattle.srcp_info.specs.declared.change.Change.TheVariants.{Put}
use Rattle.srcp_info.proofs.write.write_shown.Goals as goal

pub put_info-requires : goal.put_info-requires
put_info-requires g c = grind (arith, room_row c.args.shown.now c.requires.well_formed)

pub put_value-requires : goal.put_value-requires
put_value-requires g c = grind (arith, length-append, room_row c.args.shown.now c.requires.well_formed)

pub push-requires : goal.push-requires
push-requires g c = grind (arith, length-append, room_row c.args.shown.now c.requires.well_formed)

pub returns-clause-line : goal.returns-clause-line
returns-clause-line g c = grind (arith, info_more, append_assoc)

pub returns-clause-most : goal.returns-clause-most
returns-clause-most g c = rw (returns-clause-line g c) (length-line-le (Put c.args.shown.now) c.requires.well_formed)
