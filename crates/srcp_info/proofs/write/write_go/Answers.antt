use Rattle.std.proofs.Common.{arith, length-append}
use Rattle.srcp_text.proofs.StampLaws.{length-stamp-le}
use Rattle.srcp_info.proofs.LineLaws.{length_number}
use Rattle.srcp_info.proofs.write.write_go.Goals as goal

pub put_stamp-requires : goal.put_stamp-requires
put_stamp-requires g c = grind (arith, length-stamp-le c.args.stamp)

pub put_word-requires : goal.put_word-requires
put_word-requires g c = grind (arith, length-append, length-stamp-le c.args.stamp)

pub put_numeral-requires : goal.put_numeral-requires
put_numeral-requires g c = grind (arith, length-append, length-stamp-le c.args.stamp, length_number 10 c.args.id)

pub push-requires : goal.push-requires
push-requires g c = grind (arith, length-append, length-stamp-le c.args.stamp, length_number 10 c.args.id)

pub returns-clause-most : goal.returns-clause-most
returns-clause-most g c = grind (arith, length-append, length-stamp-le c.args.stamp, length_number 10 c.args.id)
