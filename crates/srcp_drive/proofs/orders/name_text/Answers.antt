use Rattle.std.proofs.Common.{arith, length-append}
use Rattle.srcp_info.proofs.LineLaws.{length_number}
use Rattle.srcp_drive.proofs.orders.name_text.Goals as goal

pub put_number-requires : goal.put_number-requires
put_number-requires c = grind (arith, length-append, length_number 10 c.args.cab)

pub put_bytes-requires-2 : goal.put_bytes-requires-2
put_bytes-requires-2 c = grind (arith, length-append, length_number 10 c.args.cab)

pub returns-clause-few : goal.returns-clause-few
returns-clause-few c = grind (arith, length-append, length_number 10 c.args.cab)
