use Rattle.std.proofs.Common.{arith, length-append}
use Rattle.srcp_info.proofs.LineLaws.{length_number}
use Rattle.srcp_drive.proofs.orders.begun.Goals as goal

pub put_number-requires : goal.put_number-requires
put_number-requires c = grind (arith, length-append, length_number 3 c.args.bus)

pub put_bytes-requires-2 : goal.put_bytes-requires-2
put_bytes-requires-2 c = grind (arith, length-append, length_number 3 c.args.bus)

pub put_number-requires-2 : goal.put_number-requires-2
put_number-requires-2 c = grind (arith, length-append, length_number 3 c.args.bus, length_number 10 c.args.number)

pub returns-clause-few : goal.returns-clause-few
returns-clause-few c = grind (arith, length-append, length_number 3 c.args.bus, length_number 10 c.args.number)
