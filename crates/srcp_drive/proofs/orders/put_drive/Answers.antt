use Rattle.std.proofs.Common.{arith, length-append}
use Rattle.srcp_info.proofs.LineLaws.{length_number}
use Rattle.srcp_drive.proofs.orders.put_drive.Goals as goal

pub put_number-requires : goal.put_number-requires
put_number-requires c = grind (arith, length-append, length_number 3 c.in-Step.step)

pub returns-in-Step-clause-few : goal.returns-in-Step-clause-few
returns-in-Step-clause-few c = grind (arith, length-append, length_number 3 c.in-Step.step)
