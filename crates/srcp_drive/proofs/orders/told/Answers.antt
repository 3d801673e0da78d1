use Rattle.std.proofs.Common.{arith, length-append}
use Rattle.srcp_stations.proofs.TellLaws.{commands_are_short}
use Rattle.srcp_drive.proofs.orders.told.Goals as goal

pub put_bytes-requires-2 : goal.put_bytes-requires-2
put_bytes-requires-2 c = grind (arith, length-append, commands_are_short c.args.tell c.requires)

pub returns-clause-few : goal.returns-clause-few
returns-clause-few c = grind (arith, length-append, commands_are_short c.args.tell c.requires)
