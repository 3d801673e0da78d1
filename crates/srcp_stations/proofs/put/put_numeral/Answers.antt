use Rattle.std.proofs.Common.{arith, length-append}
use Rattle.srcp_stations.proofs.NumberLaws.{length_number}
use Rattle.srcp_stations.proofs.put.put_numeral.Goals as goal

pub put_number-requires : goal.put_number-requires
put_number-requires c = grind (arith, length-append, length_number c.args.number)

pub returns-clause-few : goal.returns-clause-few
returns-clause-few c = grind (arith, length-append, length_number c.args.number)
