use Rattle.std.proofs.Common.{arith, length-append, ◌-◌}
use Rattle.srcp_stations.proofs.NumberLaws.{length_number}
use Rattle.srcp_stations.proofs.message.put_bits.Goals as goal

pub put_number-requires : goal.put_number-requires
put_number-requires c = grind (arith, length-append, length_number (4294967296 - c.args.bits))

pub returns-else-bits-lt-SIGN_BIT-clause-few : goal.returns-else-bits-lt-SIGN_BIT-clause-few
returns-else-bits-lt-SIGN_BIT-clause-few c = grind (arith, length-append, length_number (4294967296 - c.args.bits))
