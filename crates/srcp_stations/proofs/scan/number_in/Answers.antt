use Rattle.std.proofs.Common.{arith}
use Rattle.srcp_text.proofs.NumberLaws.{number_of-decimal}
use Rattle.srcp_stations.proofs.scan.number_in.Goals as goal

pub returns : goal.returns
returns c = λ number small is. let read = number_of-decimal 4294967295 number (omega arith) (omega arith) in grind arith
