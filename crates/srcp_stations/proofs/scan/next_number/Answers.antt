use Rattle.std.proofs.Common.{arith}
use Rattle.std.specs.Fmt.{decimal}
use Rattle.srcp_stations.proofs.NumberLaws.{decimal_no_space}
use Rattle.srcp_stations.proofs.scan.next_number.Goals as goal

pub returns : goal.returns
returns c = λ number others small is.
    let first = c.next_word.ensures (decimal number) others (decimal_no_space number (omega arith)) is in
    (c.number_in.ensures number small first.0, first.1)
