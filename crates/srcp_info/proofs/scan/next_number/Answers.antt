use Rattle.std.proofs.Common.{arith}
use Rattle.std.specs.Fmt.{decimal}
use Rattle.srcp_text.proofs.NumberLaws.{number_of-decimal}
use Rattle.srcp_info.proofs.ScanLaws.{decimal_no_space}
use Rattle.srcp_info.proofs.scan.next_number.Goals as goal

pub returns : goal.returns
returns c = λ number others small is.
    let first = c.next_word.ensures (decimal number) others (decimal_no_space number (omega arith)) is in
    let read = number_of-decimal 4294967295 number (omega arith) (omega arith) in
    grind arith
