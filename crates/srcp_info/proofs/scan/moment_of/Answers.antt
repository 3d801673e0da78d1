use Rattle.std.proofs.Common.{ℕ, ◌∙◌, ◌%◌, ap, arith}
use Rattle.std.specs.Prelude.{◌==◌}
use Rattle.std.specs.List.{before_first, after_first}
use Rattle.srcp_text.proofs.StampLaws.{three_digits_again}
use Rattle.srcp_info.proofs.ScanLaws.{cut_stamp, seconds_again}
use Rattle.srcp_info.proofs.scan.moment_of.Goals as goal

pub returns : goal.returns
returns c = λ moment small is.
    let cut = cut_stamp moment small in
    let front = c.cut.ensures.before ∙ ap (before_first (λ (byte : ℕ). byte == 46)) is ∙ cut.0 in
    let back = c.cut.ensures.after ∙ ap (after_first (λ (byte : ℕ). byte == 46)) is ∙ cut.1 in
    let three = three_digits_again (moment % 1000) (omega arith) in
    grind (arith, front, back, three, seconds_again moment small)
