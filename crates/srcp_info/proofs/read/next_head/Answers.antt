use Rattle.std.proofs.Common.{◌≡◌, ◌∷◌, ◌++◌, refl, arith}
use Rattle.std.specs.Fmt.{decimal}
use lib.Chars.{codes}
use Rattle.srcp_text.specs.Stamp.{stamp}
use Rattle.srcp_info.specs.Line.{group_words}
use Rattle.srcp_info.specs.Read.{kind_code}
use Rattle.srcp_info.proofs.ScanLaws.{stamp_no_space, kind_no_space}
use Rattle.srcp_info.proofs.read.next_head.Goals as goal

pub returns : goal.returns
returns c = λ moment kind bus group more small byte is.
    let one =
    c.next_word.ensures (stamp moment) (kind_code kind ∷ codes "INFO" ∷ decimal bus ∷ (group_words group ++ more))
    (stamp_no_space moment small) is in
    let two =
    c.next_word-2.ensures (kind_code kind) (codes "INFO" ∷ decimal bus ∷ (group_words group ++ more)) (kind_no_space kind) one.1 in
    let three = c.next_word-3.ensures (codes "INFO") (decimal bus ∷ (group_words group ++ more)) refl two.1 in
    let four = c.next_number-bus.ensures bus (group_words group ++ more) (omega arith) three.1 in
    let five = c.next_group-group.ensures group more four.1 in
    let six = c.moment_of.ensures moment small one.0 in
    let seven = c.kind_of.ensures kind two.0 in
    let eight : c.unwrap_or.result ≡ bus = grind arith in
    (λ i. record { moment = six i; kind = seven i; bus = eight i; group = five.0 i }, five.1)
