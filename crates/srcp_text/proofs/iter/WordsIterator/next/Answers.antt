use Rattle.std.proofs.Common.{rules, ◌∙◌, sym, ◌-◌, length, take, drop, arith}
use Rattle.std.proofs.lemmas.Slice.{between_to_end}
use Rattle.srcp_text.specs.Words.{is_blank}
use Rattle.srcp_text.proofs.ScanLaws.{begins_filled, position_or_len-le, words_of-none, words_of-cut}
use Rattle.srcp_text.proofs.iter.WordsIterator.next.Goals as goal

pub returns-in_err-begun-clause-steps : goal.returns-in_err-begun-clause-steps
returns-in_err-begun-clause-steps c =
    let nothing = sym c.self.view_is ∙ words_of-none c.self.inside.rest.now (sym c.in_err-begun.ensures) in
    rw c.from_residual.ensures (nothing, nothing)

pub word_len-requires : goal.word_len-requires
word_len-requires c =
    let rest = c.self.inside.rest.now in
    let n = c.in_ok-begun.field-0 in
    let begins =
    begins_filled rest (take (length rest - n) (drop n rest)) n (sym c.in_ok-begun.ensures)
    (between_to_end rest n (length rest) (omega arith)) in
    record { some = begins.0; begun = begins.1 }

pub split_at-requires : goal.split_at-requires
split_at-requires c =
    let rest = c.self.inside.rest.now in
    let n = c.in_ok-begun.field-0 in
    rw c.word_len.ensures (position_or_len-le is_blank (take (length rest - n) (drop n rest)))

pub returns-clause-steps : goal.returns-clause-steps
returns-clause-steps c =
    let rest = c.self.inside.rest.now in
    let n = c.in_ok-begun.field-0 in
    let cut =
    words_of-cut rest (take (length rest - n) (drop n rest)) c.split_at.result.0.now c.split_at.result.1.now n c.word_len.result
    (sym c.in_ok-begun.ensures) (between_to_end rest n (length rest) (omega arith)) c.word_len.ensures c.split_at.ensures.front
    c.split_at.ensures.back in
    sym c.self.view_is ∙ cut

pub returns-clause-goes : goal.returns-clause-goes
returns-clause-goes c =
    let steps = returns-clause-steps c in
    rw steps (search rules)
