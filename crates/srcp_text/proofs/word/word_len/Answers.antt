use Rattle.std.proofs.Common.{◌∙◌, sym, arith}
use Rattle.std.proofs.lemmas.List.Sums.{position_or_len_is}
use Rattle.srcp_text.specs.Words.{is_blank}
use Rattle.srcp_text.proofs.word.word_len.Goals as goal

pub returns-else-not-is_blank_byte : goal.returns-else-not-is_blank_byte
returns-else-not-is_blank_byte c =
    sym (position_or_len_is is_blank c.args.text.now c.loop-len.len 0 (omega arith) c.loop-len.invariant.filled
    (λ _. sym c.is_blank_byte.ensures ∙ c.if-not-is_blank_byte.false))

pub returns-after-loop-len : goal.returns-after-loop-len
returns-after-loop-len c =
    sym (position_or_len_is is_blank c.args.text.now c.loop-len.len 0 (omega arith) c.loop-len.invariant.filled
    (λ inside. absurd (omega (arith, inside, c.loop-len-test.false))))
