use Rattle.std.proofs.Common.{◌∙◌, sym, ◌+◌, ◌<◌, take, refl, arith}
use Rattle.std.specs.Str.Parse.{digits_value}
use Rattle.srcp_text.proofs.NumberLaws.{number_of_other, number_of_large, digits_value_next, all_ascii_digits_more}
use Rattle.srcp_text.proofs.number.number_within.Goals.{then-number-max-via-then-number-max}
use Rattle.srcp_text.proofs.number.number_within.Goals.{then-number-max-via-else-number-max+then-digit-max}
use Rattle.srcp_text.proofs.number.number_within.Goals as goal

pub returns-then-not-is_ascii_digit : goal.returns-then-not-is_ascii_digit
returns-then-not-is_ascii_digit c =
    sym (number_of_other c.args.max c.args.word.now c.loop-byte.byte-index c.loop-byte-test.true
    (sym c.is_ascii_digit.ensures.value ∙ c.if-not-is_ascii_digit.true))

pub returns-then-number-max : goal.returns-then-number-max
returns-then-number-max c =
    let word = c.args.word.now in
    let i = c.loop-byte.byte-index in
    let digit = sym c.is_ascii_digit.ensures.value ∙ c.if-not-is_ascii_digit.false in
    let next = digits_value_next word i c.loop-byte-test.true digit in
    let large : c.args.max < digits_value 10 (take (i + 1) word) =
    elim c.then-number-max.branch [
      | then-number-max-via-then-number-max w ↦ omega (arith, next, c.loop-byte.invariant.value, w.if-number-max.true)
      | then-number-max-via-else-number-max+then-digit-max w ↦
          omega (
            arith,
            next,
            c.loop-byte.invariant.value,
            w.if-number-max.false,
            w.if-digit-max.true,
            c.from-digit.ensures,
          )
    ] in
    sym (number_of_large c.args.max word (i + 1) large)

pub loop-byte-preserved : goal.loop-byte-preserved
loop-byte-preserved c =
    let word = c.args.word.now in
    let i = c.loop-byte.byte-index in
    let digit = sym c.is_ascii_digit.ensures.value ∙ c.if-not-is_ascii_digit.false in
    record {
      digits = rw (all_ascii_digits_more word i c.loop-byte-test.true, c.loop-byte.invariant.digits, digit) refl;
      value =
          omega (
            arith,
            digits_value_next word i c.loop-byte-test.true digit,
            c.loop-byte.invariant.value,
            c.from-digit.ensures,
          );
      most = omega (arith, c.if-number-max.false, c.if-digit-max.false);
    }
