-- The number that an argument gives, read as the definition reads it.
use Rattle.std.proofs.Common.{◌≡◌, ℕ, ◌≤◌, true, not, ◌&&◌, List, [], ◌∷◌, length, Option, Some, None, Result, Ok, Err, refl, arith, inl}
use Rattle.std.proofs.Common.{inr}
use Rattle.std.specs.Prelude.{nat_le, option_and_then}
use Rattle.std.specs.Str.{all_ascii_digits}
use Rattle.std.specs.Str.Parse.{AllDigits, IsNumeral, ParsesUnsigned, digits_value, without_leading_plus}
use Rattle.std.proofs.lemmas.Bool.{cases_Bool, and_parts, le-leb, leb-true, ne_eqb}
use Rattle.std.proofs.lemmas.Str.{digit_value_digit}
use Rattle.std.proofs.lemmas.Str.Parse.{digit_from_value, tells_all_ascii_digits}
use Rattle.clap.specs.Words.{ReadsOne}
use Rattle.srcp_text.specs.Words.{is_empty, is_numeral}
use Rattle.srcp_info.specs.Limits.{greatest_u64}
use Rattle.srcp_tool.specs.Arguments.{turns_of}

digits_pass : (ds : List ℕ) → AllDigits 10 ds → all_ascii_digits ds ≡ true
digits_pass [] h = refl
digits_pass (c ∷ cs) h = tells_all_ascii_digits.more c cs (digit_from_value c h.0) (digits_pass cs h.1)

pass_digits : (ds : List ℕ) → all_ascii_digits ds ≡ true → AllDigits 10 ds
pass_digits [] h = tt
pass_digits (c ∷ cs) h =
    let parts = tells_all_ascii_digits.parts c cs h in
    let value = digit_value_digit c parts.0 in
    (omega (arith, value, parts.0.1), pass_digits cs parts.1)

-- a text of digits, as the toolchain says it and as a word is judged
is_numeral-IsNumeral : (ds : List ℕ) → IsNumeral 10 ds → is_numeral ds ≡ true
is_numeral-IsNumeral ds h = rw (ne_eqb (length ds) 0 (omega arith), digits_pass ds h.1) refl

IsNumeral-is_numeral : (ds : List ℕ) → is_numeral ds ≡ true → IsNumeral 10 ds
IsNumeral-is_numeral [] h = cc
IsNumeral-is_numeral (c ∷ cs) h = (omega arith, pass_digits (c ∷ cs) (and_parts (not (is_empty (c ∷ cs))) (all_ascii_digits (c ∷ cs)) h).1)

-- ---- the number of turns

-- what reading a text may give says that the text is read as a number of 64 bits
module _ {E : Type 0} (gives : List ℕ → Result ℕ E → Type 0)
    (reads : (text : List ℕ) (r : Result ℕ E) → gives text r → ParsesUnsigned 64 10 text r) where
  turns_of-read : (text : List ℕ) (r : Option ℕ) → ReadsOne gives text r → r ≡ turns_of text
  turns_of-read text (Some turns) h =
      let ds : List ℕ = without_leading_plus text in
      let read : ParsesUnsigned {E = E} 64 10 text (Ok turns) = reads text (Ok turns) h in
      let small : digits_value 10 ds ≤ greatest_u64 = omega (arith, read.0.1) in
      rw (read.1, is_numeral-IsNumeral ds read.0.0, le-leb (digits_value 10 ds) greatest_u64 small) refl
  turns_of-read text None h =
      let ds : List ℕ = without_leading_plus text in
      let most : ℕ = greatest_u64 in
      elim (cases_Bool (is_numeral ds && nat_le (digits_value 10 ds) most)) [
        | inl t ↦
            let parts = and_parts (is_numeral ds) (nat_le (digits_value 10 ds) most) t in
            let small : digits_value 10 ds ≤ most = leb-true (digits_value 10 ds) most parts.1 in
            absurd (reads text (Err h.0) h.1 (IsNumeral-is_numeral ds parts.0, omega arith))
        | inr f ↦ rw f refl
      ]

  -- the number that an argument gives, if it is there and can be read
  pub turns_of-given : (given : Option (List ℕ)) (r : Option ℕ) → (given ≡ None → r ≡ None)
      → ((text : List ℕ) → given ≡ Some text → ReadsOne gives text r) → r ≡ option_and_then turns_of given
  turns_of-given None r none value = none refl
  turns_of-given (Some text) r none value = turns_of-read text r (value text refl)
