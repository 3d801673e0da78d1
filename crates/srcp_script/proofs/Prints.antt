-- What is printed, one line after another.
use Rattle.std.proofs.Common.{◌≡◌, ℕ, suc, ◌+◌, ◌-◌, ◌<◌, false, eqb, List, [], ◌∷◌, ◌++◌, length, get_or, refl, sym, ◌∙◌, arith, inl, inr}
use Rattle.std.proofs.Common.{length-append}
use Rattle.std.specs.Prelude.{◌≤◌, ◌^◌, decimal, not}
use Rattle.std.specs.List.{list_any}
use Rattle.std.proofs.lemmas.Bool.{cases_Bool, or_parts}
use Rattle.std.proofs.lemmas.Fmt.{length-decimal-le}
use Rattle.std.proofs.Math.Dec.{eqb-suc-zero}
use Rattle.srcp_text.specs.Marks.{rest, is_lf}
use Rattle.srcp_text.specs.Words.{is_empty}
use Rattle.srcp_core.specs.declared.record.Finish.{Finish}
use Rattle.srcp_core.specs.declared.record.Finish.TheVariants as finish
use Rattle.srcp_script.specs.Output.{finish_word}

-- if no LF is in the bytes, the last is none
no_lf_last : (byte : ℕ) (bytes : List ℕ) → list_any is_lf (byte ∷ bytes) ≡ false → is_lf (get_or (byte ∷ bytes) (length bytes) 0) ≡ false
no_lf_last byte [] none = (or_parts (is_lf byte) false none).0
no_lf_last byte (next ∷ bytes) none = no_lf_last next bytes (or_parts (is_lf byte) (list_any is_lf (next ∷ bytes)) none).1

-- nothing is left exactly if the last byte is an LF
pub rest-last : (byte : ℕ) (bytes : List ℕ) → is_empty (rest (byte ∷ bytes)) ≡ is_lf (get_or (byte ∷ bytes) (length bytes) 0)
rest-last byte [] =
    elim (cases_Bool (is_lf byte)) [
      | inl t ↦ rw t refl
      | inr f ↦ rw f refl
    ]
rest-last byte (next ∷ bytes) =
    elim (cases_Bool (list_any is_lf (byte ∷ next ∷ bytes))) [
      | inl t ↦ rw t (rest-last next bytes)
      | inr f ↦ rw f (eqb-suc-zero (suc (length bytes)) ∙ sym (no_lf_last byte (next ∷ bytes) f))
    ]

pub rest-cut : (bytes : List ℕ) → 0 < length bytes → not (eqb (get_or bytes (length bytes - 1) 0) 10) ≡ not (is_empty (rest bytes))
rest-cut [] some = absurd (omega arith)
rest-cut (byte ∷ bytes) some = rw (rest-last byte bytes, sub_one_length byte bytes) refl
  where
    sub_one_length : (byte : ℕ) (bytes : List ℕ) → length (byte ∷ bytes) - 1 ≡ length bytes
    sub_one_length byte bytes = omega arith

-- a number of 64 bits has at most 20 bytes, and the word of a connection at most 7
pub number_most : (n : ℕ) → n < 2 ^ 64 → length (decimal n) ≤ 20
number_most n small = length-decimal-le 20 n (omega arith) (omega arith) small

pub finish_most : (finish : Finish) → length (finish_word finish) ≤ 7
finish_most finish.Live = omega arith
finish_most finish.Closing = omega arith
finish_most finish.Overrun = omega arith
finish_most finish.Shut = omega arith

-- what stands behind some bytes makes them longer by its length
pub length_behind : (before text after : List ℕ) (most : ℕ) → after ≡ before ++ text → length text ≤ most
    → length after ≤ length before + most
length_behind before text after most is short = rw (is, length-append before text) (omega (arith, short))
