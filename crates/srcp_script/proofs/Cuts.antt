-- The parts of a text that is cut at its first space.
use Rattle.std.proofs.Common.{◌≡◌, ℕ, zero, suc, ◌++◌, subst, ◌+◌, ◌-◌, ◌<◌, ◌≤◌, Bool, false, eqb, List, [], ◌∷◌, length, take, take_all}
use Rattle.std.proofs.Common.{drop, refl, sym, ap, ◌∙◌, arith, Some, None, inl, inr}
use Rattle.std.specs.List.{slice_split, list_any, position, position_or_len}
use Rattle.std.proofs.lemmas.Bool.{cases_Bool, cases_lt, lt-ltb, le-ltb, eqb-true}
use Rattle.std.proofs.lemmas.List.Splits.{slice_split_first, length-slice_split, join_with_byte-slice_split}
use Rattle.std.proofs.lemmas.Slice.{between_to_end}
use Rattle.std.specs.Prelude.{Ok, Err}
use Rattle.std.specs.List.{join_with_byte}
use Rattle.srcp_core.specs.declared.event.Event.TheVariants.{Bytes}
use Rattle.srcp_script.specs.Script.{◌>>=◌, parts_behind, open_line, bytes_line, connection, or_fault, unescaped}
use Rattle.srcp_script.specs.declared.script.Cause.TheVariants.{Number, Escape}

module _ (cut : ℕ) where
  abbrev is_cut : ℕ → Bool
  is_cut byte = eqb byte cut

  split_none : (text : List ℕ) → length text ≤ position_or_len is_cut text → slice_split is_cut text ≡ text ∷ []
  split_none [] all = refl
  split_none (byte ∷ text) all =
      elim (cases_Bool (eqb byte cut)) [
        | inl t ↦ absurd (let h : length (byte ∷ text) ≤ 0 = rw t at all in omega arith)
        | inr f ↦ let h : length text ≤ position_or_len is_cut text = (let k = rw f at all in omega arith) in rw (f, split_none text h) refl
      ]

  -- no such byte stands before the first one
  clear_to : (text : List ℕ) (index : ℕ) → index ≡ position_or_len is_cut text → list_any is_cut (take index text) ≡ false
  clear_to [] index is = rw is refl
  clear_to (byte ∷ text) zero is = refl
  clear_to (byte ∷ text) (suc index) is =
      elim (cases_Bool (eqb byte cut)) [
        | inl t ↦ absurd (let h : suc index ≡ 0 = rw t at is in omega arith)
        | inr f ↦ let h : suc index ≡ 1 + position_or_len is_cut text = rw f at is in rw (f, clear_to text index (omega arith)) refl
      ]

  pub clear_none : (text : List ℕ) → position is_cut text ≡ None → list_any is_cut text ≡ false
  clear_none text none =
      elim (cases_lt (position_or_len is_cut text) (length text)) [
        | inl lt ↦ (let h = rw (lt-ltb (position_or_len is_cut text) (length text) lt) at none in cc)
        | inr ge ↦
            subst (λ (front : List ℕ). list_any is_cut front ≡ false) (take_all (position_or_len is_cut text) text ge)
            (clear_to text (position_or_len is_cut text) refl)
      ]

  index_of : (text : List ℕ) (index : ℕ) → position is_cut text ≡ Some index → (index ≡ position_or_len is_cut text) × (index < length text)
  index_of text index some =
      elim (cases_lt (position_or_len is_cut text) (length text)) [
        | inl lt ↦
            let h = rw (lt-ltb (position_or_len is_cut text) (length text) lt) at some in
            let same : index ≡ position_or_len is_cut text = cc in
            (same, omega arith)
        | inr ge ↦ (let h = rw (le-ltb (position_or_len is_cut text) (length text) ge) at some in cc)
      ]

  pub clear_some : (text : List ℕ) (index : ℕ) → position is_cut text ≡ Some index → list_any is_cut (take index text) ≡ false
  clear_some text index some = clear_to text index (index_of text index some).0

  -- the first one stands behind them
  whole_at : (text : List ℕ) (index : ℕ) → index ≡ position_or_len is_cut text → index < length text
      → text ≡ take index text ++ cut ∷ drop (index + 1) text
  whole_at [] index is within = absurd (omega arith)
  whole_at (byte ∷ text) zero is within =
      elim (cases_Bool (eqb byte cut)) [
        | inl t ↦ ap (λ b. b ∷ text) (eqb-true byte cut t)
        | inr f ↦ absurd (let h : 0 ≡ 1 + position_or_len is_cut text = rw f at is in omega arith)
      ]
  whole_at (byte ∷ text) (suc index) is within =
      elim (cases_Bool (eqb byte cut)) [
        | inl t ↦ absurd (let h : suc index ≡ 0 = rw t at is in omega arith)
        | inr f ↦
            let h : suc index ≡ 1 + position_or_len is_cut text = rw f at is in
            let next : suc index + 1 ≡ suc (index + 1) = omega arith in
            rw next (ap (λ rest. byte ∷ rest) (whole_at text index (omega arith) (omega arith)))
      ]

  pub whole_some : (text : List ℕ) (index : ℕ) → position is_cut text ≡ Some index
      → text ≡ take index text ++ cut ∷ take (length text - (index + 1)) (drop (index + 1) text)
  whole_some text index some =
      let at = index_of text index some in
      rw (between_to_end text (index + 1) (length text) (omega arith)) (whole_at text index at.0 at.1)

  pub cut_none : (text : List ℕ) → position is_cut text ≡ None → slice_split is_cut text ≡ text ∷ []
  cut_none text none =
      elim (cases_lt (position_or_len is_cut text) (length text)) [
        | inl lt ↦ (let h = rw (lt-ltb (position_or_len is_cut text) (length text) lt) at none in cc)
        | inr ge ↦ split_none text ge
      ]

  pub cut_some : (text : List ℕ) (index : ℕ) → position is_cut text ≡ Some index
      → slice_split is_cut text ≡ take index text ∷ slice_split is_cut (take (length text - (index + 1)) (drop (index + 1) text))
  cut_some text index some =
      elim (cases_lt (position_or_len is_cut text) (length text)) [
        | inl lt ↦
            let h = rw (lt-ltb (position_or_len is_cut text) (length text) lt) at some in
            let same : position_or_len is_cut text ≡ index = cc in
            rw (← same, between_to_end text (position_or_len is_cut text + 1) (length text) (omega arith))
            (slice_split_first is_cut text 0 lt)
        | inr ge ↦ (let h = rw (le-ltb (position_or_len is_cut text) (length text) ge) at some in cc)
      ]

-- a text has a part, be it empty
pub some_part : (text : List ℕ) → 0 < length (parts_behind 32 (Some text))
some_part text = omega (arith, length-slice_split (λ byte. eqb byte 32) text)

-- ---- lines by their parts

open_parts : (parts : List (List ℕ)) → 0 < length parts → open_line parts ≡ Err Number
open_parts [] some = absurd (omega arith)
open_parts (part ∷ parts) some = refl

pub open_more : (text : List ℕ) → open_line (parts_behind 32 (Some text)) ≡ Err Number
open_more text = open_parts (parts_behind 32 (Some text)) (some_part text)

-- the parts of the text of a piece are the text again
bytes_parts : (conn text : List ℕ) (parts : List (List ℕ)) → parts_behind 32 (Some text) ≡ parts
    → bytes_line (conn ∷ parts) ≡ (connection conn >>= (λ n. or_fault Escape (unescaped text) >>= (λ piece. Ok (Bytes n piece))))
bytes_parts conn text [] is =
    absurd (let some = some_part text in let none : length (parts_behind 32 (Some text)) ≡ 0 = ap length is in omega arith)
bytes_parts conn text (part ∷ parts) is =
    let same : join_with_byte 32 (part ∷ parts) ≡ text = ap (join_with_byte 32) (sym is) ∙ join_with_byte-slice_split 32 text in
    rw same refl

pub bytes_text : (conn text : List ℕ)
    → bytes_line (conn ∷ parts_behind 32 (Some text))
    ≡ (connection conn >>= (λ n. or_fault Escape (unescaped text) >>= (λ piece. Ok (Bytes n piece))))
bytes_text conn text = bytes_parts conn text (parts_behind 32 (Some text)) refl
