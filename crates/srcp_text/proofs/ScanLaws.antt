-- Laws of the words of a line, from the line's front on.
use Rattle.std.proofs.lemmas.Grind.{common_steps}
use Rattle.std.specs.Prelude.{◌≡◌, ℕ, ◌+◌, ◌<◌, ◌≤◌, Bool, false, not, List, [], ◌∷◌, length, take, drop, get_or, position}
use Rattle.std.specs.Prelude.{Option, Some, None}
use Rattle.std.specs.List.{list_any, filter, slice_split, position_or_len}
use Rattle.std.proofs.Common.{refl, ap, sym, ◌∙◌, arith, inl, inr, suc, drop-cons, add-one, length-drop}
use Rattle.std.proofs.lemmas.Bool.{cases_Bool, cases_lt, false_from_ne_true, lt-ltb, le-ltb, not-true}
use Rattle.std.proofs.lemmas.Option.{none-some}
use Rattle.std.proofs.lemmas.List.{take_all, drop_all, length-take-le}
use Rattle.std.proofs.lemmas.List.Splits.{slice_split_first}
use Rattle.std.proofs.lemmas.List.Sums.{passes_at_first, position_or_len_is, prefix_len-le-length}
use Rattle.memchr.specs.Find.{IsFirstByte, is_byte}
use Rattle.srcp_text.specs.Words.{is_blank, is_filled, is_empty, words_of}
use Rattle.srcp_text.proofs.NumberLaws.{filled}
use Rattle.srcp_text.proofs.WordLaws.{words_of_blank, words_of_word}

-- the first place that passes is within the list
pub position_or_len-le : (p : ℕ → Bool) (xs : List ℕ) → position_or_len p xs ≤ length xs
position_or_len-le p xs = grind (arith, prefix_len-le-length)

-- if it is found
pub position_some : (p : ℕ → Bool) (xs : List ℕ) (n : ℕ) → position p xs ≡ Some n → (position_or_len p xs ≡ n) × (n < length xs)
position_some p xs n e = grind arith

-- blanks in front have no words
pub words_of-drop_blanks : (xs : List ℕ) → words_of (drop (position_or_len is_filled xs) xs) ≡ words_of xs
words_of-drop_blanks [] = refl
words_of-drop_blanks (x ∷ xs) =
    elim (cases_Bool (is_blank x)) [
      | inl t ↦
          let e : position_or_len is_filled (x ∷ xs) ≡ suc (position_or_len is_filled xs) = rw t (omega arith) in
          ap (λ n. words_of (drop n (x ∷ xs))) e ∙ words_of-drop_blanks xs ∙ sym (words_of_blank x xs t)
      | inr f ↦
          let e : position_or_len is_filled (x ∷ xs) ≡ 0 = rw f refl in
          ap (λ n. words_of (drop n (x ∷ xs))) e
    ]

-- what begins with no blank has none at its first place
first_filled : (xs : List ℕ) → 0 < length xs → is_blank (get_or xs 0 0) ≡ false → 0 < position_or_len is_blank xs
first_filled xs some filled = grind (arith, common_steps, filled)

no_blank : (xs : List ℕ) → length xs ≤ position_or_len is_blank xs → list_any is_blank xs ≡ false
no_blank [] h = grind arith
no_blank (x ∷ xs) h = grind (arith, no_blank xs)

-- the bytes before the first blank are the first word
pub words_of-first : (xs : List ℕ) → 0 < position_or_len is_blank xs
    → words_of xs ≡ take (position_or_len is_blank xs) xs ∷ words_of (drop (position_or_len is_blank xs) xs)
words_of-first xs some =
    let n = position_or_len is_blank xs in
    let within = position_or_len-le is_blank xs in
    let long : length (take n xs) ≡ n = length-take-le n xs within in
    elim (cases_lt n (length xs)) [
      | inl inside ↦
          let word : is_empty (take n xs) ≡ false = filled (take n xs) (omega (arith, long, some)) in
          let blank = passes_at_first is_blank xs 0 inside in
          let parts = slice_split_first is_blank xs 0 inside in
          let front = filter_front (take n xs) (slice_split is_blank (drop (n + 1) xs)) word in
          ap (filter (λ part. not (is_empty part))) parts ∙ front
          ∙ ap (λ ws. take n xs ∷ ws) (sym (words_of_blank (get_or xs n 0) (drop (n + 1) xs) blank) ∙ ap words_of (sym (next n inside)))
      | inr outside ↦ rw (take_all n xs outside, drop_all n xs outside) (words_of_word xs (filled xs (omega arith), no_blank xs outside))
    ]
  where
    filter_front : (word : List ℕ) (ps : List (List ℕ)) → is_empty word ≡ false
        → filter (λ part. not (is_empty part)) (word ∷ ps) ≡ word ∷ filter (λ part. not (is_empty part)) ps
    filter_front word ps e = rw e refl

    next : (n : ℕ) → n < length xs → drop n xs ≡ get_or xs n 0 ∷ drop (n + 1) xs
    next n inside = drop-cons xs n 0 inside ∙ ap (λ k. get_or xs n 0 ∷ drop k xs) (sym (add-one n))

-- if no word begins there is none
pub words_of-none : (xs : List ℕ) → position is_filled xs ≡ None → words_of xs ≡ []
words_of-none xs e =
    elim (cases_lt (position_or_len is_filled xs) (length xs)) [
      | inl inside ↦
          absurd (none-some (position_or_len is_filled xs) (sym (rw (lt-ltb (position_or_len is_filled xs) (length xs) inside) at e)))
      | inr outside ↦ sym (words_of-drop_blanks xs) ∙ ap words_of (drop_all (position_or_len is_filled xs) xs outside)
    ]

-- what stands from there on begins with no blank
pub begins_filled : (xs begun : List ℕ) (n : ℕ) → position is_filled xs ≡ Some n → begun ≡ drop n xs
    → (0 < length begun) × (is_blank (get_or begun 0 0) ≡ false)
begins_filled xs begun n found from =
    let at = position_some is_filled xs n found in
    let inside : position_or_len is_filled xs < length xs = omega (arith, at.0, at.1) in
    let filled = not-true (is_blank (get_or xs (position_or_len is_filled xs) 0)) (passes_at_first is_filled xs 0 inside) in (
      omega (arith, ap length from, length-drop n xs, at.1),
      rw (from, drop-cons xs n 0 at.1) (sym (ap (λ k. is_blank (get_or xs k 0)) at.0) ∙ filled),
    )

-- and if one begins, it goes up to the next blank
pub words_of-cut : (xs begun word left : List ℕ) (n k : ℕ) → position is_filled xs ≡ Some n → begun ≡ drop n xs
    → k ≡ position_or_len is_blank begun → word ≡ take k begun → left ≡ drop k begun → words_of xs ≡ word ∷ words_of left
words_of-cut xs begun word left n k found from at front back =
    let starts = begins_filled xs begun n found from in
    let some : 0 < position_or_len is_blank begun = first_filled begun starts.0 starts.1 in
    sym (words_of-drop_blanks xs) ∙ ap (λ m. words_of (drop m xs)) (position_some is_filled xs n found).0 ∙ ap words_of (sym from)
    ∙ words_of-first begun some ∙ ap (λ m. take m begun ∷ words_of (drop m begun)) (sym at)
    ∙ ap (λ ys. ys ∷ words_of (drop k begun)) (sym front) ∙ ap (λ ys. word ∷ words_of ys) (sym back)

-- what a search for a byte finds is its first place
pub first_place : (a : ℕ) (xs : List ℕ) (found : Option ℕ) → IsFirstByte (is_byte a) xs found → found ≡ position (is_byte a) xs
first_place a xs None none =
    let at_no_place : (k : ℕ) → k < length xs → is_byte a (get_or xs k 0) ≡ false
    = λ k inside. false_from_ne_true (is_byte a (get_or xs k 0)) (none k (omega arith) inside) in
    let is = position_or_len_is (is_byte a) xs (length xs) 0 (omega arith) at_no_place (λ past. absurd (no_less (length xs) past)) in
    rw (is, le-ltb (length xs) (length xs) (omega arith)) refl
  where
    no_less : (n : ℕ) → n < n → ⊥
    no_less n h = omega (arith, h)
first_place a xs (Some n) found =
    let at_no_place : (k : ℕ) → k < n → is_byte a (get_or xs k 0) ≡ false
    = λ k earlier. false_from_ne_true (is_byte a (get_or xs k 0)) (found.0.before k (omega arith) earlier) in
    let inside : n < length xs = found.0.high in
    let is = position_or_len_is (is_byte a) xs n 0 (omega (arith, inside)) at_no_place (λ _. found.1) in
    rw (is, lt-ltb n (length xs) inside) refl
