-- Laws of the reading of a reader of lines.
use Rattle.std.proofs.lemmas.Grind.{common_steps}
use Rattle.std.specs.Prelude.{◌≡◌, ℕ, ◌+◌, ◌-◌, ◌<◌, ◌≤◌, false, List, [], ◌∷◌, ◌++◌, length, take, drop, get_or, IfSome, position}
use Rattle.std.specs.Prelude.{slice_range, Option, Some, None}
use Rattle.std.specs.List.{list_any, position_or_len}
use Rattle.std.proofs.Common.{refl, ap, sym, ◌∙◌, arith, inl, inr, suc, add-one, take-suc, take-add}
use Rattle.std.proofs.lemmas.Bool.{cases_Bool, cases_lt, lt-ltb, le-ltb, eqb-true, or_from}
use Rattle.std.proofs.lemmas.Option.{none-some}
use Rattle.std.proofs.lemmas.List.{append_assoc, append-nil, length-append, length-drop, take_all, take-append-drop, drop-append-le}
use Rattle.std.proofs.lemmas.List.Folds.{list_any-append}
use Rattle.std.proofs.lemmas.List.Sums.{passes_at_first}
use Rattle.srcp_text.specs.Marks.{Mark, is_lf, marks, mark_of, rest, without_cr}
use Rattle.srcp_text.specs.Reading.{Reading, known, extended, after_lf, StandsAt}
use Rattle.srcp_text.specs.Feeding.{new_marks, fed_at, feed_of, consumed, stop_of, next_stop}
use Rattle.srcp_text.specs.declared.reader.Fed.{Fed}
use Rattle.srcp_text.specs.declared.reader.Fed.TheVariants.{More}
use Rattle.srcp_text.proofs.MarkLaws.{marks-append, rest-append, marks_line, marks_none, rest_line, rest_none, rest_within}
use Rattle.srcp_text.proofs.ScanLaws.{position_some}

-- a CR at the end is dropped
pub without_cr_cr : (front : List ℕ) → without_cr (front ++ 13 ∷ []) ≡ front
without_cr_cr [] = refl
without_cr_cr (x ∷ []) = refl
without_cr_cr (x ∷ y ∷ front) = ap (λ ys. x ∷ ys) (without_cr_cr (y ∷ front))

-- and another byte is not
pub without_cr_other : (front : List ℕ) (x : ℕ) → (x ≡ 13 → ⊥) → without_cr (front ++ x ∷ []) ≡ front ++ x ∷ []
without_cr_other [] x h = grind arith
without_cr_other (y ∷ []) x h = grind (arith, without_cr_other [] x h)
without_cr_other (y ∷ z ∷ front) x h = grind (arith, without_cr_other (z ∷ front) x h)

-- what is known of a line is what is known of its front, with what follows
pub extended-known : (begun more : List ℕ) → extended (known begun) more ≡ known (begun ++ more)
extended-known begun more = grind (arith, length-append, lt-ltb, le-ltb)

-- the mark of a line is what the reader finds at its end
pub new_marks-fed_at : (begun : List ℕ) (stop : ℕ)
    → new_marks (fed_at (known begun) stop) (after_lf (known begun)).line ≡ mark_of begun ∷ []
new_marks-fed_at begun stop = grind arith

-- and then nothing has begun
pub after_lf-begun : (whole : Option (List ℕ)) → (after_lf whole).begun ≡ Some []
after_lf-begun whole = grind arith

-- before the first LF there is none
none_before : (xs : List ℕ) → list_any is_lf (take (position_or_len is_lf xs) xs) ≡ false
none_before [] = refl
none_before (x ∷ xs) =
    elim (cases_Bool (is_lf x)) [
      | inl t ↦
          let e : position_or_len is_lf (x ∷ xs) ≡ 0 = rw t refl in
          ap (λ n. list_any is_lf (take n (x ∷ xs))) e
      | inr f ↦
          let e : position_or_len is_lf (x ∷ xs) ≡ suc (position_or_len is_lf xs) = rw f (omega arith) in
          ap (λ n. list_any is_lf (take n (x ∷ xs))) e
          ∙ or_from (is_lf x) (list_any is_lf (take (position_or_len is_lf xs) xs)) f (none_before xs)
    ]

-- if no LF is found there is none
pub lf_absent : (xs : List ℕ) → position is_lf xs ≡ None → list_any is_lf xs ≡ false
lf_absent xs e =
    elim (cases_lt (position_or_len is_lf xs) (length xs)) [
      | inl inside ↦ absurd (none-some (position_or_len is_lf xs) (sym (rw (lt-ltb (position_or_len is_lf xs) (length xs) inside) at e)))
      | inr outside ↦ sym (ap (list_any is_lf) (take_all (position_or_len is_lf xs) xs outside)) ∙ none_before xs
    ]

-- if one is found, the bytes up to it are a line and its LF
pub lf_found : (xs : List ℕ) (len : ℕ) → position is_lf xs ≡ Some len
    → (list_any is_lf (take len xs) ≡ false) × (take (len + 1) xs ≡ take len xs ++ 10 ∷ [])
lf_found xs len e =
    let found = position_some is_lf xs len e in
    let inside : position_or_len is_lf xs < length xs = omega (arith, found.0, found.1) in
    let lf = eqb-true (get_or xs (position_or_len is_lf xs) 0) 10 (passes_at_first is_lf xs 0 inside) in (
      sym (ap (λ n. list_any is_lf (take n xs)) found.0) ∙ none_before xs,
      sym (ap (λ n. take (n + 1) xs) found.0) ∙ ap (λ k. take k xs) (add-one (position_or_len is_lf xs))
          ∙ take-suc xs (position_or_len is_lf xs) 0 inside ∙ ap (λ x. take (position_or_len is_lf xs) xs ++ x ∷ []) lf
          ∙ ap (λ n. take n xs ++ 10 ∷ []) found.0,
    )

-- a line that goes on has none either
begun_none : (fed more : List ℕ) → list_any is_lf more ≡ false → list_any is_lf (rest fed ++ more) ≡ false
begun_none fed more none = grind (arith, list_any-append, or_from, rest_within)

-- bytes without LF end no line
pub marks-more : (fed more : List ℕ) → list_any is_lf more ≡ false → marks (fed ++ more) ≡ marks fed
marks-more fed more none = grind (arith, begun_none, marks-append, marks_none, append-nil)

-- and the line goes on
pub rest-more : (fed more : List ℕ) → list_any is_lf more ≡ false → rest (fed ++ more) ≡ rest fed ++ more
rest-more fed more none = grind (arith, begun_none, rest-append, rest_none)

-- bytes that end in their only LF end the begun line
pub marks-ended : (fed more : List ℕ) → list_any is_lf more ≡ false
    → marks (fed ++ (more ++ 10 ∷ [])) ≡ marks fed ++ mark_of (rest fed ++ more) ∷ []
marks-ended fed more none = grind (arith, begun_none, marks-append, append_assoc, marks_line)

-- and no line has begun then
pub rest-ended : (fed more : List ℕ) → list_any is_lf more ≡ false → rest (fed ++ (more ++ 10 ∷ [])) ≡ []
rest-ended fed more none =
    let all = begun_none fed more none in
    rest-append fed (more ++ 10 ∷ []) ∙ ap rest (sym (append_assoc (rest fed) more (10 ∷ []))) ∙ rest_line (rest fed ++ more) [] all

-- a feed takes the bytes up to the first LF
pub stop_of-feed_of : (reading : Reading) (piece : List ℕ) (start : ℕ) → stop_of (feed_of reading piece start).0 ≡ next_stop piece start
stop_of-feed_of reading piece start = grind arith

-- and stops further on in the piece
pub within-next_stop : (piece : List ℕ) (start : ℕ) → IfSome (next_stop piece start) (λ stop. (start < stop) × (stop ≤ length piece))
within-next_stop piece start = grind (arith, position_some, length-drop)

-- if it stops after an LF, that is the part of the line and its LF
consumed-fed_at : (piece : List ℕ) (start len : ℕ) (whole : Option (List ℕ)) → position is_lf (drop start piece) ≡ Some len
    → consumed piece start (fed_at whole (start + len + 1)) ≡ take len (drop start piece) ++ 10 ∷ []
consumed-fed_at piece start len None e =
    let n : start + len + 1 - start ≡ len + 1 = omega arith in
    ap (λ k. take k (drop start piece)) n ∙ (lf_found (drop start piece) len e).1
consumed-fed_at piece start len (Some bytes) e =
    let n : start + len + 1 - start ≡ len + 1 = omega arith in
    ap (λ k. take k (drop start piece)) n ∙ (lf_found (drop start piece) len e).1

-- a feed finds the next mark, or none if no LF is left
pub marks-feed_of : (fed : List ℕ) (reading : Reading) (piece : List ℕ) (start : ℕ) → StandsAt fed reading
    → marks (fed ++ consumed piece start (feed_of reading piece start).0)
    ≡ marks fed ++ new_marks (feed_of reading piece start).0 (feed_of reading piece start).1.line
marks-feed_of fed reading piece start stands =
    grind (arith, common_steps, marks-more, lf_absent, append-nil, extended-known, consumed-fed_at, marks-ended, lf_found, new_marks-fed_at)

-- and then the reader stands at what has been fed
pub stands-feed_of : (fed : List ℕ) (reading : Reading) (piece : List ℕ) (start : ℕ) → StandsAt fed reading
    → StandsAt (fed ++ consumed piece start (feed_of reading piece start).0) (feed_of reading piece start).1
stands-feed_of fed reading piece start stands =
    grind (arith, common_steps, extended-known, rest-more, lf_absent, after_lf-begun, consumed-fed_at, rest-ended, lf_found)

-- the same of what a feed answered and left
pub marks-fed : (fed : List ℕ) (old new : Reading) (piece : List ℕ) (start : ℕ) (result : Fed) → (result, new) ≡ feed_of old piece start
    → StandsAt fed old → marks (fed ++ consumed piece start result) ≡ marks fed ++ new_marks result new.line
marks-fed fed old new piece start result e stands =
    ap (λ r. marks (fed ++ consumed piece start r.0)) e ∙ marks-feed_of fed old piece start stands
    ∙ sym (ap (λ r. marks fed ++ new_marks r.0 r.1.line) e)

pub stands-fed : (fed : List ℕ) (old new : Reading) (piece : List ℕ) (start : ℕ) (result : Fed) → (result, new) ≡ feed_of old piece start
    → StandsAt fed old → StandsAt (fed ++ consumed piece start result) new
stands-fed fed old new piece start result e stands =
    ap (λ r. r.1.begun) e ∙ stands-feed_of fed old piece start stands ∙ sym (ap (λ r. known (rest (fed ++ consumed piece start r.0))) e)

-- a feed of what is left, if that has no LF
pub feed_of-more : (old new : Reading) (piece left : List ℕ) (start : ℕ) → left ≡ drop start piece → None ≡ position is_lf left
    → new ≡ record { begun = extended old.begun left; line = [] } → (More, new) ≡ feed_of old piece start
feed_of-more old new piece left start from none after = grind arith

-- and if its first LF is so far on
pub feed_of-line : (old mid new : Reading) (piece left : List ℕ) (start len : ℕ) (result : Fed) → left ≡ drop start piece
    → Some len ≡ position is_lf left → mid.begun ≡ extended old.begun (take len left) → result ≡ fed_at mid.begun (start + len + 1)
    → new ≡ after_lf mid.begun → (result, new) ≡ feed_of old piece start
feed_of-line old mid new piece left start len result from found whole answer after = grind arith

-- what was fed before a piece, with the piece up to a place and from there to a stop
up_to_stop : (fed piece : List ℕ) (start stop : ℕ) → start ≤ stop
    → (fed ++ take start piece) ++ slice_range piece start stop ≡ fed ++ take stop piece
up_to_stop fed piece start stop le =
    let n : start + (stop - start) ≡ stop = omega arith in
    append_assoc fed (take start piece) (slice_range piece start stop)
    ∙ ap (λ ys. fed ++ ys) (sym (take-add start (stop - start) piece) ∙ ap (λ k. take k piece) n)

-- and from there to its end
up_to_end : (fed piece : List ℕ) (start : ℕ) → (fed ++ take start piece) ++ drop start piece ≡ fed ++ piece
up_to_end fed piece start = grind (arith, append_assoc, take-append-drop)

-- a step of a loop that feeds a piece: the reader stood at the piece up to a place, and now stands at the piece up to the stop
pub fed_to_stop : (fed piece : List ℕ) (start stop : ℕ) (ms : List Mark) (old new : Reading) → start ≤ stop
    → ((fed : List ℕ) → StandsAt fed old → marks (fed ++ slice_range piece start stop) ≡ marks fed ++ ms)
    → ((fed : List ℕ) → StandsAt fed old → StandsAt (fed ++ slice_range piece start stop) new)
    → StandsAt (fed ++ take start piece) old
    → (marks (fed ++ take stop piece) ≡ marks (fed ++ take start piece) ++ ms) × StandsAt (fed ++ take stop piece) new
fed_to_stop fed piece start stop ms old new le adds moves stands = grind (arith, up_to_stop)

-- and its end
pub fed_to_end : (fed piece : List ℕ) (start : ℕ) (ms : List Mark) (old new : Reading)
    → ((fed : List ℕ) → StandsAt fed old → marks (fed ++ drop start piece) ≡ marks fed ++ ms)
    → ((fed : List ℕ) → StandsAt fed old → StandsAt (fed ++ drop start piece) new)
    → StandsAt (fed ++ take start piece) old
    → (marks (fed ++ piece) ≡ marks (fed ++ take start piece) ++ ms) × StandsAt (fed ++ piece) new
fed_to_end fed piece start ms old new adds moves stands = grind (arith, up_to_end)

-- the marks past those of what was fed before, with more at their end
pub later_marks : (fed first : List ℕ) (all ms : List Mark) → all ≡ marks (fed ++ first) ++ ms
    → drop (length (marks fed)) all ≡ drop (length (marks fed)) (marks (fed ++ first)) ++ ms
later_marks fed first all ms e = grind (arith, marks-append, length-append, drop-append-le)
