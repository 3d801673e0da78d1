-- Rows beyond a cursor.
use Rattle.srcp_rules.proofs.Names
use Names.{cases_Bool, inl, inr, same_Some, ◌≡◌, ◌<◌, Bool, true, false, not, ◌&&◌, cond, List, [], ◌∷◌, length, filter, find, Some, None}
use Names.{refl, sym, ap, subst, ◌∙◌, arith, Less, Key, Row, Cursor, key_cmp, has_reached, filter_every, reached_below, after_from_less}
use Names.{State, IsRising, first_beyond, row_after, found_holds, weaken, not_after}
use Names.cursor
use Rattle.srcp_info.proofs.ClientLaws.{after_not_itself}
use Rattle.srcp_rules.specs.declared.filter.RowFilter.{RowFilter}
use Rattle.srcp_rules.specs.Filter.{passes}

-- the rows beyond the cursor
abbrev pub beyond : Cursor → State → State
beyond at state = filter (λ row. not (has_reached at row.shown.key)) state

module _ {X : Type 0} (p q : X → Bool) where
  -- what passes both tests is found among what passes the first
  pub find-both : (xs : List X) → find (λ x. p x && q x) xs ≡ find q (filter p xs)
  find-both [] = refl
  find-both (x ∷ xs) = grind (arith, find-both xs)

-- ---- the next row

still_beyond : (at : Cursor) (low high : Key) → key_cmp low high ≡ Less → has_reached at low ≡ false → has_reached at high ≡ false
still_beyond at low high less e = grind (arith, reached_below at low high (not_after low high less))

abbrev Next : Cursor → Row → State → Type 0
Next at row state = beyond at state ≡ row ∷ beyond (cursor.After row.shown.key) state

next_here : (at : Cursor) (row : Row) (state : State) → IsRising (row ∷ state) → has_reached at row.shown.key ≡ false
    → Next at row (row ∷ state)
next_here at row state rising e =
    rw (e, after_not_itself row.shown.key)
    (ap (λ rows. row ∷ rows)
    (filter_every (λ other. not (has_reached at other.shown.key)) state
    (weaken state rising.0 (λ other less. ap not (still_beyond at row.shown.key other.shown.key less e)))
    ∙ sym (filter_every (λ other. not (has_reached (cursor.After row.shown.key) other.shown.key)) state
    (weaken state rising.0 (λ other less. ap (λ b. not (not b)) (after_from_less other.shown.key row.shown.key less))))))

next_later : (at : Cursor) (row first : Row) (state : State) → key_cmp first.shown.key row.shown.key ≡ Less
    → has_reached at first.shown.key ≡ true → Next at row state → Next at row (first ∷ state)
next_later at row first state less e next = rw (e, not_after first.shown.key row.shown.key less) next

-- the next row beyond a cursor is the first that is beyond, and the others are beyond that row
pub beyond-next : (at : Cursor) (row : Row) (state : State) → IsRising state → row_after at state ≡ Some row → Next at row state
beyond-next at row [] rising e = let bad : None ≡ Some row = e in cc
beyond-next at row (first ∷ state) rising e = elim (cases_Bool (has_reached at first.shown.key)) [
  | inl r ↦ (
      let found : row_after at state ≡ Some row = rw r at e in
      next_later at row first state
      (found_holds (λ later. key_cmp first.shown.key later.shown.key ≡ Less) (λ other. not (has_reached at other.shown.key)) state
      rising.0 row found) r (beyond-next at row state rising.1 found))
  | inr r ↦ subst (λ other. Next at other (first ∷ state)) (same_Some first row (rw r at e)) (next_here at first state rising r)
]

-- if there is none, none is beyond
pub beyond-none : (at : Cursor) (state : State) → row_after at state ≡ None → beyond at state ≡ []
beyond-none at [] e = refl
beyond-none at (first ∷ state) e = grind (arith, beyond-none at state)

-- past the next row fewer are beyond
pub fewer_beyond : (at : Cursor) (state : State) → IsRising state → (row : Row) → row_after at state ≡ Some row
    → length (beyond (cursor.After row.shown.key) state) < length (beyond at state)
fewer_beyond at state rising row next = let e = ap length (beyond-next at row state rising next) in omega (arith, e)

-- ---- seeking from row to row

module _ (row_filter : RowFilter) (at : Cursor) (state : State) where
  seek : first_beyond at (passes row_filter) state ≡ find (passes row_filter) (beyond at state)
  seek = find-both (λ row. not (has_reached at row.shown.key)) (passes row_filter) state

  pub passed_none : row_after at state ≡ None → first_beyond at (passes row_filter) state ≡ None
  passed_none e = seek ∙ ap (find (passes row_filter)) (beyond-none at state e)

  module _ (rising : IsRising state) (row : Row) (next : row_after at state ≡ Some row) where
    first : first_beyond at (passes row_filter) state
        ≡ cond (passes row_filter row) (Some row) (find (passes row_filter) (beyond (cursor.After row.shown.key) state))
    first = seek ∙ ap (find (passes row_filter)) (beyond-next at row state rising next)

    pub passed_here : passes row_filter row ≡ true → first_beyond at (passes row_filter) state ≡ Some row
    passed_here e = first ∙ rw e

    pub passed_later : passes row_filter row ≡ false
        → first_beyond (cursor.After row.shown.key) (passes row_filter) state ≡ first_beyond at (passes row_filter) state
    passed_later e =
        find-both (λ other. not (has_reached (cursor.After row.shown.key) other.shown.key)) (passes row_filter) state
        ∙ sym (first ∙ rw e)
