-- Laws of an index with the pairs of rows: a row is put, looked at or taken out, and the first pair sought is found.
use Rattle.srcp_rules.proofs.Names
use Names.{◌≡◌, ℕ, ◌≤◌, Bool, true, false, ◌==◌, IsTrue, IsSome, [], ◌∷◌, ◌++◌, length, find, Option}
use Names.{Some, option_map, AllByRecursion, sum_by, option_map_or, Less, refl, sym, ap, ◌∙◌, arith}
use Names.{sum_by-cons, sum_by-append, Cursor, Key, Row, key_cmp}
use Names.{State, IsRising, row_at, put_row, holder_of, is_due, is_held_by, first_beyond}
use Rattle.std.specs.Prelude.{option_and_then}
use Rattle.srcp_rules.proofs.StateLaws.{row_at-first, row_at-later}
use Rattle.srcp_grammar.proofs.PlaceLaws.{Follows}
use Rattle.srcp_index.specs.declared.index.Pair.{Pair}
use Rattle.srcp_index.specs.Pairs.{IndexModel, before, is_due_beyond}
use Rattle.srcp_index.specs.Ordered.{insert_by, remove_by, order_by}
use Rattle.srcp_index.specs.Indexed.{HasPairs, pair_edited, at_rank, due_of, pair_of, pairs_of, is_removable}
use Rattle.srcp_index.specs.Indexed.{removable_rows}
use Rattle.srcp_index.proofs.Pairs.{before_weak, is_order, alike_after}
use Rattle.srcp_index.proofs.Ordered.{find-order_by, ranked_is, order_by-permutes, remove_by-insert_by}
use Rattle.srcp_index.proofs.RowSums.{but_at, removable_count, put_there, sum-put_row}
use Rattle.std.proofs.lemmas.List.Sorted.{sum_by-IsPermutation}

module _ (rank : Row → Option ℕ) where
  -- what the pair of a row adds to a sum
  abbrev weight : (Pair → ℕ) → Row → ℕ
  weight f row = sum_by f (pair_of rank row)

  sum-pairs : (f : Pair → ℕ) (state : State) → sum_by f (pairs_of rank state) ≡ sum_by (weight f) state
  sum-pairs f [] = refl
  sum-pairs f (row ∷ state) =
      omega (arith, sum_by-append f (pair_of rank row) (pairs_of rank state), sum-pairs f state, sum_by-cons (weight f) row state)

  -- the pair of a row and those of the others are those of the rows with it
  put_pairs : (since : ℕ) (row : Row) (state : State)
      → order_by (before since) (pair_of rank row ++ pairs_of rank (but_at row.shown.key state))
      ≡ order_by (before since) (pairs_of rank (put_row row state))
  put_pairs since row state =
      let lt = before since in
      let others = but_at row.shown.key state in
      let all = pair_of rank row ++ pairs_of rank others in
      is_order since (order_by lt all) (pairs_of rank (put_row row state)) (ranked_is lt (before_weak since) all) (λ f.
      omega (
        arith,
        sum_by-IsPermutation f all (order_by lt all) (order_by-permutes lt all),
        sum_by-append f (pair_of rank row) (pairs_of rank others),
        sum-pairs f others,
        sum-pairs f (put_row row state),
        sum-put_row (weight f) row state,
      ))

  pub with_pairs : (row : Row) (state : State) (index : IndexModel) (count : ℕ) → HasPairs rank (but_at row.shown.key state) index count
      → HasPairs rank (put_row row state) (pair_edited insert_by (rank row) row.shown.key index) count
  with_pairs row state index count h =
      let whole = put_pairs index.since row state in record { pairs = grind (arith, whole, h.pairs); reserved = h.reserved }

  pub without_pairs : (row : Row) (state : State) (index : IndexModel) (count : ℕ) → IsRising state → row_at row.shown.key state ≡ Some row
      → HasPairs rank state index count
      → HasPairs rank (but_at row.shown.key state) (pair_edited remove_by (rank row) row.shown.key index) count
  without_pairs row state index count rising there h =
      let lt = before index.since in
      let whole =
      put_pairs index.since row state ∙ ap (λ rows. order_by lt (pairs_of rank rows)) (put_there row state rising there) ∙ sym h.pairs in
      record { pairs = grind (arith, whole, remove_by-insert_by lt (before_weak index.since)); reserved = h.reserved }

  -- no more rows have a pair than come and go
  pub fewer_pairs : (state : State) → AllByRecursion (λ row. IsSome (rank row) → IsTrue (is_removable row)) state
      → length (pairs_of rank state) ≤ removable_rows state
  fewer_pairs [] goes = omega arith
  fewer_pairs (row ∷ state) goes = grind (arith, goes.0, fewer_pairs state goes.1, sum_by-cons removable_count row state)

  -- ---- looking for the first that passes a test

  above : (k : Key) (state : State) → AllByRecursion (λ row. key_cmp k row.shown.key ≡ Less) state
      → AllByRecursion (λ y. key_cmp k y.key ≡ Less) (pairs_of rank state)
  above k [] h = tt
  above k (row ∷ state) h = grind (arith, above k state h.1)

  rising_pairs : (state : State) → IsRising state → Follows (λ x y. key_cmp x.key y.key ≡ Less) (pairs_of rank state)
  rising_pairs [] rising = tt
  rising_pairs (row ∷ state) rising = grind (arith, above row.shown.key state rising.0, rising_pairs state rising.1)

  module _ (t : Pair → Bool) (p : Row → Bool) (alike : (row : Row) → option_map_or (λ r. t (at_rank row r)) (rank row) false ≡ p row) where
    found_key : (state : State) → option_map (λ (pair : Pair). pair.key) (find t (pairs_of rank state))
        ≡ option_map (λ (row : Row). row.shown.key) (find p state)
    found_key [] = refl
    found_key (row ∷ state) = grind (arith, alike row, found_key state)

    -- a row that is found is at its key
    found_there : (state : State) → IsRising state → (row : Row) → find p state ≡ Some row → row_at row.shown.key state ≡ Some row
    found_there [] rising row e = cc
    found_there (first ∷ state) rising row e =
        grind (arith, row_at-first first state, row_at-later first state rising row.shown.key row, found_there state rising.1 row)

    -- in an order in which, of two that pass, the one of lower key comes first
    pub found_ranked : (state : State) (index : IndexModel) (o : Option Pair) → IsRising state
        → ((x y : Pair) → key_cmp x.key y.key ≡ Less → t x ≡ true → t y ≡ true → before index.since y x ≡ false)
        → index.pairs ≡ order_by (before index.since) (pairs_of rank state) → o ≡ find t index.pairs
        → option_and_then (λ (pair : Pair). row_at pair.key state) o ≡ find p state
    found_ranked state index o rising by_key pairs found =
        let first = find-order_by (before index.since) t _ by_key (pairs_of rank state) (rising_pairs state rising) in
        grind (arith, first, found_key state, found_there state rising)

-- ---- what an index answers

-- the first due row beyond a cursor
pub due_row : (state : State) (index : IndexModel) (cursor : Cursor) (o : Option Pair) → IsRising state → index.pairs
    ≡ order_by (before index.since) (pairs_of due_of state) → o ≡ find (is_due_beyond index.since cursor) index.pairs
    → option_and_then (λ (pair : Pair). row_at pair.key state) o ≡ first_beyond cursor (is_due index.since) state
due_row state index cursor o rising = found_ranked due_of (is_due_beyond index.since cursor) _ (λ row. grind arith) state index o rising
    (λ x y less e f. alike_after index.since x y less (grind arith))

-- the first lock of a session
pub held_row : (state : State) (index : IndexModel) (session : ℕ) (o : Option Pair) → IsRising state → index.pairs
    ≡ order_by (before index.since) (pairs_of holder_of state) → o ≡ find (λ pair. pair.rank == session) index.pairs
    → option_and_then (λ (pair : Pair). row_at pair.key state) o ≡ find (is_held_by session) state
held_row state index session o rising = found_ranked holder_of (λ pair. pair.rank == session) (is_held_by session) (λ row. refl) state
    index o rising (λ x y less e f. alike_after index.since x y less (grind arith))
