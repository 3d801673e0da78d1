-- The index of a key among rows by rising key, and a write or an insert at this index.
use Rattle.srcp_rules.proofs.Names
use Names.{◌≡◌, ℕ, zero, suc, ◌<◌, ◌≤◌, Bool, [], ◌∷◌, ◌++◌, length, take, drop, insert, slice_set, slice_index_or, Some, None, Result, Ok}
use Names.{Err, refl, sym, ap, subst, ◌∙◌, arith, take-append-drop, AllByRecursion, is_eq, ordering_reverse, Ordering, Less, Equal, Greater}
use Names.{Key, Row, Cursor, key_cmp, has_reached, key_tie, key_cmp_total, reached_below, State, IsRising, row_at, put_row, HasKeyAt}
use Names.{each_at, weaken, same_key, not_after}
use Rattle.std.specs.Prelude.{IfOk, IfErr}
use Rattle.std.proofs.lemmas.List.{set_split}
use Rattle.std.specs.List.Sorted.{IsSearchInRange, IsBinarySearchResult, IsNonDecreasingBy, IsPartitionedBy}
use Rattle.std.specs.Ordering.{ordering_index}
use Rattle.srcp_info.proofs.ClientLaws.{put_between, put_over}
use Rattle.srcp_rules.specs.KeyIndex.{IsGapAt}
use Rattle.srcp_rules.proofs.StateLaws.{row_key, row_at-first, row_at-later}
use Rattle.srcp_grammar.proofs.PlaceLaws.{front_each, back_each, Follows, partitioned, non_decreasing}
use Rattle.srcp_rules.proofs.PutLaws.{find_none, find_past}

abbrev Below : Row → Row → Type 0
Below a b = key_cmp a.shown.key b.shown.key ≡ Less

-- ---- searching

greatest : (r : Ordering) → ordering_index r ≤ 2
greatest r = grind arith

index_step : (key a b : Key) → key_cmp a b ≡ Less → (q : Ordering) → key_cmp b key ≡ q → ordering_index (key_cmp a key) ≤ ordering_index q
index_step key a b less Less e = rw (key_cmp_total.trans a b key less e) (omega arith)
index_step key a b less Equal e = rw (ap (key_cmp a) (sym (key_tie b key e)) ∙ less) (omega arith)
index_step key a b less Greater e = greatest (key_cmp a key)

module _ (state : State) (rising : IsRising state) (key : Key) where
  compared : IsNonDecreasingBy (λ row. ordering_index (key_cmp row.shown.key key)) state
  compared =
      non_decreasing Below (λ row. ordering_index (key_cmp row.shown.key key))
      (λ a b less. index_step key a.shown.key b.shown.key less (key_cmp b.shown.key key) refl) state rising

  -- what a binary search by the key answers
  pub searched : (r : Result ℕ ℕ) → IsSearchInRange r (length state) → IsBinarySearchResult (λ row. key_cmp row.shown.key key) state r
      → IfOk r (HasKeyAt state key) × IfErr r (IsGapAt state key)
  searched (Ok index) within equal =
      (record { within = within; here = λ d. key_tie (slice_index_or state index d).shown.key key (equal d) }, tt)
  searched (Err index) within parted = (
    tt,
    record {
      within = within;
      below = front_each (λ row. key_cmp row.shown.key key ≡ Less) state index within (parted compared).0;
      above =
          back_each (λ row. key_cmp key row.shown.key ≡ Less) state index
          (λ k d low high. key_cmp_total.antisymm key _ ∙ ap ordering_reverse ((parted compared).1 k d low high));
    },
  )

-- ---- looking up

-- the row at the index of a key is the key's
pub row_at-here : (state : State) → IsRising state → (key : Key) (index : ℕ) → HasKeyAt state key index → (d : Row)
    → row_at key state ≡ Some (slice_index_or state index d)
row_at-here [] rising key index at d = let h = at.within in absurd (omega (arith, h))
row_at-here (row ∷ state) rising key zero at d = subst (λ k. row_at k (row ∷ state) ≡ Some row) (at.here d) (row_at-first row state)
row_at-here (row ∷ state) rising key (suc index) at d =
    let within : suc index < length (row ∷ state) = at.within in
    row_at-later row state rising key (slice_index_or state index d)
    (row_at-here state rising.1 key index (record { within = omega (arith, within); here = at.here }) d)

-- a key that belongs between two rows has none
pub row_at-gap : (state : State) (key : Key) (index : ℕ) → IsGapAt state key index → row_at key state ≡ None
row_at-gap state key index gap =
    ap (row_at key) (sym (take-append-drop index state))
    ∙ find_past (λ row. same_key row.shown.key key) (take index state) (drop index state)
    (weaken (take index state) gap.below (λ row h. ap is_eq h))
    ∙ find_none (λ row. same_key row.shown.key key) (drop index state)
    (weaken (drop index state) gap.above (λ row h. ap is_eq (key_cmp_total.antisymm row.shown.key key ∙ ap ordering_reverse h)))

-- ---- writing

-- the row at a index, the rows before it and those after it
around : (state : State) → Follows Below state → (i : ℕ) → i < length state → (d : Row)
    → AllByRecursion (λ row. Below row (slice_index_or state i d)) (take i state)
    × AllByRecursion (Below (slice_index_or state i d)) (drop (suc i) state)
    × (state ≡ take i state ++ slice_index_or state i d ∷ drop (suc i) state)
around [] f i h d = absurd (omega (arith, h))
around (row ∷ state) f zero h d = (tt, f.0, refl)
around (row ∷ state) f (suc i) h d =
    let rest = around state f.1 i (omega (arith, h)) d in
    ((each_at (Below row) state f.0 i d (omega (arith, h)), rest.0), rest.1, ap (λ rows. row ∷ rows) rest.2)

-- a write at the index of a key
pub set-put_row : (state : State) → IsRising state → (row : Row) (index : ℕ) → HasKeyAt state row.shown.key index
    → slice_set state index row ≡ put_row row state
set-put_row state rising row index at =
    let parts = around state rising index at.within row in
    let old = slice_index_or state index row in
    let same : old.shown.key ≡ row.shown.key = at.here row in
    set_split state index row at.within
    ∙ sym (put_over row_key row (take index state) old (drop (suc index) state) same
    (weaken (take index state) parts.0 (λ other h. ap (key_cmp other.shown.key) (sym same) ∙ h))
    (weaken (drop (suc index) state) parts.1 (λ other h. ap (λ k. key_cmp k other.shown.key) (sym same) ∙ h)))
    ∙ ap (put_row row) (sym parts.2)

-- an insert where a key belongs
pub insert-put_row : (state : State) (row : Row) (index : ℕ) → IsGapAt state row.shown.key index
    → insert state index row ≡ put_row row state
insert-put_row state row index gap =
    sym (put_between row_key row (take index state) (drop index state) gap.below gap.above)
    ∙ ap (put_row row) (take-append-drop index state)

-- ---- the row after a cursor

module _ (cursor : Cursor) where
  abbrev pub passed : Row → Bool
  passed row = has_reached cursor row.shown.key

  pub passed_partitioned : (state : State) → IsRising state → IsPartitionedBy passed state
  passed_partitioned state rising =
      partitioned Below passed (λ a b less e. reached_below cursor a.shown.key b.shown.key (not_after a.shown.key b.shown.key less) e) state
      rising
