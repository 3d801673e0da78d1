-- Laws of the rows with both indexes: a set row.
use Rattle.srcp_rules.proofs.Names
use Names.{◌≡◌, ℕ, ◌+◌, true, false, not, cond, is_some, IsSome, IsTrue, List, Option, Some, None, refl, sym, ap, subst, ◌∙◌, arith}
use Names.{true≢false, Row, can_go, all_filter, all_put, rising_put, Bus, State, IsRowOf, row_at, put_row, holder_of, found_holds}
use Rattle.srcp_rules.proofs.KeyLaws.{same_key}
use Rattle.srcp_rules.proofs.StateLaws.{row_key, row_at_key}
use Rattle.srcp_index.specs.declared.indexes.Indexes.{Indexes}
use Rattle.srcp_index.specs.Pairs.{IndexModel}
use Rattle.srcp_index.specs.Indexed.{IsIndexed, HasPairs, HasReserved, IsRankedRow, due_of, may_rank, removable_rows}
use Rattle.srcp_index.specs.Indexed.{Edit, pair_edited, row_edited}
use Rattle.srcp_index.specs.Ordered.{insert_by, remove_by}
use Rattle.srcp_index.proofs.RowSums.{but_at, removable_count, sum-put_row, sum-there}
use Rattle.srcp_index.proofs.PairsOfRows.{with_pairs, without_pairs}
use Rattle.srcp_index.proofs.RankLaws.{few, ranked_goes, ranked_row}

-- ---- a row that is set

-- a row with no rank leaves the indexes as they are
unedited : (edit : Edit) (row : Row) (both : Indexes) → due_of row ≡ None → holder_of row ≡ None → row_edited edit row both ≡ both
unedited edit row both a b = rw (a, b) refl

module _ (buses : List Bus) (state : State) (both : Indexes) (count : ℕ) (h : IsIndexed state both count) (old row : Row)
    (there : row_at row.shown.key state ≡ Some old) (of : IsRowOf buses row) where
  same : old.shown.key ≡ row.shown.key
  same = row_at_key row.shown.key state old there

  old_there : row_at old.shown.key state ≡ Some old
  old_there = ap (λ k. row_at k state) same ∙ there

  abbrev left : State
  left = but_at row.shown.key state

  pairs_left : (rank : Row → Option ℕ) (index : IndexModel) → HasPairs rank state index count
      → HasPairs rank left (pair_edited remove_by (rank old) old.shown.key index) count
  pairs_left rank index has =
      subst (λ k. HasPairs rank (but_at k state) (pair_edited remove_by (rank old) old.shown.key index) count) same
      (without_pairs rank old state index count h.rising old_there has)

  counts : removable_rows state ≡ removable_count row + removable_rows left
  counts = sum-there removable_count old state h.rising old_there
      ∙ (λ i. cond {A = ℕ} (can_go (same i).group) 1 0 + removable_rows (but_at (same i) state))

  -- memory is reserved for the pair of the row, since its device comes and goes
  pub reserved_for : (rank : Row → Option ℕ) (index : IndexModel)
      → ((row : Row) → IsRankedRow row → IsSome (rank row) → IsTrue (may_rank row.shown.key.group)) → HasPairs rank state index count
      → IsSome (rank row) → HasReserved (pair_edited remove_by (rank old) old.shown.key index)
  reserved_for rank index ranks has s =
      let rows_left = all_filter IsRankedRow (λ other. not (same_key other.shown.key row.shown.key)) state h.rows in
      let a = few rank ranks left (pair_edited remove_by (rank old) old.shown.key index) count rows_left (pairs_left rank index has) in
      let b : removable_count row ≡ 1 = rw (ranked_goes row.shown.key.group (ranks row (ranked_row buses row of) s)) refl in
      omega (arith, h.counted, has.reserved, counts)

  pub set_indexed : IsIndexed (put_row row state) (row_edited insert_by row (row_edited remove_by old both)) count
  set_indexed = record {
    rising = rising_put row_key row state h.rising;
    due = with_pairs due_of row state _ count (pairs_left due_of both.moments h.due);
    held = with_pairs holder_of row state _ count (pairs_left holder_of both.sessions h.held);
    since = h.since;
    counted = omega (arith, sum-put_row removable_count row state, counts, h.counted);
    rows = all_put row_key IsRankedRow row state (ranked_row buses row of) h.rows;
  }

  -- and so does one that may have none
  no_rank : (o : Option ℕ) → (IsSome o → may_rank row.shown.key.group ≡ true) → may_rank row.shown.key.group ≡ false → o ≡ None
  no_rank o may never = grind arith

  passed_indexed : may_rank row.shown.key.group ≡ false → IsIndexed (put_row row state) both count
  passed_indexed never =
      let was = found_holds IsRankedRow (λ other. same_key other.shown.key row.shown.key) state h.rows old there in
      let before : may_rank old.shown.key.group ≡ may_rank row.shown.key.group = ap (λ k. may_rank k.group) same in
      let a = no_rank (due_of row) (ranked_row buses row of).due never in
      let b = no_rank (holder_of row) (ranked_row buses row of).held never in
      let c = no_rank (due_of old) (λ s. sym before ∙ was.due s) never in
      let d = no_rank (holder_of old) (λ s. sym before ∙ was.held s) never in
      subst (λ all. IsIndexed (put_row row state) all count)
      (ap (row_edited insert_by row) (unedited remove_by old both c d) ∙ unedited insert_by row both a b) set_indexed

pub passed_by : (buses : List Bus) (state : State) (both : Indexes) (count : ℕ) → IsIndexed state both count → (row : Row)
    → is_some (row_at row.shown.key state) ≡ true → IsRowOf buses row → may_rank row.shown.key.group ≡ false
    → IsIndexed (put_row row state) both count
passed_by buses state both count h row there of never = by (row_at row.shown.key state) refl there
  where
    by : (o : Option Row) → row_at row.shown.key state ≡ o → is_some o ≡ true → IsIndexed (put_row row state) both count
    by None e s = absurd (true≢false (sym s))
    by (Some old) e s = passed_indexed buses state both count h old row e of never
