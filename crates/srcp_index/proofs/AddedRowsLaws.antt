-- Laws of the rows with both indexes: added rows.
use Rattle.srcp_rules.proofs.Names
use Names.{◌≡◌, ℕ, ◌+◌, ◌≤◌, Bool, false, not, find, filter, is_some, List, [], ◌∷◌, Option, None, AllByRecursion, Less, refl}
use Names.{ap, subst, ◌∙◌, arith, sum_by-cons, Key, Device, Row, key_cmp, all_put, rising_put, Bus, row_count, key_at}
use Names.{State, IsRising, IsRowOf, row_at, put_row, holder_of, AreNewRowsOf, put_rows, weaken}
use Rattle.srcp_rules.proofs.KeyLaws.{same_key}
use Rattle.srcp_rules.proofs.StateLaws.{row_key, row_at-put_other}
use Rattle.srcp_rules.proofs.NewDeviceLaws.{ports_from, ports_rise}
use Rattle.srcp_index.specs.declared.indexes.Indexes.{Indexes}
use Rattle.srcp_index.specs.Indexed.{IsIndexed, IsRankedRow, due_of, removable_rows, row_edited, with_rows}
use Rattle.srcp_index.specs.Ordered.{insert_by}
use Rattle.srcp_index.proofs.RowSums.{but_at, removable_count, sum-put_row}
use Rattle.srcp_index.proofs.PairsOfRows.{with_pairs}
use Rattle.srcp_index.proofs.RankLaws.{with_reserved, ranked_row}

-- ---- rows that are added

none_left_out : (p : Row → Bool) (state : State) → find p state ≡ None → filter (λ row. not (p row)) state ≡ state
none_left_out p [] e = refl
none_left_out p (row ∷ state) e = grind (arith, none_left_out p state)

pub but_at_none : (key : Key) (state : State) → row_at key state ≡ None → but_at key state ≡ state
but_at_none key state e = none_left_out (λ row. same_key row.shown.key key) state e

no_row : (o : Option Row) → is_some o ≡ false → o ≡ None
no_row o e = grind arith

abbrev pub IsFresh : State → Row → Type 0
IsFresh state row = row_at row.shown.key state ≡ None

still_fresh : (row : Row) (state : State) (rows : List Row)
    → AllByRecursion (λ other. key_cmp row.shown.key other.shown.key ≡ Less) rows → AllByRecursion (IsFresh state) rows
    → AllByRecursion (IsFresh (put_row row state)) rows
still_fresh row state [] above fresh = tt
still_fresh row state (other ∷ rows) above fresh =
    grind (arith, row_at-put_other other.shown.key row state, still_fresh row state rows above.1 fresh.1)

module _ (buses : List Bus) where
  one_added : (row : Row) (state : State) (both : Indexes) (count : ℕ) → IsFresh state row → IsRowOf buses row
      → count + removable_count row ≤ both.moments.reserved → count + removable_count row ≤ both.sessions.reserved
      → IsIndexed state both count
      → IsIndexed (put_row row state) (row_edited insert_by row both) (count + removable_count row)
  one_added row state both count fresh of due_reserved held_reserved h =
      let more = count + removable_count row in
      let same = but_at_none row.shown.key state fresh in
      record {
        rising = rising_put row_key row state h.rising;
        due = with_pairs due_of row state _ more (rw same (with_reserved due_of state _ _ count more refl refl due_reserved h.due));
        held = with_pairs holder_of row state _ more
            (rw same (with_reserved holder_of state _ _ count more refl refl held_reserved h.held));
        since = h.since;
        counted = omega (arith, sum-put_row removable_count row state, ap removable_rows same, h.counted);
        rows = all_put row_key IsRankedRow row state (ranked_row buses row of) h.rows;
      }

  all_added : (rows : List Row) (state : State) (both : Indexes) (count : ℕ) → IsRising rows → AllByRecursion (IsFresh state) rows
      → AllByRecursion (IsRowOf buses) rows → count + removable_rows rows ≤ both.moments.reserved
      → count + removable_rows rows ≤ both.sessions.reserved
      → IsIndexed state both count → IsIndexed (put_rows rows state) (with_rows rows both) (count + removable_rows rows)
  all_added [] state both count rising fresh of due_reserved held_reserved h = subst (IsIndexed state both) (omega arith) h
  all_added (row ∷ rows) state both count rising fresh of due_reserved held_reserved h =
      let sum = sum_by-cons removable_count row rows in
      let here = one_added row state both count fresh.0 of.0 (omega (arith, sum, due_reserved)) (omega (arith, sum, held_reserved)) h in
      let all = all_added rows (put_row row state) (row_edited insert_by row both) (count + removable_count row) rising.1
      (still_fresh row state rows rising.0 fresh.1) of.1 (omega (arith, sum, due_reserved)) (omega (arith, sum, held_reserved)) here in
      let same : count + removable_count row + removable_rows rows ≡ count + removable_rows (row ∷ rows) = omega (arith, sum) in
      subst (λ n. IsIndexed (put_rows rows (put_row row state)) (with_rows rows (row_edited insert_by row both)) n) same all

  pub added_indexed : (state : State) (device : Device) (rows : List Row) → AreNewRowsOf buses state device rows
      → (both : Indexes) (count : ℕ) → count + removable_rows rows ≤ both.moments.reserved
      → count + removable_rows rows ≤ both.sessions.reserved
      → IsIndexed state both count → IsIndexed (put_rows rows state) (with_rows rows both) (count + removable_rows rows)
  added_indexed state device rows fresh both count due_reserved held_reserved h =
      let n = row_count buses device in
      all_added rows state both count (ports_rise device rows 0 n fresh.all.keys)
      (weaken rows (ports_from device rows 0 n fresh.all.keys)
      (λ row from. ap (λ k. row_at k state) from.2 ∙ no_row (row_at (key_at device from.0) state) (fresh.free from.0)))
      fresh.all.each due_reserved held_reserved h
