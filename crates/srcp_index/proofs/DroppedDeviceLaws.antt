-- Laws of the rows with both indexes: a dropped device.
use Rattle.srcp_rules.proofs.Names
use Names.{◌≡◌, ℕ, ◌+◌, ◌-◌, ◌<◌, ◌≤◌, Bool, true, not, ◌&&◌, cond, nat_lt, [], ◌∷◌, filter, Option, Some, None, AllByRecursion, refl, sym}
use Names.{ap, subst, ◌∙◌, arith, Key, Device, Row, owns, can_go}
use Names.{all_filter, rising_filter, owns-device_of, device_from_owns, key_at, State, row_at, without, holder_of, most_rows}
use Rattle.srcp_rules.proofs.KeyLaws.{same_key, same_key-itself, same_key-true}
use Rattle.srcp_rules.proofs.StateLaws.{at-filter, row_key, row_at_key}
use Rattle.srcp_index.specs.declared.indexes.Indexes.{Indexes}
use Rattle.srcp_index.specs.Indexed.{IsIndexed, IsRankedRow, due_of, is_removable, row_edited}
use Rattle.srcp_index.specs.Ordered.{remove_by}
use Rattle.srcp_index.proofs.RowSums.{but_at, removable_count, sum-there}
use Rattle.srcp_index.proofs.PairsOfRows.{without_pairs}
use Rattle.srcp_index.proofs.RankLaws.{with_reserved}
use Rattle.srcp_index.proofs.AddedRowsLaws.{but_at_none}

-- ---- a device that is dropped

-- the rows but those of the device at ports below this one
abbrev pub but_below : Device → (port : ℕ) → State → State
but_below device port state = filter (λ row. not (owns device row.shown.key && nat_lt row.shown.key.port port)) state

filter_both : (p q r : Row → Bool) → ((row : Row) → r row ≡ (p row && q row)) → (state : State) → filter p (filter q state) ≡ filter r state
filter_both p q r same [] = refl
filter_both p q r same (row ∷ state) = grind (arith, same row, filter_both p q r same state)

module _ (device : Device) where
  own_port : (k : Key) (port : ℕ) → owns device k ≡ true → k.port ≡ port → k ≡ key_at device port
  own_port k port e here = grind (arith, device_from_owns device k e)

  -- a key below the next port is at this one or below it
  next_or_below : (own here : Bool) (p port : ℕ) → (here ≡ true → (own ≡ true) × (p ≡ port)) → (own ≡ true → p ≡ port → here ≡ true)
      → not (own && nat_lt p (port + 1)) ≡ (not here && not (own && nat_lt p port))
  next_or_below own here p port f g = grind arith

  at_port : (k : Key) (port : ℕ) → (not (owns device k && nat_lt k.port (port + 1)))
      ≡ (not (same_key k (key_at device port)) && not (owns device k && nat_lt k.port port))
  at_port k port =
      let here = key_at device port in
      next_or_below (owns device k) (same_key k here) k.port port
      (λ s. let same = same_key-true k here s in (ap (owns device) same ∙ owns-device_of here, ap (λ (j : Key). j.port) same))
      (λ own at. ap (λ j. same_key j here) (own_port k port own at) ∙ same_key-itself here)

  pub but_below-next : (port : ℕ) (state : State) → but_below device (port + 1) state
      ≡ but_at (key_at device port) (but_below device port state)
  but_below-next port state =
      sym (filter_both (λ row. not (same_key row.shown.key (key_at device port)))
      (λ row. not (owns device row.shown.key && nat_lt row.shown.key.port port))
      (λ row. not (owns device row.shown.key && nat_lt row.shown.key.port (port + 1))) (λ row. at_port row.shown.key port) state)

  pub but_below-none : (state : State) → but_below device 0 state ≡ state
  but_below-none [] = refl
  but_below-none (row ∷ state) = grind (arith, but_below-none state)

  -- a key of the device has a port that its group may have
  own_below : (k : Key) → k.port < most_rows k.group → not (owns device k && nat_lt k.port (most_rows device.group)) ≡ not (owns device k)
  own_below k within = grind (arith, device_from_owns device k)

  pub but_below-all : (state : State) → AllByRecursion IsRankedRow state
      → but_below device (most_rows device.group) state ≡ without device state
  but_below-all [] h = refl
  but_below-all (row ∷ state) h = grind (arith, own_below row.shown.key, but_below-all state h.1)

-- a row of the device that is taken out
module _ (state : State) (both : Indexes) (count : ℕ) (h : IsIndexed state both count) (row : Row)
    (there : row_at row.shown.key state ≡ Some row) where
  dropped_one : is_removable row ≡ true → IsIndexed (but_at row.shown.key state) (row_edited remove_by row both) (count - 1)
  dropped_one goes =
      let test = (λ (other : Row). not (same_key other.shown.key row.shown.key)) in
      let one : removable_count row ≡ 1 = rw goes refl in
      let fewer_due = with_reserved due_of state _ both.moments count (count - 1) refl refl (omega (arith, h.due.reserved)) h.due in
      let fewer_held = with_reserved holder_of state _ both.sessions count (count - 1) refl refl (omega (arith, h.held.reserved)) h.held in
      record {
        rising = rising_filter row_key test state h.rising;
        due = without_pairs due_of row state both.moments (count - 1) h.rising there fewer_due;
        held = without_pairs holder_of row state both.sessions (count - 1) h.rising there fewer_held;
        since = h.since;
        counted = omega (arith, sum-there removable_count row state h.rising there, h.counted);
        rows = all_filter IsRankedRow test state h.rows;
      }

left_in : (own : Bool) (port : ℕ) (o : Option Row) → cond (not (own && nat_lt port port)) o None ≡ o
left_in own port o = grind arith

module _ (device : Device) (port : ℕ) (state : State) where
  -- the row at the port is among those that are left
  at_next : row_at (key_at device port) (but_below device port state) ≡ row_at (key_at device port) state
  at_next =
      let here = key_at device port in
      at-filter row_key (λ k. not (owns device k && nat_lt k.port port)) here state ∙ left_in (owns device here) port (row_at here state)

  module _ (both : Indexes) (count : ℕ) (h : IsIndexed (but_below device port state) both count) where
    pub none_next : row_at (key_at device port) state ≡ None → IsIndexed (but_below device (port + 1) state) both count
    none_next none =
        subst (λ rows. IsIndexed rows both count) (sym (but_at_none (key_at device port) (but_below device port state) (at_next ∙ none))
        ∙ sym (but_below-next device port state)) h

    module _ (goes : can_go device.group ≡ true) (row : Row) (there : row_at (key_at device port) state ≡ Some row) where
      same_key_there : row.shown.key ≡ key_at device port
      same_key_there = row_at_key (key_at device port) state row there

      left_there : row_at row.shown.key (but_below device port state) ≡ Some row
      left_there = ap (λ k. row_at k (but_below device port state)) same_key_there ∙ at_next ∙ there

      row_goes : is_removable row ≡ true
      row_goes = ap (λ (k : Key). can_go k.group) same_key_there ∙ goes

      pub next_goes : 1 ≤ count
      next_goes =
          let one : removable_count row ≡ 1 = rw row_goes refl in
          omega (arith, sum-there removable_count row (but_below device port state) h.rising left_there, h.counted)

      pub dropped_next : IsIndexed (but_below device (port + 1) state) (row_edited remove_by row both) (count - 1)
      dropped_next =
          subst (λ rows. IsIndexed rows (row_edited remove_by row both) (count - 1))
          (ap (λ k. but_at k (but_below device port state)) same_key_there ∙ sym (but_below-next device port state))
          (dropped_one (but_below device port state) both count h row left_there row_goes)

pub dropped_all : (device : Device) (port : ℕ) (state : State) (both : Indexes) (count : ℕ) → AllByRecursion IsRankedRow state
    → port ≡ most_rows device.group → IsIndexed (but_below device port state) both count → IsIndexed (without device state) both count
dropped_all device port state both count rows last h = subst (λ left. IsIndexed left both count)
    (ap (λ p. but_below device p state) last ∙ but_below-all device state rows) h
