-- The rows of a bus, group by group: look-ups and changes.
use Rattle.srcp_rules.proofs.Names
use Names.{arith, each-range, first_key, ◌≡◌, ℕ, ◌<◌, Bool, true, false, cond, is_some, not, List, [], ◌∷◌, map, Option, Some, None, refl}
use Names.{sym, ap, ◌∙◌, true≢false, AllByRecursion, range_with_len, set_value, option_map_or, nat_cmp, is_gt, is_at, Less, Group, Key}
use Names.{Device, Row, key_cmp, owns, device_from_owns, all_filter, rising_filter, fb_device, power_device, State, IsRising, first_row}
use Names.{has_row, put_row, row_after, row_at, without, put_rows, AreRowsOfBus, AreSorted, IsIn, bus_rows, entry_at, weaken, same_key-true}
use Names.group
use Names.value
use Names.cursor
use Rattle.std.proofs.Common.{Global, MatchOption, Vec}
use Rattle.std.specs.List.Sorted.{IsStrictlySortedBy}
use Rattle.std.specs.Option.{option_to_list}
use Rattle.srcp_info.specs.Key.{group_place}
use Rattle.srcp_info.specs.declared.key.TheConstants.{GROUPS}
use Rattle.srcp_info.proofs.ClientLaws.{put_over}
use Rattle.srcp_rules.specs.declared.nested.bus_rows.BusRows.{BusRows}
use Rattle.srcp_rules.specs.Nested.{AreOfGroup, group_rows}
use Rattle.srcp_rules.proofs.ListedLaws.{IsTagged, row_at-listed, row_after-own, rows_at}
use Rattle.srcp_rules.proofs.StateLaws.{rising-range, row_key}
use Rattle.srcp_rules.proofs.OrderLaws.{address_order, group_order}
use Rattle.srcp_rules.proofs.PutRowsLaws.{all-put_rows, rising-put_rows}
use Rattle.srcp_rules.proofs.TaggedLaws.{AreEntries, AreOf, IsChangeAt, IsEntry, drops, listed-each, listed-rising, listed-set_value, puts}
use Rattle.srcp_rules.proofs.TaggedLaws.{tagged}
use Rattle.srcp_rules.proofs.DeviceLaws.{devices_of_group, whole}

abbrev place_of : Key → ℕ
place_of key = group_place key.group

-- the rows of the groups by their places
abbrev by_place : BusRows → List (ℕ × State)
by_place rows = map (λ g. (group_place g, group_rows rows g)) GROUPS

places_rise : (rows : BusRows) → AreSorted (by_place rows)
unfolding IsStrictlySortedBy
places_rise rows = search depth 20 parts 20

-- ---- a power row

-- an optional row as a slice
pub slice-option_to_list : (o : Option Row) (rows : State) → MatchOption o (rows ≡ []) (λ row. rows ≡ row ∷ []) → rows ≡ option_to_list o
slice-option_to_list o rows h = grind arith

passed : (b : Bool) (row : Row) → is_some (cond b (Some row) None) ≡ true → b ≡ true
passed b row h = grind arith

-- the one row that is there is set
pub put_row-option_to_list : (o : Option Row) (row : Row) → has_row row.shown.key (option_to_list o) ≡ true
    → row ∷ [] ≡ put_row row (option_to_list o)
put_row-option_to_list None row h = absurd (true≢false (sym h))
put_row-option_to_list (Some other) row h =
    sym (put_over row_key row [] other [] (same_key-true other.shown.key row.shown.key (passed _ other h)) tt tt)

-- ---- the rows of one group

pub of_group-put_rows : (bus : ℕ) (g : Group) (added rows : State) → AllByRecursion (λ row. IsIn bus g row.shown.key) added
    → AreOfGroup bus g rows → AreOfGroup bus g (put_rows added rows)
of_group-put_rows bus g added rows new h = record {
  rising = rising-put_rows added rows h.rising;
  each = all-put_rows (λ row. IsIn bus g row.shown.key) added rows new h.each;
}

pub of_group-without : (bus : ℕ) (g : Group) (device : Device) (rows : State) → AreOfGroup bus g rows
    → AreOfGroup bus g (without device rows)
of_group-without bus g device rows h = record {
  rising = rising_filter row_key (λ row. not (owns device row.shown.key)) rows h.rising;
  each = all_filter (λ row. IsIn bus g row.shown.key) (λ row. not (owns device row.shown.key)) rows h.each;
}

-- ---- the rows that begin with the registry

pub power_of_group : (bus : ℕ) (on : Bool)
    → AreOfGroup bus group.Power (option_to_list (cond on (Some (first_row 0 (power_device bus) (value.Power false []))) None))
power_of_group bus on = grind arith

pub fb_of_group : (bus n : ℕ)
    → AreOfGroup bus group.Fb (map (λ port. first_row 0 (fb_device bus port) (value.Fb false)) (range_with_len 1 n))
fb_of_group bus n = record {
  rising = rising-range row_key _
      (λ j k less. address_order (first_key (fb_device bus j)) (first_key (fb_device bus k)) refl refl less) 1 n;
  each = each-range _ _ 1 n (λ port low high. (refl, refl));
}

-- ---- the groups of a bus

module _ (bus : ℕ) where
  abbrev OnBus : Key → Type 0
  OnBus key = key.bus ≡ bus

  in_order : (a b : Key) → OnBus a → OnBus b → place_of a < place_of b → key_cmp a b ≡ Less
  in_order a b x y h = group_order a b (x ∙ sym y) h

  placed : (g : Group) (rows : State) → AllByRecursion (λ row. IsIn bus g row.shown.key) rows → AreOf place_of OnBus (group_place g) rows
  placed g rows h = weaken rows h (λ row t. (t.0, ap group_place t.1))

module _ {bus : ℕ} {rows : BusRows} (are : AreRowsOfBus bus rows) where
  of_group : (g : Group) → AreOfGroup bus g (group_rows rows g)
  of_group group.Session = are.sessions
  of_group group.Power = are.power
  of_group group.Gl = devices_of_group bus group.Gl rows.locomotives are.locomotives
  of_group group.Ga = devices_of_group bus group.Ga rows.accessories are.accessories
  of_group group.Fb = are.feedback
  of_group group.LockGl = devices_of_group bus group.LockGl rows.locomotive_locks are.locomotive_locks
  of_group group.LockGa = devices_of_group bus group.LockGa rows.accessory_locks are.accessory_locks

  at : (g : Group) → IsEntry whole place_of (OnBus bus) (in_order bus) (group_place g) (group_rows rows g)
  at g = (placed bus g (group_rows rows g) (of_group g).each, (of_group g).rising)

  entries : AreEntries whole place_of (OnBus bus) (in_order bus) (by_place rows)
  entries = (at group.Session, (at group.Power, (at group.Gl, (at group.Ga, (at group.Fb, (at group.LockGl, (at group.LockGa, tt)))))))

  at_place : AllByRecursion (IsTagged whole place_of (OnBus bus)) (by_place rows)
  at_place = tagged whole place_of (OnBus bus) (in_order bus) (by_place rows) entries

  -- each row is of the bus
  pub rows_on_bus : AllByRecursion (λ row. OnBus bus row.shown.key) (bus_rows rows)
  rows_on_bus = listed-each whole place_of (OnBus bus) (in_order bus) (by_place rows) entries

  -- their keys rise
  pub bus_rising : IsRising (bus_rows rows)
  bus_rising = listed-rising whole place_of (OnBus bus) (in_order bus) (by_place rows) entries (places_rise rows)

  has_group : (g : Group) → entry_at (group_place g) (by_place rows) ≡ Some (group_rows rows g)
  has_group g = grind arith

  -- the row at a key is that of its group
  pub row_at-group : (key : Key) {g : Group} → key.group ≡ g → row_at key (bus_rows rows) ≡ row_at key (group_rows rows g)
  row_at-group key {g} e =
      row_at-listed whole place_of (OnBus bus) key (by_place rows) at_place (places_rise rows)
      ∙ ap (λ (h : Group). row_at key (rows_at whole (group_place h) (by_place rows))) e
      ∙ ap (λ o. row_at key (option_map_or whole o [])) (has_group g)

  pub has_row-group : (key : Key) {g : Group} → key.group ≡ g → has_row key (bus_rows rows) ≡ has_row key (group_rows rows g)
  has_row-group key e = ap is_some (row_at-group key e)

  -- a row that the cursor's own group has beyond it is the first of the bus
  pub row_after-own_group : (last : Key) → last.bus ≡ bus
      → (row : Row) → row_after (cursor.After last) (group_rows rows last.group) ≡ Some row
      → row_after (cursor.After last) (bus_rows rows) ≡ Some row
  row_after-own_group last on row is =
      row_after-own whole place_of (OnBus bus) (cursor.After last) (place_of last)
      (λ key x h. ap (λ o. not (is_gt o)) (group_order key last (x ∙ sym on) h))
      (group_rows rows last.group) row is (by_place rows) at_place (places_rise rows) (has_group last.group)

  -- ---- changes of one group

  -- the rows after those of one group are others
  abbrev pub WithGroup : Group → BusRows → Type 0
  WithGroup g after = by_place after ≡ set_value (is_at (nat_cmp (group_place g))) (by_place rows) (group_rows after g)

  changed-group : (g : Group) {op : State → State} → IsChangeAt place_of (OnBus bus) (group_place g) op → (after : BusRows)
      → WithGroup g after → group_rows after g ≡ op (group_rows rows g) → bus_rows after ≡ op (bus_rows rows)
  changed-group g change after with_group is =
      listed-set_value whole place_of (OnBus bus) (in_order bus) change (by_place rows) (by_place after) entries (places_rise rows)
      (places_rise after) (group_rows after g) (group_rows rows g) (sym (has_group g)) with_group is

  pub put_rows-group : (g : Group) (added : State) (after : BusRows) → AllByRecursion (λ row. IsIn bus g row.shown.key) added
      → WithGroup g after → group_rows after g ≡ put_rows added (group_rows rows g) → bus_rows after ≡ put_rows added (bus_rows rows)
  put_rows-group g added after new with_group is =
      changed-group g (puts place_of (OnBus bus) (group_place g) added (placed bus g added new)) after with_group is

  pub without-group : (device : Device) {g : Group} (after : BusRows) → device.group ≡ g → WithGroup g after
      → group_rows after g ≡ without device (group_rows rows g) → bus_rows after ≡ without device (bus_rows rows)
  without-group device {g} after here with_group is =
      changed-group g
      (drops place_of (OnBus bus) (group_place g) device
      (λ key e. ap (λ (d : Device). group_place d.group) (device_from_owns device key e) ∙ ap group_place here)) after with_group is

  -- new sessions
  pub with_sessions : (sessions : Vec Row Global) → AreOfGroup bus group.Session sessions.items
      → AreRowsOfBus bus (record rows { sessions = sessions })
  with_sessions sessions h = record {
    sessions = h;
    power = are.power;
    locomotives = are.locomotives;
    accessories = are.accessories;
    feedback = are.feedback;
    locomotive_locks = are.locomotive_locks;
    accessory_locks = are.accessory_locks;
  }
