-- The rows of devices of a group of a bus, by address: look-ups and changes.
use Rattle.srcp_rules.proofs.Names
use Names.{◌≡◌, ℕ, zero, suc, ◌+◌, ◌<◌, ◌==◌, Bool, true, false, is_some, not, List, [], ◌∷◌, ◌++◌, drop, length, find, Option, Some, None}
use Names.{nat_lt, slice_get, slice_index_or, refl, sym, ap, subst, ◌∙◌, arith, true≢false, find-append, none-some, same_Some}
use Names.{AllByRecursion, option_map, option_map_or, option_or, is_eq, is_gt, Less, Group, Key, Device, Row, Cursor, key_cmp, device_of}
use Names.{has_reached, after_from_less, all_append, all_put, rising_put, key_at, State, has_row, put_row, row_at, row_after, without}
use Names.{put_rows, numbered, AreOfDevice, IsIn, device_rows, entry_at, weaken, IfSome, slice_set, device_from_owns}
use Rattle.std.proofs.Common.{add-one, length-append}
use Rattle.std.proofs.lemmas.Bool.Decides.{nat_tests}
use Rattle.std.specs.List.Sorted.{IsStrictlySortedBy}
use Rattle.srcp_info.specs.declared.change.Cursor.TheVariants as at
use Rattle.srcp_rules.specs.Nested.{AreDevices, AreOfGroup}
use Rattle.srcp_grammar.proofs.FindLaws.{find_same}
use Rattle.srcp_rules.proofs.StateLaws.{row_key, row_at-first}
use Rattle.srcp_rules.proofs.OrderLaws.{address_order, device_in_group, device_order, group_alike, owns-own}
use Rattle.srcp_rules.proofs.PutLaws.{find_none, find_past, put_rows-new, without-all}
use Rattle.srcp_rules.proofs.ListedLaws.{each-changed, entry_holds, row_at-listed, rows_at}
use Rattle.srcp_rules.proofs.NumberedLaws.{entry_at-numbered, numbered-sorted, other_slot, own_slot}
use Rattle.srcp_rules.proofs.TaggedLaws.{AreEntries, IsChangeAt, drops, listed-absent, listed-changed, listed-each, listed-rising, tagged}

abbrev pub whole : State → State
whole rows = rows

abbrev pub address_of : Key → ℕ
address_of key = key.address

some-put_row : (row : Row) (rows : State) → 0 < length (put_row row rows)
some-put_row row rows = grind (arith, length-append)

-- of rows beyond the cursor the first is the next
first_beyond : (cursor : Cursor) (rows : State) → AllByRecursion (λ row. has_reached cursor row.shown.key ≡ false) rows
    → row_after cursor rows ≡ slice_get rows 0
first_beyond cursor [] h = refl
first_beyond cursor (row ∷ rows) h = rw h.0

first_of_both : (rows rest : State) → 0 < length rows → slice_get (rows ++ rest) 0 ≡ slice_get rows 0
first_of_both [] rest h = absurd (omega (arith, h))
first_of_both (row ∷ rows) rest h = refl

module _ (key : Key) (rows : State) (device : AreOfDevice key.bus key.group key.address rows) where
  -- in the key's own device the row at a key is the one of its port
  pub row_at-own_device : row_at key rows ≡ find (λ row. row.shown.key.port == key.port) rows
  row_at-own_device =
      find_same (λ row. is_eq (key_cmp row.shown.key key)) (λ row. row.shown.key.port == key.port) rows
      (weaken rows device.each (λ row t. rw (device_order row.shown.key key t.0.0 t.0.1 t.1) (grind (arith, nat_tests))))

  -- and the next one is the first of a greater port
  pub row_after-own_device : row_after (at.After key) rows ≡ find (λ row. nat_lt key.port row.shown.key.port) rows
  row_after-own_device =
      find_same (λ row. not (has_reached (at.After key) row.shown.key)) (λ row. nat_lt key.port row.shown.key.port) rows
      (weaken rows device.each (λ row t. rw (device_order row.shown.key key t.0.0 t.0.1 t.1) (grind (arith, nat_tests))))

-- without a first device there is no row
pub no_first_device : (es : List (ℕ × State)) → None ≡ option_map (λ (e : ℕ × State). e.1) (slice_get es 0)
    → None ≡ slice_get (device_rows es) 0
no_first_device [] is = refl
no_first_device (f ∷ fs) is = absurd (none-some f.1 is)

module _ (bus : ℕ) (g : Group) where
  abbrev Here : Key → Type 0
  Here key = IsIn bus g key

  -- the rows of a device after one of them is set
  pub device-put_row : (address : ℕ) (row : Row) (rows : State) → Here row.shown.key → row.shown.key.address ≡ address
      → AreOfDevice bus g address rows → AreOfDevice bus g address (put_row row rows)
  device-put_row address row rows e f h = record {
    rising = rising_put row_key row rows h.rising;
    each = all_put row_key (λ other. Here other.shown.key × (other.shown.key.address ≡ address)) row rows (e, f) h.each;
    some = some-put_row row rows;
  }

  in_order : (a b : Key) → Here a → Here b → a.address < b.address → key_cmp a b ≡ Less
  in_order a b x y h = address_order a b (x.0 ∙ sym y.0) (x.1 ∙ sym y.1) h

  abbrev least : Key
  least = record { bus = bus; group = g; address = 0; port = 0 }

  -- a cursor outside the group has reached all of its keys or none
  all_or_none : (cursor : Cursor) → ((last : Key) → cursor ≡ at.After last → Here last → ⊥) → (key : Key) → Here key
      → has_reached cursor key ≡ has_reached cursor least
  all_or_none at.Start outside key x = refl
  all_or_none (at.After last) outside key x = ap (λ o. not (is_gt o)) (group_alike bus g key least last x (refl, refl) (outside last refl))
  all_or_none at.Done outside key x = refl

  -- the first row of all is that of the first device
  pub first_device : (es : List (ℕ × State)) → AllByRecursion (λ e. AreOfDevice bus g e.0 e.1) es → (rows : State)
      → Some rows ≡ option_map (λ (e : ℕ × State). e.1) (slice_get es 0) → slice_get rows 0 ≡ slice_get (device_rows es) 0
  first_device [] each rows is = absurd (none-some rows (sym is))
  first_device (f ∷ fs) each rows is =
      ap (λ (xs : State). slice_get xs 0) (same_Some rows f.1 is) ∙ sym (first_of_both f.1 (device_rows fs) each.0.some)

  module _ (es : List (ℕ × State)) (devices : AreDevices bus g es) where
    entries : AreEntries whole address_of Here in_order es
    entries = weaken es devices.each (λ e h. (h.each, h.rising))

    -- the rows of the device that is found
    pub found_device : (address : ℕ) (rows : State) → entry_at address es ≡ Some rows → AreOfDevice bus g address rows
    found_device address rows e = entry_holds (AreOfDevice bus g) address es devices.each rows e

    -- each row is of the group of the bus, and their keys rise
    pub devices_of_group : AreOfGroup bus g (device_rows es)
    devices_of_group = record {
      rising = listed-rising whole address_of Here in_order es entries devices.sorted;
      each = listed-each whole address_of Here in_order es entries;
    }

    -- ---- looking up

    row_at-devices : (key : Key) → row_at key (device_rows es) ≡ row_at key (rows_at whole key.address es)
    row_at-devices key = row_at-listed whole address_of Here key es (tagged whole address_of Here in_order es entries) devices.sorted

    pub row_at-device : (key : Key) (rows : State) → Some rows ≡ entry_at key.address es → row_at key rows ≡ row_at key (device_rows es)
    row_at-device key rows e = ap (λ o. row_at key (option_map_or whole o [])) e ∙ sym (row_at-devices key)

    pub row_at-no_device : (key : Key) → None ≡ entry_at key.address es → None ≡ row_at key (device_rows es)
    row_at-no_device key e = ap (λ o. row_at key (option_map_or whole o [])) e ∙ sym (row_at-devices key)

    module _ (cursor : Cursor) (outside : (last : Key) → cursor ≡ at.After last → Here last → ⊥) where
      reached : (b : Bool) → has_reached cursor least ≡ b → AllByRecursion (λ row. has_reached cursor row.shown.key ≡ b) (device_rows es)
      reached b e = weaken (device_rows es) devices_of_group.each (λ row h. all_or_none cursor outside row.shown.key h ∙ e)

      -- a cursor that has reached all keys of the group has none of its rows beyond it
      pub none_after : has_reached cursor least ≡ true → row_after cursor (device_rows es) ≡ None
      none_after e =
          find_none (λ row. not (has_reached cursor row.shown.key)) (device_rows es)
          (weaken (device_rows es) (reached true e) (λ row h. ap not h))

      -- and one that has reached none has them all
      pub first_after : has_reached cursor least ≡ false → row_after cursor (device_rows es) ≡ slice_get (device_rows es) 0
      first_after e = first_beyond cursor (device_rows es) (reached false e)

    -- ---- changes

    module _ {B : Type 0} (value : B → State) (slots : List (Option B)) (view : numbered value 0 slots ≡ es) (k : ℕ) (slot : Option B)
        (within : k < length slots) where
      abbrev after : List (ℕ × State)
      after = numbered value 0 (slice_set slots k slot)

      -- a slot is set to one of the device at its address, or to none
      pub slot-devices : IfSome (option_map value slot) (AreOfDevice bus g k) → AreDevices bus g after
      slot-devices h = record {
        each = each-changed (AreOfDevice bus g) es after devices.each (numbered-sorted value 0 (slice_set slots k slot))
            (other_slot value slots view k slot)
            (subst (λ o. IfSome o (AreOfDevice bus g k)) (sym (own_slot value slots view k slot within)) h);
        sorted = numbered-sorted value 0 (slice_set slots k slot);
      }

      pub slot-rows : {op : State → State} → IsChangeAt address_of Here k op
          → option_map_or whole (option_map value slot) [] ≡ op (rows_at whole k es) → device_rows after ≡ op (device_rows es)
      slot-rows change here =
          listed-changed whole address_of Here in_order change es after entries devices.sorted
          (numbered-sorted value 0 (slice_set slots k slot)) (other_slot value slots view k slot)
          (ap (λ o. option_map_or whole o []) (own_slot value slots view k slot within) ∙ here)

    -- a device that goes
    pub drops_here : (device : Device) → IsChangeAt address_of Here device.address (without device)
    drops_here device = drops address_of Here device.address device (λ key e. ap (λ d. d.address) (device_from_owns device key e))

    pub gone : (device : Device) → (bus ≡ device.bus) × (g ≡ device.group) → (o : Option State) → entry_at device.address es ≡ o
        → [] ≡ without device (option_map_or whole o [])
    gone device here None e = refl
    gone device here (Some rows) e =
        sym (without-all device rows
        (weaken rows (found_device device.address rows e).each (λ row t.
        owns-own device row.shown.key
        (device_in_group device.bus device.group device.address row.shown.key (t.0.0 ∙ here.0, t.0.1 ∙ here.1) t.1))))

    -- and one that is not there
    pub devices-absent : (device : Device) → None ≡ entry_at device.address es → device_rows es ≡ without device (device_rows es)
    devices-absent device e = listed-absent whole address_of Here in_order (drops_here device) refl es entries devices.sorted e

    -- ---- adding a device

    -- a device with rows is there
    there : (key : Key) (rows : State) → AreOfDevice bus g key.address rows → Here key → Some rows ≡ entry_at key.address es
        → ((port : ℕ) → has_row (key_at (device_of key) port) (device_rows es) ≡ false) → ⊥
    there key [] h here e free = let some = h.some in omega (arith, some)
    there key (first ∷ rows) h here e free =
        let same : device_of first.shown.key ≡ device_of key =
        device_in_group bus g key.address first.shown.key h.each.0.0 h.each.0.1 ∙ sym (device_in_group bus g key.address key here refl) in
        let at : row_at first.shown.key (device_rows es) ≡ Some first =
        sym (row_at-device first.shown.key (first ∷ rows) (e ∙ ap (λ n. entry_at n es) (sym h.each.0.1))) ∙ row_at-first first rows in
        true≢false (sym (ap is_some at) ∙ ap (λ d. has_row (key_at d first.shown.key.port) (device_rows es)) same
        ∙ free first.shown.key.port)

    absent_by : (key : Key) → Here key → ((port : ℕ) → has_row (key_at (device_of key) port) (device_rows es) ≡ false) → (o : Option State)
        → o ≡ entry_at key.address es → entry_at key.address es ≡ None
    absent_by key here free None e = sym e
    absent_by key here free (Some rows) e = absurd (there key rows (found_device key.address rows (sym e)) here e free)

    -- so its rows are those that are put
    pub new_rows : (key : Key) → Here key → ((port : ℕ) → has_row (key_at (device_of key) port) (device_rows es) ≡ false)
        → (added : State) → AreOfDevice bus g key.address added → added ≡ put_rows added (rows_at whole key.address es)
    new_rows key here free added new =
        sym (put_rows-new added new.rising)
        ∙ ap (λ o. put_rows added (option_map_or whole o [])) (sym (absent_by key here free (entry_at key.address es) refl))

-- ---- the row after a key of the group

module _ {B : Type 0} (value : B → State) (last : Key) where
  abbrev AreDevicesAt : ℕ → List (Option B) → Type 0
  AreDevicesAt first slots = AllByRecursion (λ e. AreOfDevice last.bus last.group e.0 e.1) (numbered value first slots)

  -- a device before the key's has no row beyond the key
  earlier : (address : ℕ) (rows : State) → address < last.address → AreOfDevice last.bus last.group address rows
      → AllByRecursion (λ row. not (has_reached (at.After last) row.shown.key) ≡ false) rows
  earlier address rows h device =
      weaken rows device.each (λ row t. ap (λ o. not (not (is_gt o)))
      (address_order row.shown.key last t.0.0 t.0.1 (omega (arith, h, t.1))))

  -- and all rows of the devices behind it are
  later : (first : ℕ) → last.address < first → (slots : List (Option B)) → AreDevicesAt first slots
      → AllByRecursion (λ row. has_reached (at.After last) row.shown.key ≡ false) (device_rows (numbered value first slots))
  later first h [] each = tt
  later first h (None ∷ slots) each = later (first + 1) (omega (arith, h)) slots each
  later first h (Some x ∷ slots) each =
      all_append (λ row. has_reached (at.After last) row.shown.key ≡ false) (value x)
      (device_rows (numbered value (first + 1) slots))
      (weaken (value x) each.0.each (λ row t. ap not
      (after_from_less row.shown.key last (address_order last row.shown.key (sym t.0.0) (sym t.0.1) (omega (arith, h, t.1))))))
      (later (first + 1) (omega (arith, h)) slots each.1)

  -- the next row is of the key's own device, or else the first behind it
  pub row_after-numbered : (from first k : ℕ) → last.address ≡ first + k → from ≡ last.address + 1
      → (slots : List (Option B)) → AreDevicesAt first slots
      → row_after (at.After last) (device_rows (numbered value first slots))
      ≡ option_or
      (option_map_or (λ rows. row_after (at.After last) rows) (option_map value (slice_index_or slots k None)) None)
      (slice_get (device_rows (numbered value from (drop (suc k) slots))) 0)
  row_after-numbered from first k e f [] each = refl
  row_after-numbered from first zero e f (None ∷ slots) each =
      first_beyond (at.After last) (device_rows (numbered value (first + 1) slots))
      (later (first + 1) (omega (arith, e)) slots each)
      ∙ ap (λ n. slice_get (device_rows (numbered value n slots)) 0) (omega (arith, e, f))
  row_after-numbered from first zero e f (Some x ∷ slots) each =
      find-append (λ row. not (has_reached (at.After last) row.shown.key)) (value x)
      (device_rows (numbered value (first + 1) slots))
      ∙ ap (option_or (row_after (at.After last) (value x)))
      (first_beyond (at.After last) (device_rows (numbered value (first + 1) slots))
      (later (first + 1) (omega (arith, e)) slots each.1)
      ∙ ap (λ n. slice_get (device_rows (numbered value n slots)) 0) (omega (arith, e, f)))
  row_after-numbered from first (suc k) e f (None ∷ slots) each = row_after-numbered from (first + 1) k (omega (arith, e)) f slots each
  row_after-numbered from first (suc k) e f (Some x ∷ slots) each =
      find_past (λ row. not (has_reached (at.After last) row.shown.key)) (value x)
      (device_rows (numbered value (first + 1) slots)) (earlier first (value x) (omega (arith, e)) each.0)
      ∙ row_after-numbered from (first + 1) k (omega (arith, e)) f slots each.1

  -- so the two look-ups of them answer together
  pub row_after-slots : (slots : List (Option B)) {es : List (ℕ × State)} → numbered value 0 slots ≡ es
      → AreDevices last.bus last.group es → {o : Option Row}
      → o ≡ option_map_or (λ rows. row_after (at.After last) rows) (entry_at last.address es) None
      → option_or o (slice_get (device_rows (numbered value (last.address + 1) (drop (last.address + 1) slots))) 0)
      ≡ row_after (at.After last) (device_rows es)
  row_after-slots slots view devices e =
      let rest = slice_get (device_rows (numbered value (suc last.address) (drop (suc last.address) slots))) 0 in
      let slot = ap (entry_at last.address) (sym view) ∙ entry_at-numbered value last.address 0 last.address (omega arith) slots in
      rw add-one (ap (λ o. option_or o rest) (e ∙ ap (λ o. option_map_or (λ rows. row_after (at.After last) rows) o None) slot)
      ∙ sym (row_after-numbered (suc last.address) 0 last.address (omega arith) (omega arith) slots
      (subst (AreDevices last.bus last.group) (sym view) devices).each)
      ∙ ap (λ es. row_after (at.After last) (device_rows es)) view)

-- no devices are devices of any group
pub no_devices : (bus : ℕ) (g : Group) (es : List (ℕ × State)) → es ≡ [] → AreDevices bus g es
unfolding IsStrictlySortedBy
no_devices bus g es e = subst (AreDevices bus g) (sym e) (record { each = tt; sorted = tt })
