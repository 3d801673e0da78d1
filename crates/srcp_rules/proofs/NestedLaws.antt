-- The rows of all buses: look-ups, changes, and how they begin.
use Rattle.srcp_rules.proofs.Names
use Names.{cases_Bool, inl, inr, ◌≡◌, ℕ, zero, suc, ◌<◌, true, false, ◌==◌, is_some, not, List, [], ◌∷◌, ◌++◌, length, map, flat_map, take}
use Names.{drop, find, slice_index_or, Option, Some, None, IsTrue, refl, sym, ap, subst, ◌∙◌, arith, true≢false, eqb-true, nat_cmp_total}
use Names.{tied_itself, append-nil, AllByRecursion, keys_of, set_value, option_map_or, nat_cmp, is_gt, match_ordering, is_at, insert_entry}
use Names.{entries_between, Included, Unbounded, Less, Group, Key, Device, Row, Cursor, key_cmp, first_key, has_reached, can_go, Bus}
use Names.{IsLayout, bus_at, row_count, rows_on, server, fb_device, key_at, power_device, State, IsRising, has_row, is_there, opening}
use Names.{row_at, row_after, without, put_rows, AreRowsOfBus, AreSorted, bus_rows, entry_at, listed, Rising, each_at, weaken, IfSome}
use Names.{device_from_owns, no_owner}
use Names.group
use Names.cursor
use Rattle.srcp_rules.specs.declared.nested.bus_rows.BusRows.{BusRows}
use Rattle.srcp_rules.specs.Nested.{AreRowsOfLayout, group_rows}
use Rattle.srcp_rules.proofs.OpeningLaws.{opening_whole}
use Rattle.srcp_rules.proofs.StateLaws.{row_at-kept}
use Rattle.srcp_rules.proofs.PutRowsLaws.{has_row-put_rows}
use Rattle.srcp_rules.proofs.OrderLaws.{bus_order, greater}
use Rattle.srcp_rules.proofs.ListedLaws.{IsTagged, each-changed, entry_holds, row_at-listed, row_after-listed, row_after-own, rows_at}
use Rattle.srcp_rules.proofs.ListedLaws.{set_other, set_same}
use Rattle.srcp_rules.proofs.TaggedLaws.{AreEntries, IsChangeAt, drops, listed-absent, listed-rising, listed-set_value, puts, tagged}
use Rattle.srcp_rules.proofs.BusRowsLaws.{bus_rising, row_after-own_group, rows_on_bus}
use Rattle.std.proofs.lemmas.Grind.{flat_map-append}
use Rattle.std.proofs.lemmas.Bool.{true_from_ne_false}
use Rattle.std.proofs.lemmas.Map.{keys-set_value}

abbrev Any : Key → Type 0
Any key = Unit {0}

abbrev bus_of : Key → ℕ
bus_of key = key.bus

in_order : (a b : Key) → Any a → Any b → bus_of a < bus_of b → key_cmp a b ≡ Less
in_order a b x y h = bus_order a b h

-- rows of a bus that are put, and a device of it that is taken out
pub puts_bus : (n : ℕ) (added : State) → AllByRecursion (λ row. row.shown.key.bus ≡ n) added → IsChangeAt bus_of Any n (put_rows added)
puts_bus n added new = puts bus_of Any n added (weaken added new (λ row t. (tt, t)))

pub drops_bus : (device : Device) → IsChangeAt bus_of Any device.bus (without device)
drops_bus device = drops bus_of Any device.bus device (λ key e. ap (λ (d : Device). d.bus) (device_from_owns device key e))

-- ---- the records of a layout

module _ {buses : List Bus} {es : List (ℕ × BusRows)} (are : AreRowsOfLayout buses es) where
  entries : AreEntries bus_rows bus_of Any in_order es
  entries = weaken es are.each (λ e h. (weaken (bus_rows e.1) (rows_on_bus h) (λ row t. (tt, t)), bus_rising h))

  on_buses : AllByRecursion (IsTagged bus_rows bus_of Any) es
  on_buses = tagged bus_rows bus_of Any in_order es entries

  -- the keys of all rows rise
  pub rising-buses : IsRising (listed bus_rows es)
  rising-buses = listed-rising bus_rows bus_of Any in_order es entries are.sorted

  -- the record that is found
  pub found_bus : {n : ℕ} {rows : BusRows} → Some rows ≡ entry_at n es → AreRowsOfBus n rows
  found_bus {n} {rows} e = entry_holds AreRowsOfBus n es are.each rows (sym e)

  -- ---- looking up

  row_at-buses : (key : Key) → row_at key (listed bus_rows es) ≡ row_at key (rows_at bus_rows key.bus es)
  row_at-buses key = row_at-listed bus_rows bus_of Any key es on_buses are.sorted

  pub row_at-bus : (key : Key) {rows : BusRows} → Some rows ≡ entry_at key.bus es
      → row_at key (bus_rows rows) ≡ row_at key (listed bus_rows es)
  row_at-bus key e = ap (λ o. row_at key (option_map_or bus_rows o [])) e ∙ sym (row_at-buses key)

  pub row_at-no_bus : (key : Key) → None ≡ entry_at key.bus es → None ≡ row_at key (listed bus_rows es)
  row_at-no_bus key e = ap (λ o. row_at key (option_map_or bus_rows o [])) e ∙ sym (row_at-buses key)

  pub row_after-buses : (cursor : Cursor) (from : ℕ) → ((key : Key) → key.bus < from → has_reached cursor key ≡ true)
      → row_after cursor (listed bus_rows es) ≡ row_after cursor (listed bus_rows (entries_between nat_cmp (Included from) Unbounded es))
  row_after-buses cursor from reached = row_after-listed bus_rows bus_of Any cursor from (λ key any h. reached key h) es on_buses

  -- a row that the cursor's own group has beyond it is the first of all
  pub row_after-own_bus : (last : Key) {rows : BusRows} → Some rows ≡ entry_at last.bus es
      → (row : Row) → Some row ≡ row_after (cursor.After last) (group_rows rows last.group)
      → Some row ≡ row_after (cursor.After last) (listed bus_rows es)
  row_after-own_bus last {rows} e row is =
      sym (row_after-own bus_rows bus_of Any (cursor.After last) last.bus
      (λ key any h. ap (λ o. not (is_gt o)) (bus_order key last h)) rows row
      (row_after-own_group (found_bus e) last refl row (sym is)) es on_buses are.sorted (sym e))

  -- ---- changes

  -- what never goes is there
  abbrev pub Stays : State → Type 0
  Stays state = (device : Device) → can_go device.group ≡ false → 0 < row_count buses device → IsTrue (is_there device state)

  module _ {n : ℕ} (rows after : BusRows) {new : List (ℕ × BusRows)} (found : Some rows ≡ entry_at n es)
      (is : new ≡ set_value (is_at (nat_cmp n)) es after) (risen : AreSorted new) where
    pub changed-bus : {op : State → State} → IsChangeAt bus_of Any n op → bus_rows after ≡ op (bus_rows rows)
        → listed bus_rows new ≡ op (listed bus_rows es)
    changed-bus change same = listed-set_value bus_rows bus_of Any in_order change es new entries are.sorted risen after rows found is same

    pub layout-set : AreRowsOfBus n after → Stays (listed bus_rows new) → AreRowsOfLayout buses new
    layout-set h stays = record {
      laid_out = are.laid_out;
      each = each-changed AreRowsOfBus es new are.each risen (set_other n after rows es new found is)
          (subst (λ o. IfSome o (AreRowsOfBus n)) (sym (set_same n after rows es new found is)) h);
      sorted = risen;
      numbers = ap keys_of is ∙ keys-set_value (is_at (nat_cmp n)) es after ∙ are.numbers;
      stays = stays;
    }

  pub without-no_bus : (device : Device) → None ≡ entry_at device.bus es → listed bus_rows es ≡ without device (listed bus_rows es)
  without-no_bus device e = listed-absent bus_rows bus_of Any in_order (drops_bus device) refl es entries are.sorted e

  pub stays-put_rows : (added : State) → Stays (put_rows added (listed bus_rows es))
  stays-put_rows added device never count = has_row-put_rows (first_key device) added (listed bus_rows es) (are.stays device never count)

  pub stays-without : (gone : Device) → can_go gone.group ≡ true → Stays (without gone (listed bus_rows es))
  stays-without gone goes device never count =
      ap is_some (row_at-kept (first_key device) gone (listed bus_rows es) (no_owner can_go true gone (first_key device) goes never))
      ∙ are.stays device never count

  -- ---- a device of the layout that is not there

  -- its group comes and goes
  pub comes : (device : Device) → 0 < row_count buses device → has_row (key_at device 0) (listed bus_rows es) ≡ false
      → can_go device.group ≡ true
  comes device count free = true_from_ne_false (can_go device.group) (λ e. true≢false (sym (are.stays device e count) ∙ free))

-- ---- devices of a layout

entry_found : (bs : List Bus) (es : List (ℕ × BusRows)) (n : ℕ) → keys_of es ≡ map (λ bus. bus.number) bs
    → is_some (find (λ bus. bus.number == n) bs) ≡ true → is_some (entry_at n es) ≡ true
entry_found [] es n e h = absurd (true≢false (sym h))
entry_found (b ∷ bs) [] n e h = absurd (let l : length (b.number ∷ map (λ bus. bus.number) bs) ≡ 0 = ap length (sym e) in omega (arith, l))
entry_found (b ∷ bs) (x ∷ es) n e h =
    let first : x.0 ≡ b.number = ap (λ ks. slice_index_or ks 0 x.0) e in
    let rest : keys_of es ≡ map (λ bus. bus.number) bs = ap (drop 1) e in
    let later = entry_found bs es n rest in
    elim (cases_Bool (b.number == n)) [
      | inl t ↦ rw (first, eqb-true b.number n t, tied_itself nat_cmp_total n)
      | inr t ↦ grind (arith, later (rw t at h))
    ]

-- the bus of a device has its record
pub has_record : {buses : List Bus} {es : List (ℕ × BusRows)} → AreRowsOfLayout buses es → (device : Device) → 0 < row_count buses device
    → is_some (entry_at device.bus es) ≡ true
has_record {buses} {es} are device count =
    entry_found (server ∷ buses) es device.bus are.numbers (found_by (bus_at buses device.bus) count)
  where
    found_by : (o : Option Bus) → 0 < option_map_or (λ bus. rows_on bus device.group device.address) o 0 → is_some o ≡ true
    found_by o c = grind arith

-- ---- how they begin

module _ {X : Type 0} (n : ℕ) (x : X) where
  -- an entry above all others goes last
  pub insert_entry-last : (es : List (ℕ × X)) → AllByRecursion (λ k. k < n) (keys_of es) → insert_entry nat_cmp es n x ≡ es ++ (n, x) ∷ []
  insert_entry-last [] h = refl
  insert_entry-last (e ∷ es) h =
      ap (λ o. match_ordering o ((n, x) ∷ e ∷ es) ((e.0, x) ∷ es) (e ∷ insert_entry nat_cmp es n x)) (greater n e.0 h.0)
      ∙ ap (λ fs. e ∷ fs) (insert_entry-last es h.1)

pub before_rising : (bs : List Bus) → Rising bs → (i : ℕ) (d : Bus) → i < length bs
    → AllByRecursion (λ n. n < (slice_index_or bs i d).number) (map (λ bus. bus.number) (take i bs))
before_rising [] r i d h = absurd (omega (arith, h))
before_rising (b ∷ bs) r zero d h = tt
before_rising (b ∷ bs) r (suc i) d h =
    (each_at (λ c. b.number < c.number) bs r.0 i d (omega (arith, h)), before_rising bs r.1 i d (omega (arith, h)))

pub flat_map_last : {X Y : Type 0} (f : X → List Y) (xs : List X) (x : X) → flat_map f (xs ++ x ∷ []) ≡ flat_map f xs ++ f x
flat_map_last f xs x = flat_map-append f xs (x ∷ []) ∙ ap (λ zs. flat_map f xs ++ zs) (append-nil (f x))

-- what never goes begins with the registry
power_address : (a : ℕ) (o : Option Bus) → 0 < option_map_or (λ bus. rows_on bus group.Power a) o 0 → a ≡ 0
power_address a o h = grind (arith, eqb-true)

stays_on : (buses : List Bus) → IsLayout buses → (device : Device) (g : Group) → device.group ≡ g → can_go g ≡ false
    → 0 < row_count buses device → is_there device (opening buses 0) ≡ true
stays_on buses layout device group.Power e never count =
    let zeroth =
    power_address device.address (bus_at buses device.bus)
    (subst (λ g. 0 < option_map_or (λ bus. rows_on bus g device.address) (bus_at buses device.bus) 0) e count) in
    let same : device ≡ power_device device.bus = λ i. record { bus = device.bus; group = e i; address = zeroth i } in
    ap (λ d. is_there d (opening buses 0)) same
    ∙ (opening_whole buses layout 0 (omega arith)).power device.bus (subst (λ d. 0 < row_count buses d) same count)
stays_on buses layout device group.Fb e never count =
    let same : device ≡ fb_device device.bus device.address = λ i. record { bus = device.bus; group = e i; address = device.address } in
    ap (λ d. is_there d (opening buses 0)) same
    ∙ (opening_whole buses layout 0 (omega arith)).fb device.bus device.address (subst (λ d. 0 < row_count buses d) same count)
stays_on buses layout device other e never count = absurd (true≢false never)

pub stays-opening : (buses : List Bus) → IsLayout buses → (device : Device) → can_go device.group ≡ false → 0 < row_count buses device
    → is_there device (opening buses 0) ≡ true
stays-opening buses layout device never count = stays_on buses layout device device.group refl never count
