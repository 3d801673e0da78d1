-- The rows of a new device: by rising port, and at most the rows of the group.
use Rattle.srcp_rules.proofs.Names
use Names.{each-range, IsIn, ◌≡◌, ℕ, ◌<◌, ◌≤◌, false, List, [], ◌∷◌, length, map, slice_get, Option, Some, refl, sym, ap, subst, ◌∙◌, arith}
use Names.{none-some, same_Some, AllByRecursion, range_with_len, option_map_or, Group, Key, Device, Row, device_of, Bus, bus_at, row_count}
use Names.{rows_on, key_at, State, IsRising, has_row, AreNewRowsOf, AreRowsOf, most_rows, AreOfDevice}
use Rattle.std.proofs.lemmas.List.{length-map}
use Rattle.std.proofs.lemmas.List.FromFn.{length-map-range_with_len}
use Rattle.srcp_rules.proofs.StateLaws.{row_key, rising-range}
use Rattle.srcp_info.specs.Client.{IsRisingBy}
use Rattle.srcp_grammar.proofs.BusLaws.{each_unmapped}
use Rattle.srcp_rules.proofs.PutRowsLaws.{each_key, rising_unmapped}
use Rattle.srcp_rules.proofs.OrderLaws.{port_order}

module _ (device : Device) where
  abbrev pub IsFrom : ℕ → Row → Type 0
  IsFrom first row = (port : ℕ) × (first ≤ port) × (row.shown.key ≡ key_at device port)

  pub ports_from : (rows : State) (first n : ℕ) → map (λ row. row.shown.key) rows ≡ map (key_at device) (range_with_len first n)
      → AllByRecursion (IsFrom first) rows
  ports_from rows first n e =
      let P = λ (key : Key). (port : ℕ) × (first ≤ port) × (key ≡ key_at device port) in
      each_unmapped P row_key rows
      (subst (AllByRecursion P) (sym e) (each-range P (key_at device) first n (λ port low less. (port, low, refl))))

  pub ports_rise : (rows : State) (first n : ℕ) → map (λ row. row.shown.key) rows ≡ map (key_at device) (range_with_len first n)
      → IsRising rows
  ports_rise rows first n e =
      rising_unmapped rows
      (subst (IsRisingBy (λ key. key)) (sym e) (rising-range (λ key. key) (key_at device) (λ j k less. port_order device j k less) first n))

module _ (buses : List Bus) (device : Device) (rows : State) (h : AreRowsOf buses device rows) where
  -- all rows of a device are by rising port, each of the device
  new_device : 0 < length rows → AreOfDevice device.bus device.group device.address rows
  new_device some = record {
    rising = ports_rise device rows 0 (row_count buses device) h.keys;
    each = each_key buses device rows h (λ key. IsIn device.bus device.group key × (key.address ≡ device.address))
        (λ port less. ((refl, refl), refl));
    some = some;
  }

  counted : length rows ≡ row_count buses device
  counted = sym (length-map rows row_key) ∙ ap length h.keys ∙ length-map-range_with_len (key_at device) 0 (row_count buses device)

  -- and as few as its group has
  few_on : (o : Option Bus) (g : Group) → length rows ≡ option_map_or (λ bus. rows_on bus g device.address) o 0 → length rows ≤ 9
      → length rows ≤ most_rows g
  few_on o g e h = grind arith

-- if there is a first row, it is the device's, and the layout has the device
first_device : (buses : List Bus) (device : Device) (rows : State) (first : Row) → Some first ≡ slice_get rows 0
    → AreRowsOf buses device rows → (0 < length rows) × (0 < row_count buses device) × (device_of first.shown.key ≡ device)
first_device buses device [] first e h = absurd (none-some first (sym e))
first_device buses device (row ∷ rows) first e h =
    let count = counted buses device (row ∷ rows) h in
    let same : row ≡ first = same_Some row first (sym e) in (
      omega arith,
      omega (arith, count),
      ap (λ (other : Row). device_of other.shown.key) (sym same)
          ∙ (each_key buses device (row ∷ rows) h (λ key. device_of key ≡ device) (λ port less. refl)).0,
    )

-- the first of these rows is one of a device that is new, and these are all of it
pub record IsNew (buses : List Bus) (state : State) (first : Row) (added : State) : Type 0 where
  pub device : AreOfDevice first.shown.key.bus first.shown.key.group first.shown.key.address added
  pub few : length added ≤ most_rows first.shown.key.group
  pub count : 0 < row_count buses (device_of first.shown.key)
  pub free : (port : ℕ) → has_row (key_at (device_of first.shown.key) port) state ≡ false

pub is_new : (buses : List Bus) (state : State) (device : Device) (first : Row) (added : State) → Some first ≡ slice_get added 0
    → AreNewRowsOf buses state device added → IsNew buses state first added
is_new buses state device first added e h =
    let of = first_device buses device added first e h.all in
    record {
      device = subst (λ (d : Device). AreOfDevice d.bus d.group d.address added) (sym of.2) (new_device buses device added h.all of.0);
      few = subst (λ (d : Device). length added ≤ most_rows d.group) (sym of.2)
          (few_on buses device added h.all (bus_at buses device.bus) device.group (counted buses device added h.all) h.all.few);
      count = subst (λ d. 0 < row_count buses d) (sym of.2) of.1;
      free = λ port. ap (λ d. has_row (key_at d port) state) of.2 ∙ h.free port;
    }
