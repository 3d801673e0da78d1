-- Laws of rows kept at their keys.
use Rattle.std.proofs.lemmas.Grind.{common_steps}
use Rattle.std.specs.Prelude.{◌≡◌, ℕ, ◌+◌, Bool, true, false, not, List, [], ◌∷◌, length, None, ⊤}
use Rattle.std.specs.BTreeMap.{insert_entry, is_at}
use Rattle.std.specs.BTreeMap.Range.{entries_between}
use Rattle.std.specs.List.{AllByRecursion, filter}
use Rattle.std.specs.List.Sorted.{IsStrictlySortedBy}
use Rattle.std.specs.Map.{keys_of, values_of, lookup, remove_entry}
use Rattle.std.specs.Ordering.{nat_cmp, ordering_then, is_gt}
use Rattle.std.specs.declared.cmp.Ordering.{Ordering}
use Rattle.std.specs.declared.cmp.Ordering.TheVariants.{Less, Equal, Greater}
use Rattle.std.specs.declared.ops.Bound.TheVariants.{Included, Unbounded}
use Rattle.std.proofs.Common.{refl, ap, sym, subst, arith}
use Rattle.std.proofs.lemmas.Bool.{both_ways, false_from_ne_true}
use Rattle.std.proofs.lemmas.Map.Keys.{sorted_head, sorted_tail}
use Rattle.srcp_info.specs.declared.key.Key.{Key}
use Rattle.srcp_info.specs.declared.key.Device.{Device}
use Rattle.srcp_info.specs.declared.change.Shown.{Shown}
use Rattle.srcp_info.specs.Key.{key_cmp, is_after, first_key, owns}
use Rattle.srcp_info.specs.Client.{AreAtKeys, IsRisingBy, put}
use Rattle.srcp_info.proofs.KeyLaws.{derived_key, key_order, key_cmp_total, key_tie, same_group}
use Rattle.srcp_info.proofs.KeyLaws.{owns-device_of, device_from_owns}
use Rattle.srcp_info.proofs.ClientLaws.{key_at, after_one_way, all_weaker, filter_every, put_between, put_over}

-- rows, each with the key that it stands at
abbrev pub Entries : Type 0
Entries = List (Key × Shown)

-- the order that is derived is the keys' order
pub same_order : derived_key ≡ key_cmp
same_order = λ i a b. key_order a b i

-- ---- rows by rising key

-- each row is above the key
abbrev AreAbove : Key → List Shown → Type 0
AreAbove k rows = AllByRecursion (λ row. key_cmp k row.key ≡ Less) rows

above_values : (k : Key) (es : Entries) → AreAtKeys es → AllByRecursion (λ q. key_cmp k q ≡ Less) (keys_of es) → AreAbove k (values_of es)
above_values k [] h a = grind arith
above_values k (e ∷ es) h a = grind (arith, above_values k es h.1 a.1)

-- if the keys rise, so do the rows
pub rising_values : (es : Entries) → AreAtKeys es → IsStrictlySortedBy key_cmp (keys_of es) → IsRisingBy key_at (values_of es)
rising_values [] h s = tt
rising_values (e ∷ es) h s = (
  subst (λ (k : Key). AreAbove k (values_of es)) h.0 (above_values e.0 es h.1 (sorted_head key_cmp e.0 (keys_of es) s)),
  rising_values es h.1 (sorted_tail key_cmp e.0 (keys_of es) s),
)

-- ---- a row that is put

-- it stands at its key
pub at_keys-insert : (x : Shown) (es : Entries) → AreAtKeys es → AreAtKeys (insert_entry key_cmp es x.key x)
at_keys-insert x [] h = grind (arith, common_steps, key_tie)
at_keys-insert x (e ∷ es) h = grind (arith, common_steps, key_tie, at_keys-insert x es h.1)

-- and among the rows as a client puts it
pub values-insert : (x : Shown) (es : Entries) → AreAtKeys es → IsRisingBy key_at (values_of es)
    → values_of (insert_entry key_cmp es x.key x) ≡ put x (values_of es)
values-insert x [] h r = refl
values-insert x (e ∷ es) h r = rw h.0 (by (values-insert x es h.1 r.1) (key_cmp x.key e.1.key) refl)
  where
    by : values_of (insert_entry key_cmp es x.key x) ≡ put x (values_of es) → (o : Ordering) → key_cmp x.key e.1.key ≡ o
        → values_of (insert_entry key_cmp ((e.1.key, e.1) ∷ es) x.key x) ≡ put x (values_of (e ∷ es))
    by more Less lt =
        let high = all_weaker _ _ (λ row above. key_cmp_total.trans x.key e.1.key row.key lt above) (values_of es) r.0 in
        rw lt (sym (rw lt at (put_between key_at x [] (values_of (e ∷ es)) tt (lt, high))))
    by more Equal eq =
        let same = sym (key_tie x.key e.1.key eq) in
        rw eq (sym (rw eq at (put_over key_at x [] e.1 (values_of es) same tt (subst (λ (k : Key). AreAbove k (values_of es)) same r.0))))
    by more Greater gt = rw (gt, after_one_way x.key e.1.key (ap is_gt gt)) (ap (λ (rows : List Shown). e.1 ∷ rows) more)

-- it is one more if its key is not there
pub length-insert : (k : Key) (v : Shown) (es : Entries) → lookup (is_at (key_cmp k)) es ≡ None
    → length (values_of (insert_entry key_cmp es k v)) ≡ length (values_of es) + 1
length-insert k v [] none = grind (arith, common_steps)
length-insert k v (e ∷ es) none = grind (arith, common_steps, length-insert k v es)

-- ---- rows that are taken out

same_key : (k q : Key) → is_at (key_cmp k) q ≡ true → k ≡ q
same_key k q at = grind (arith, common_steps, key_tie)

-- to take out a row that is left out anyway makes no difference
pub filter-remove : (out : Key → Bool) (k : Key) → out k ≡ true → (es : Entries)
    → filter (λ e. not (out e.0)) (remove_entry (is_at (key_cmp k)) es) ≡ filter (λ e. not (out e.0)) es
filter-remove out k own [] = grind (arith, common_steps, same_key)
filter-remove out k own (e ∷ es) = grind (arith, common_steps, same_key, filter-remove out k own es)

-- a filter by the keys is one of the rows
pub values-filter : (p : Key → Bool) (es : Entries) → AreAtKeys es
    → values_of (filter (λ e. p e.0) es) ≡ filter (λ row. p row.key) (values_of es)
values-filter p [] h = grind arith
values-filter p (e ∷ es) h = grind (arith, values-filter p es h.1)

-- ---- the rows of a device

-- a number between a number and itself is that number
squeezed : (m n : ℕ) (p q : Ordering) → is_gt (ordering_then (nat_cmp m n) p) ≡ false → ordering_then (nat_cmp n m) q ≡ Less
    → (m ≡ n) × (is_gt p ≡ false) × (q ≡ Less)
squeezed m n p q low high = grind arith

-- a key between a device's first and another of its keys is the device's too
between_owned : (device : Device) (low high : Key) → is_after (first_key device) low ≡ false → key_cmp low high ≡ Less
    → owns device high ≡ true → owns device low ≡ true
between_owned device low high from to own = grind (arith, common_steps, device_from_owns, squeezed, same_group, owns-device_of)

-- the first of these is not of the device
abbrev pub IsOfAnother : Device → Entries → Type 0
IsOfAnother device [] = ⊤
IsOfAnother device (e ∷ es) = owns device e.0 ≡ false

module _ (device : Device) where
  -- the entries from the device's first key on
  abbrev from_first : Entries → Entries
  from_first es = entries_between key_cmp (Included (first_key device)) Unbounded es

  -- each is of another device
  abbrev AreOfOthers : Entries → Type 0
  AreOfOthers es = AllByRecursion (λ e. not (owns device e.0) ≡ true) es

  above_others : (low : Key) → is_after (first_key device) low ≡ false → owns device low ≡ false
      → (es : Entries) → AllByRecursion (λ k. key_cmp low k ≡ Less) (keys_of es) → AreOfOthers es
  above_others low from other [] h = grind (arith, false_from_ne_true, both_ways, between_owned)
  above_others low from other (e ∷ es) h = grind (arith, false_from_ne_true, both_ways, between_owned, above_others low from other es h.1)

  -- a key below the device's first is not the device's
  below_first : (k : Key) → is_after (first_key device) k ≡ true → owns device k ≡ false
  below_first k after = grind arith

  all_others : (es : Entries) → IsStrictlySortedBy key_cmp (keys_of es) → IsOfAnother device (from_first es) → AreOfOthers es
  all_others [] s h = tt
  all_others (e ∷ es) s h =
      by_order (all_others es (sorted_tail key_cmp e.0 (keys_of es) s)) (key_cmp (first_key device) e.0) refl
    where
      from_here : is_after (first_key device) e.0 ≡ false → owns device e.0 ≡ false → AreOfOthers (e ∷ es)
      from_here from other = (ap not other, above_others e.0 from other es (sorted_head key_cmp e.0 (keys_of es) s))

      by_order : (IsOfAnother device (from_first es) → AreOfOthers es) → (o : Ordering) → key_cmp (first_key device) e.0 ≡ o
          → AreOfOthers (e ∷ es)
      by_order more Less lt = from_here (ap is_gt lt) (rw lt at h)
      by_order more Equal eq = from_here (ap is_gt eq) (rw eq at h)
      by_order more Greater gt = (ap not (below_first e.0 (ap is_gt gt)), more (rw gt at h))

  -- if the first entry from the device's first key on is not the device's, the device has none
  none_owned : (es : Entries) → IsStrictlySortedBy key_cmp (keys_of es) → IsOfAnother device (from_first es)
      → es ≡ filter (λ e. not (owns device e.0)) es
  none_owned es s h = grind (arith, filter_every, all_others)

  -- as a map by the derived order says it
  pub none_found : (es found : Entries) (from : Key) → from ≡ first_key device → IsStrictlySortedBy derived_key (keys_of es)
      → found ≡ entries_between derived_key (Included from) Unbounded es → IsOfAnother device found
      → es ≡ filter (λ e. not (owns device e.0)) es
  none_found es found from first s is other = grind (arith, none_owned, same_order)
