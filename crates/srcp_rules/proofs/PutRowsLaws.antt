-- Several rows put in turn, and a device made afresh in place.
use Rattle.std.specs.Prelude.{◌⊎◌}
use Rattle.srcp_rules.proofs.Names
use Names.{cases_Bool, inl, inr, each-range, find-range, find-map, option_map, find, is_some, ◌≡◌, ℕ, ◌<◌, Bool, true, false, not, List, []}
use Names.{◌∷◌, map, Option, Some, None, Result, OnOk, OnErr, refl, sym, ap, subst, ◌∙◌, true≢false, arith, AllByRecursion}
use Names.{ordering_reverse, Less, Greater, Key, Device, Row, key_cmp, device_of, first_key, owns, key_cmp_total, device_from_owns}
use Names.{rising_put, rising_filter, Bus, row_count, key_at, State, IsRising, IsWhole, IsRowOf, row_at, has_row, is_there, put_row, put_of}
use Names.{without, updated_all, AreRowsOf, put_rows, found_holds, each_and, none-some, is_eq, weaken, all_put, same_key, same_key-itself}
use Names.{same_key-true}
use Rattle.srcp_info.specs.Client.{IsRisingBy}
use Rattle.srcp_rules.proofs.StateLaws.{row_key, row_at_key, row_at-first, row_at-put_row, row_at-put_other, row_at-without}
use Rattle.srcp_rules.proofs.StateLaws.{has_row-put_row}
use Rattle.srcp_grammar.proofs.BusLaws.{each_unmapped}
use Rattle.srcp_rules.proofs.PutLaws.{find_none}

-- ---- two registries with the same rows

-- a row that is found is the first, or stands above it
first_or_above : (row : Row) (state : State) → IsRising (row ∷ state) → (key : Key) (other : Row) → row_at key (row ∷ state) ≡ Some other
    → (row ≡ other) ⊎ (key_cmp row.shown.key other.shown.key ≡ Less)
first_or_above row state rising key other e =
    found_holds (λ later. (row ≡ later) ⊎ (key_cmp row.shown.key later.shown.key ≡ Less)) (λ later. same_key later.shown.key key)
    (row ∷ state) (inl refl, weaken state rising.0 (λ later less. inr less)) other e

-- the first rows of two registries with the same rows are one
same_first : (x y : Row) (xs ys : State) → IsRising (x ∷ xs) → IsRising (y ∷ ys) → ((key : Key) → row_at key (x ∷ xs) ≡ row_at key (y ∷ ys))
    → x ≡ y
same_first x y xs ys rx ry same =
    by (first_or_above y ys ry x.shown.key x (sym (same x.shown.key) ∙ row_at-first x xs))
    (first_or_above x xs rx y.shown.key y (same y.shown.key ∙ row_at-first y ys))
  where
    by : (y ≡ x) ⊎ (key_cmp y.shown.key x.shown.key ≡ Less) → (x ≡ y) ⊎ (key_cmp x.shown.key y.shown.key ≡ Less) → x ≡ y
    by (inl e) f = sym e
    by (inr e) (inl f) = f
    by (inr e) (inr f) =
        let bad : Less ≡ Greater = sym e ∙ key_cmp_total.antisymm y.shown.key x.shown.key ∙ ap ordering_reverse f in cc

-- no row of a key stands above that key
none_above : (row : Row) (state : State) → IsRising (row ∷ state) → row_at row.shown.key state ≡ None
none_above row state rising =
    find_none (λ other. same_key other.shown.key row.shown.key) state
    (weaken state rising.0 (λ other less.
    ap is_eq (key_cmp_total.antisymm other.shown.key row.shown.key ∙ ap ordering_reverse less)))

pub same_rows : (xs ys : State) → IsRising xs → IsRising ys → ((key : Key) → row_at key xs ≡ row_at key ys) → xs ≡ ys
same_rows [] [] rx ry same = refl
same_rows [] (y ∷ ys) rx ry same = absurd (none-some y (same y.shown.key ∙ row_at-first y ys))
same_rows (x ∷ xs) [] rx ry same = absurd (none-some x (sym (same x.shown.key) ∙ row_at-first x xs))
same_rows (x ∷ xs) (y ∷ ys) rx ry same =
    let first : x ≡ y = same_first x y xs ys rx ry same in
    (λ i. first i ∷ same_rows xs ys rx.1 ry.1 (λ key. rest first key (same_key x.shown.key key) refl) i)
  where
    rest : x ≡ y → (key : Key) → (b : Bool) → same_key x.shown.key key ≡ b → row_at key xs ≡ row_at key ys
    rest first key true s =
        let mine : x.shown.key ≡ key = same_key-true x.shown.key key s in
        subst (λ k. row_at k xs ≡ row_at k ys) mine
        (none_above x xs rx ∙ sym (ap (λ (r : Row). row_at r.shown.key ys) first ∙ none_above y ys ry))
    rest first key false s =
        let other : same_key y.shown.key key ≡ false = sym (ap (λ (r : Row). same_key r.shown.key key) first) ∙ s in
        rw (s, other) at (same key)

-- ---- rows that are put

pub updated_all-puts : (rows : List Row) (state : State) → updated_all (map put_of rows) state ≡ put_rows rows state
updated_all-puts [] state = refl
updated_all-puts (row ∷ rows) state = updated_all-puts rows (put_row row state)

pub rising-put_rows : (rows : List Row) (state : State) → IsRising state → IsRising (put_rows rows state)
rising-put_rows [] state h = h
rising-put_rows (row ∷ rows) state h = rising-put_rows rows (put_row row state) (rising_put row_key row state h)

-- what holds if they are added, and if memory is refused, holds either way
pub added_or : {E : Type 0} (P : State → Type 0) (added before after : State) (r : Result (Unit {0}) E)
    → OnOk r (after ≡ put_rows added before) → OnErr r (after ≡ before) → P (put_rows added before) → P before → P after
added_or P added before after r e f new old = grind arith

-- what holds of each row, and of each that is put, holds of each then
pub all-put_rows : (P : Row → Type 0) (rows state : State) → AllByRecursion P rows → AllByRecursion P state
    → AllByRecursion P (put_rows rows state)
all-put_rows P [] state new h = h
all-put_rows P (row ∷ rows) state new h = all-put_rows P rows (put_row row state) new.1 (all_put row_key P row state new.0 h)

-- other keys are left as they are
pub put_rows-elsewhere : (key : Key) (rows state : State) → AllByRecursion (λ row. same_key row.shown.key key ≡ false) rows
    → row_at key (put_rows rows state) ≡ row_at key state
put_rows-elsewhere key [] state h = refl
put_rows-elsewhere key (row ∷ rows) state h = put_rows-elsewhere key rows (put_row row state) h.1 ∙ row_at-put_other key row state h.0

pub has_row-put_rows : (key : Key) (rows : List Row) (state : State) → has_row key state ≡ true → has_row key (put_rows rows state) ≡ true
has_row-put_rows key [] state h = h
has_row-put_rows key (row ∷ rows) state h = has_row-put_rows key rows (put_row row state) (has_row-put_row key row state h)

-- what is the same at a key stays the same
pub still_alike : (key : Key) (rows : List Row) (a b : State) → row_at key a ≡ row_at key b
    → row_at key (put_rows rows a) ≡ row_at key (put_rows rows b)
still_alike key [] a b e = e
still_alike key (row ∷ rows) a b e =
    still_alike key rows (put_row row a) (put_row row b) (rw (row_at-put_row key row a, row_at-put_row key row b, e))

-- and the same it is at each key that is put
put_alike : (key : Key) (rows : List Row) (a b : State) → has_row key rows ≡ true
    → row_at key (put_rows rows a) ≡ row_at key (put_rows rows b)
put_alike key [] a b e = absurd (true≢false (sym e))
put_alike key (row ∷ rows) a b e = elim (cases_Bool (same_key row.shown.key key)) [
  | inl s ↦ still_alike key rows (put_row row a) (put_row row b) (rw (row_at-put_row key row a, row_at-put_row key row b, s))
  | inr s ↦ put_alike key rows (put_row row a) (put_row row b) (rw s at e)
]

-- which is there afterwards
pub put_there : (key : Key) (rows : List Row) (state : State) → has_row key rows ≡ true → has_row key (put_rows rows state) ≡ true
put_there key rows state e = ap is_some (put_alike key rows state rows e) ∙ has_row-put_rows key rows rows e

-- ---- all the rows of a device

pub rising_unmapped : (rows : List Row) → IsRisingBy (λ key. key) (map row_key rows) → IsRising rows
rising_unmapped [] h = tt
rising_unmapped (row ∷ rows) h = (each_unmapped (λ key. key_cmp row.shown.key key ≡ Less) row_key rows h.0, rising_unmapped rows h.1)

is_some-mapped : {X Y : Type 0} (f : X → Y) (o : Option X) → is_some o ≡ is_some (option_map f o)
is_some-mapped f o = grind arith

module _ (buses : List Bus) (device : Device) (rows : List Row) (all : AreRowsOf buses device rows) where
  -- what holds of the keys of the device holds of theirs
  pub each_key : (P : Key → Type 0) → ((port : ℕ) → port < row_count buses device → P (key_at device port))
      → AllByRecursion (λ row. P row.shown.key) rows
  each_key P h =
      each_unmapped P row_key rows
      (subst (AllByRecursion P) (sym all.keys)
      (each-range P (key_at device) 0 (row_count buses device) (λ port low less. h port (omega (arith, less)))))

  pub puts_all : (port : ℕ) → port < row_count buses device → has_row (key_at device port) rows ≡ true
  puts_all port h =
      let t = λ (key : Key). same_key key (key_at device port) in
      let found : is_some (find t (map row_key rows)) ≡ true =
      rw all.keys (find-range t (key_at device) port 0 (row_count buses device) (omega arith) (omega (arith, h))
      (same_key-itself (key_at device port))) in
      is_some-mapped row_key (find (λ row. t row.shown.key) rows) ∙ ap is_some (sym (find-map row_key t rows)) ∙ found

module _ (buses : List Bus) (device : Device) (rows : List Row) (all : AreRowsOf buses device rows) (state : State)
    (whole : IsWhole buses state) where
  -- each of them is there if the device is
  pub each_there : is_there device state ≡ true → AllByRecursion (λ row. IsRowOf buses row × (has_row row.shown.key state ≡ true)) rows
  each_there there =
      each_and _ _ rows all.each
      (each_key buses device rows all (λ key. has_row key state ≡ true) (whole.complete (first_key device) there))

  -- no other row of the device is
  covered : (key : Key) → owns device key ≡ true → (o : Option Row) → row_at key state ≡ o → (has_row key rows ≡ true → ⊥) → o ≡ None
  covered key mine None e apart = refl
  covered key mine (Some row) e apart =
      let same : device_of key ≡ device = device_from_owns device key mine in
      let place = subst (λ k. k.port < row_count buses (device_of k)) (row_at_key key state row e) (whole.rows key row e).place in
      let within : key.port < row_count buses device = subst (λ d. key.port < row_count buses d) same place in
      let at : key_at device key.port ≡ key =
      λ i. record { bus = (sym same i).bus; group = (sym same i).group; address = (sym same i).address; port = key.port } in
      absurd (apart (subst (λ k. has_row k rows ≡ true) at (puts_all buses device rows all key.port within)))

  look : (key : Key) (t : Bool) → has_row key rows ≡ t
      → row_at key (put_rows rows (without device state)) ≡ row_at key (put_rows rows state)
  look key true e = put_alike key rows (without device state) state e
  look key false e =
      still_alike key rows (without device state) state (row_at-without key device state ∙ elim (cases_Bool (owns device key)) [
        | inl mine ↦ rw mine (sym (covered key mine (row_at key state) refl (λ t. true≢false (sym t ∙ e))))
        | inr other ↦ rw other
      ])

  -- so they may be put over the old ones as well as after these are taken out
  pub put_rows-without : put_rows rows (without device state) ≡ put_rows rows state
  put_rows-without =
      same_rows (put_rows rows (without device state)) (put_rows rows state)
      (rising-put_rows rows (without device state) (rising_filter row_key (λ row. not (owns device row.shown.key)) state whole.rising))
      (rising-put_rows rows state whole.rising) (λ key. look key (has_row key rows) refl)
