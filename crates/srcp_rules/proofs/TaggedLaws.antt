-- A change of the rows of a number, in entries by rising number, if keys go by this number.
use Rattle.srcp_rules.proofs.Names
use Names.{arith, ◌≡◌, ℕ, ◌<◌, not, List, [], ◌∷◌, Option, Some, None, refl, sym, ap, subst, ◌∙◌, inl, inr, AllByRecursion, Key, Device}
use Names.{key_cmp, owns, rising_filter, all_filter, State, IsRising, row_at, without, put_rows, AreSorted, entry_at, listed, option_map_or}
use Names.{false_from_ne_true, Less, true, weaken, set_value, is_at, nat_cmp, IfSome}
use Rattle.std.proofs.lemmas.Bool.{cases_eq}
use Rattle.std.specs.List.Sorted.{IsStrictlySortedBy}
use Rattle.std.specs.Prelude.{◌⊎◌}
use Rattle.srcp_rules.proofs.ListedLaws.{IsTagged, each-changed, each-listed, entry_holds, listed_above, other_key, row_at-listed, rows_at}
use Rattle.srcp_rules.proofs.ListedLaws.{set_other, set_same}
use Rattle.srcp_rules.proofs.PutRowsLaws.{all-put_rows, rising-put_rows, same_rows, still_alike, put_rows-elsewhere}
use Rattle.srcp_rules.proofs.StateLaws.{row_key, rising-append, row_at-kept, row_at-without}

module _ (tag : Key → ℕ) (P : Key → Type 0) (n : ℕ) where
  -- rows of the number
  abbrev pub AreOf : State → Type 0
  AreOf state = AllByRecursion (λ row. P row.shown.key × (tag row.shown.key ≡ n)) state

  -- a change of rows of the number: it goes by the row at each key
  pub record IsChangeAt (op : State → State) : Type 0 where
    pub rising : (state : State) → IsRising state → IsRising (op state)
    pub own : (state : State) → AreOf state → AreOf (op state)
    pub alike : (key : Key) (a b : State) → row_at key a ≡ row_at key b → row_at key (op a) ≡ row_at key (op b)
    pub others : (key : Key) (state : State) → (tag key ≡ n → ⊥) → row_at key (op state) ≡ row_at key state

  -- rows of the number are put
  pub puts : (added : State) → AreOf added → IsChangeAt (put_rows added)
  puts added new = record {
    rising = rising-put_rows added;
    own = λ state each. all-put_rows (λ row. P row.shown.key × (tag row.shown.key ≡ n)) added state new each;
    alike = λ key a b e. still_alike key added a b e;
    others = λ key state other.
        put_rows-elsewhere key added state (weaken added new (λ row t. other_key tag row.shown.key key (λ e. other (sym e ∙ t.1))));
  }

  -- a device of the number is taken out
  pub drops : (device : Device) → ((key : Key) → owns device key ≡ true → tag key ≡ n) → IsChangeAt (without device)
  drops device its = record {
    rising = λ state h. rising_filter row_key (λ row. not (owns device row.shown.key)) state h;
    own = λ state each. all_filter _ (λ row. not (owns device row.shown.key)) state each;
    alike = λ key a b e. rw (row_at-without key device a, row_at-without key device b, e);
    others = λ key state other. row_at-kept key device state (false_from_ne_true _ (λ e. other (its key e)));
  }

module _ {X : Type 0} (rows : X → State) (tag : Key → ℕ) (P : Key → Type 0)
    (order : (a b : Key) → P a → P b → tag a < tag b → key_cmp a b ≡ Less) where
  -- an entry has rows of its number, by rising key
  abbrev pub IsEntry : ℕ → X → Type 0
  IsEntry n x = AreOf tag P n (rows x) × IsRising (rows x)

  abbrev pub AreEntries : List (ℕ × X) → Type 0
  AreEntries es = AllByRecursion (λ e. IsEntry e.0 e.1) es

  pub tagged : (es : List (ℕ × X)) → AreEntries es → AllByRecursion (IsTagged rows tag P) es
  tagged es each = weaken es each (λ e t. t.0)

  -- the rows of all entries are of P, and rise
  pub listed-each : (es : List (ℕ × X)) → AreEntries es → AllByRecursion (λ row. P row.shown.key) (listed rows es)
  listed-each es each = each-listed rows (λ row. P row.shown.key) es (weaken es each (λ e h. weaken (rows e.1) h.0 (λ row t. t.0)))

  pub listed-rising : (es : List (ℕ × X)) → AreEntries es → AreSorted es → IsRising (listed rows es)
  unfolding IsStrictlySortedBy
  listed-rising [] each s = tt
  listed-rising (e ∷ es) each s =
      rising-append row_key (rows e.1) (listed rows es) each.0.1 (listed-rising es each.1 s.1)
      (weaken (rows e.1) each.0.0 (λ x t. weaken (listed rows es) (listed_above rows tag P e.0 es (tagged es each.1) s.0)
      (λ y u. order x.shown.key y.shown.key t.0 u.0 (subst (λ n. n < tag y.shown.key) (sym t.1) u.1))))

  module _ {n : ℕ} {op : State → State} (change : IsChangeAt tag P n op) (es after : List (ℕ × X)) (each : AreEntries es)
      (sorted : AreSorted es) (risen : AreSorted after) (others : (m : ℕ) → (m ≡ n → ⊥) → entry_at m after ≡ entry_at m es)
      (here : rows_at rows n after ≡ op (rows_at rows n es)) where
    before : (o : Option X) → entry_at n es ≡ o → AreOf tag P n (option_map_or rows o []) × IsRising (option_map_or rows o [])
    before None e = (tt, tt)
    before (Some x) e = entry_holds IsEntry n es each x e

    some : (o : Option X) → AreOf tag P n (option_map_or rows o []) × IsRising (option_map_or rows o []) → IfSome o (IsEntry n)
    some o h = grind arith

    fresh : AreEntries after
    fresh =
        let old = before (entry_at n es) refl in
        each-changed IsEntry es after each risen others
        (some (entry_at n after)
        (subst (λ s. AreOf tag P n s × IsRising s) (sym here) (change.own _ old.0, change.rising _ old.1)))

    looked : (key : Key) → row_at key (listed rows es) ≡ row_at key (rows_at rows (tag key) es)
    looked key = row_at-listed rows tag P key es (tagged es each) sorted

    look : (key : Key) → (tag key ≡ n) ⊎ (tag key ≡ n → ⊥) → row_at key (rows_at rows (tag key) after) ≡ row_at key (op (listed rows es))
    look key (inl same) =
        ap (λ k. row_at key (rows_at rows k after)) same ∙ ap (row_at key) here
        ∙ change.alike key _ _ (sym (looked key ∙ ap (λ k. row_at key (rows_at rows k es)) same))
    look key (inr apart) =
        ap (λ o. row_at key (option_map_or rows o [])) (others (tag key) apart) ∙ sym (looked key)
        ∙ sym (change.others key (listed rows es) apart)

    -- so the rows of all entries change, if those of the number do and the other entries stay
    pub listed-changed : listed rows after ≡ op (listed rows es)
    listed-changed =
        same_rows (listed rows after) (op (listed rows es)) (listed-rising after fresh risen)
        (change.rising (listed rows es) (listed-rising es each sorted))
        (λ key. row_at-listed rows tag P key after (tagged after fresh) risen ∙ look key (cases_eq (tag key) n))

  -- if a value is set
  pub listed-set_value : {n : ℕ} {op : State → State} → IsChangeAt tag P n op → (es after : List (ℕ × X)) → AreEntries es → AreSorted es
      → AreSorted after → (w x : X) → Some x ≡ entry_at n es → after ≡ set_value (is_at (nat_cmp n)) es w → rows w ≡ op (rows x)
      → listed rows after ≡ op (listed rows es)
  listed-set_value {n} {op} change es after each sorted risen w x found is same =
      listed-changed change es after each sorted risen (set_other n w x es after found is)
      (ap (λ o. option_map_or rows o []) (set_same n w x es after found is) ∙ same ∙ ap (λ o. op (option_map_or rows o [])) found)

  -- and if the number has no entry
  pub listed-absent : {n : ℕ} {op : State → State} → IsChangeAt tag P n op → op [] ≡ [] → (es : List (ℕ × X)) → AreEntries es → AreSorted es
      → None ≡ entry_at n es → listed rows es ≡ op (listed rows es)
  listed-absent {n} {op} change none es each sorted e =
      listed-changed change es es each sorted sorted (λ m apart. refl)
      (ap (λ o. option_map_or rows o []) (sym e) ∙ sym none ∙ ap (λ o. op (option_map_or rows o [])) e)
