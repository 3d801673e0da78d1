-- Rows in entries by rising number: a look-up and a change at the entry of a number.
use Rattle.srcp_rules.proofs.Names
use Names.{cases_Bool, ◌≡◌, ℕ, ◌<◌, Bool, true, false, not, ◌&&◌, cond, List, [], ◌∷◌, ◌++◌, flat_map, Some, None, refl, sym, ap, subst}
use Names.{◌∙◌, arith, true≢false, nat_cmp_total, ranked, tied_itself, none-some, same_Some, AllByRecursion, keys_of, set_value}
use Names.{option_map_or, option_or, find-append, nat_cmp, is_eq, is_at, entries_between, Included, Unbounded, Ordering, Less, Equal}
use Names.{Greater, Key, Row, Cursor, has_reached, all_append, all_filter, nat_tie, State, row_at, row_after, listed, AreSorted, entry_at}
use Names.{false_from_ne_true, weaken, IfSome, IsSome, inl, inr, same_key, same_key-true}
use Rattle.std.proofs.lemmas.Bool.{cases_eq}
use Rattle.std.proofs.lemmas.Cmp.{eq_by_cmp_equiv}
use Rattle.std.proofs.lemmas.Map.{lookup-set_value}
use Rattle.std.specs.List.Sorted.{IsStrictlySortedBy}
use Rattle.std.specs.Ordering.{eq_by_cmp, is_le}
use Rattle.std.specs.Prelude.{◌⊎◌}
use Rattle.std.specs.BTreeMap.Range.{range_contains}
use Rattle.srcp_rules.proofs.PutLaws.{find_past, find_before, find_behind}

-- ---- numbers

above_of : (m n : ℕ) → nat_cmp m n ≡ Greater → n < m
above_of m n e = ranked m n Greater (sym e)

tied : (m n : ℕ) (o : Ordering) → nat_cmp m n ≡ o → is_eq o ≡ true → m ≡ n
tied m n o e h = grind (arith, nat_tie)

pub unequal : (m n : ℕ) → m < n → n ≡ m → ⊥
unequal m n h e = omega (arith, h, e)

-- keys of two numbers are two
pub other_key : (tag : Key → ℕ) (a b : Key) → (tag a ≡ tag b → ⊥) → same_key a b ≡ false
other_key tag a b h = false_from_ne_true (same_key a b) (λ e. h (ap tag (same_key-true a b e)))

-- the test of a key finds it
apart : (m n : ℕ) → is_eq (nat_cmp m n) ≡ false → m ≡ n → ⊥
apart m n e p = true≢false (sym (ap is_eq (tied_itself nat_cmp_total m)) ∙ ap (λ k. is_eq (nat_cmp m k)) p ∙ e)

-- ---- entries by number

-- all entries have greater numbers
abbrev pub AreAbove : {X : Type 0} → ℕ → List (ℕ × X) → Type 0
AreAbove n es = AllByRecursion (λ k. nat_cmp n k ≡ Less) (keys_of es)

module _ {X : Type 0} where
  -- no entry has a number below all of them
  pub none_above : (n : ℕ) (es : List (ℕ × X)) → AreAbove n es → entry_at n es ≡ None
  none_above n [] h = refl
  none_above n (e ∷ es) h = rw h.0 (none_above n es h.1)

  module _ (Q : ℕ → X → Type 0) where
    abbrev Each : List (ℕ × X) → Type 0
    Each es = AllByRecursion (λ e. Q e.0 e.1) es

    -- what holds of each entry holds of the one that is found
    pub entry_holds : (n : ℕ) (es : List (ℕ × X)) → Each es → (x : X) → entry_at n es ≡ Some x → Q n x
    entry_holds n [] a x h = absurd (none-some x h)
    entry_holds n (e ∷ es) a x h = grind (arith, entry_holds n es a.1 x, nat_tie)

    -- what holds of each entry that is found holds of each
    each_entry : (es : List (ℕ × X)) → AreSorted es → ((n : ℕ) (x : X) → entry_at n es ≡ Some x → Q n x) → Each es
    unfolding IsStrictlySortedBy
    each_entry [] s h = tt
    each_entry (e ∷ es) s h = (
      h e.0 e.1 (rw (tied_itself nat_cmp_total e.0)),
      each_entry es s.1 (λ n x found.
          let behind : is_eq (nat_cmp n e.0) ≡ false =
          false_from_ne_true _ (λ t.
          none-some x (sym (none_above n es (subst (λ k. AreAbove k es) (sym (tied n e.0 _ refl t)) s.0)) ∙ found)) in
          h n x (rw behind found)),
    )

    -- what holds of each entry, and of that of one number after it changed, holds of each then
    pub each-changed : {n : ℕ} (es after : List (ℕ × X)) → Each es → AreSorted after
        → ((m : ℕ) → (m ≡ n → ⊥) → entry_at m after ≡ entry_at m es) → IfSome (entry_at n after) (Q n) → Each after
    each-changed {n} es after each risen others here = each_entry after risen (λ m x found. by m x found (cases_eq m n))
      where
        by : (m : ℕ) (x : X) → entry_at m after ≡ Some x → (m ≡ n) ⊎ (m ≡ n → ⊥) → Q m x
        by m x found (inl same) =
            subst (λ k. Q k x) (sym same) (subst (λ o. IfSome o (Q n)) (ap (λ k. entry_at k after) (sym same) ∙ found) here)
        by m x found (inr apart) = entry_holds m es each x (sym (others m apart) ∙ found)

-- the entries after a value is set at a number that has one
module _ {X : Type 0} (n : ℕ) (w x : X) (es after : List (ℕ × X)) (found : Some x ≡ entry_at n es)
    (is : after ≡ set_value (is_at (nat_cmp n)) es w) where
  at_each : (m : ℕ) → entry_at m after ≡ cond (is_eq (nat_cmp n m)) (Some w) (entry_at m es)
  at_each m =
      ap (entry_at m) is
      ∙ lookup-set_value {eq = eq_by_cmp nat_cmp} (eq_by_cmp_equiv nat_cmp_total) (is_at (nat_cmp n))
      (λ a b t. ap (λ k. is_eq (nat_cmp k b)) (tied n a _ refl t)) m w es (subst IsSome found refl)

  pub set_other : (m : ℕ) → (m ≡ n → ⊥) → entry_at m after ≡ entry_at m es
  set_other m apart = at_each m ∙ rw (false_from_ne_true (is_eq (nat_cmp n m)) (λ t. apart (sym (tied n m _ refl t))))

  pub set_same : entry_at n after ≡ Some w
  set_same = at_each n ∙ rw (tied_itself nat_cmp_total n)

-- ---- their rows

-- the rows of the entry at a number, none if there is no entry
abbrev pub rows_at : {X : Type 0} → (X → State) → ℕ → List (ℕ × X) → State
rows_at rows n es = option_map_or rows (entry_at n es) []

module _ {X : Type 0} (rows : X → State) (tag : Key → ℕ) (P : Key → Type 0) where
  -- the rows of an entry have its number
  abbrev pub IsTagged : ℕ × X → Type 0
  IsTagged e = AllByRecursion (λ row. P row.shown.key × (tag row.shown.key ≡ e.0)) (rows e.1)

  abbrev pub Above : ℕ → State → Type 0
  Above n ys = AllByRecursion (λ row. P row.shown.key × (n < tag row.shown.key)) ys

  -- the rows of entries above a number are above it
  pub listed_above : (n : ℕ) (es : List (ℕ × X)) → AllByRecursion IsTagged es → AreAbove n es → Above n (listed rows es)
  listed_above n [] a h = tt
  listed_above n (e ∷ es) a h =
      let low = ranked n e.0 Less (sym h.0) in
      all_append (λ row. P row.shown.key × (n < tag row.shown.key)) (rows e.1) (listed rows es)
      (weaken (rows e.1) a.0 (λ row t. (t.0, omega (arith, t.1, low)))) (listed_above n es a.1 h.1)

  -- ---- looking up

  module _ (key : Key) where
    past_entry : (e : ℕ × X) → (tag key ≡ e.0 → ⊥) → IsTagged e → AllByRecursion (λ row. same_key row.shown.key key ≡ false) (rows e.1)
    past_entry e h a = weaken (rows e.1) a (λ row t. other_key tag row.shown.key key (λ p. h (sym p ∙ t.1)))

    past_rest : (es : List (ℕ × X)) → AllByRecursion IsTagged es → AreAbove (tag key) es
        → AllByRecursion (λ row. same_key row.shown.key key ≡ false) (listed rows es)
    past_rest es a h =
        weaken (listed rows es) (listed_above (tag key) es a h)
        (λ row t. other_key tag row.shown.key key (λ p. unequal (tag key) (tag row.shown.key) t.1 p))

    -- the row at a key is that of the entry of its number
    pub row_at-listed : (es : List (ℕ × X)) → AllByRecursion IsTagged es → AreSorted es
        → row_at key (listed rows es) ≡ row_at key (rows_at rows (tag key) es)
    unfolding IsStrictlySortedBy
    row_at-listed [] a s = refl
    row_at-listed (e ∷ es) a s = elim (cases_Bool (is_eq (nat_cmp (tag key) e.0))) [
      | inl q ↦ rw q (find_before (λ row. same_key row.shown.key key) (rows e.1) (listed rows es)
          (past_rest es a.1 (subst (λ n. AreAbove n es) (sym (tied (tag key) e.0 _ refl q)) s.0)))
      | inr q ↦ rw q (find_past (λ row. same_key row.shown.key key) (rows e.1) (listed rows es) (past_entry e (apart (tag key) e.0 q) a.0)
          ∙ row_at-listed es a.1 s.1)
    ]

  -- ---- the row after a cursor

  module _ (cursor : Cursor) (n : ℕ) (reached : (key : Key) → P key → tag key < n → has_reached cursor key ≡ true) where
    abbrev inside : ℕ → Bool
    inside m = range_contains nat_cmp (Included n) Unbounded m

    outside_of : (m : ℕ) (o : Ordering) → nat_cmp n m ≡ o → (is_le o && true) ≡ false → m < n
    outside_of m o e h = grind (arith, above_of)

    all_reached : (e : ℕ × X) → e.0 < n → IsTagged e → AllByRecursion (λ row. not (has_reached cursor row.shown.key) ≡ false) (rows e.1)
    all_reached e h a = weaken (rows e.1) a (λ row t. ap not (reached row.shown.key t.0 (omega (arith, h, t.1))))

    -- entries whose rows the cursor has reached may be left out
    pub row_after-listed : (es : List (ℕ × X)) → AllByRecursion IsTagged es
        → row_after cursor (listed rows es) ≡ row_after cursor (listed rows (entries_between nat_cmp (Included n) Unbounded es))
    row_after-listed [] a = refl
    row_after-listed (e ∷ es) a =
        let rest = entries_between nat_cmp (Included n) Unbounded es in
        let test = λ (row : Row). not (has_reached cursor row.shown.key) in
        elim (cases_Bool (inside e.0)) [
          | inl q ↦ rw q (find_behind test (rows e.1) (listed rows es) (listed rows rest) (row_after-listed es a.1))
          | inr q ↦ rw q (find_past test (rows e.1) (listed rows es) (all_reached e (outside_of e.0 (nat_cmp n e.0) refl q) a.0)
              ∙ row_after-listed es a.1)
        ]

    -- a row that the entry of the number has beyond the cursor is the first of all
    pub row_after-own : (x : X) (row : Row) → row_after cursor (rows x) ≡ Some row
        → (es : List (ℕ × X)) → AllByRecursion IsTagged es → AreSorted es → entry_at n es ≡ Some x
        → row_after cursor (listed rows es) ≡ Some row
    unfolding IsStrictlySortedBy
    row_after-own x row is [] a s h = absurd (none-some x h)
    row_after-own x row is (e ∷ es) a s h = by (nat_cmp n e.0) refl (row_after-own x row is es a.1 s.1) h
      where
        by : (o : Ordering) → nat_cmp n e.0 ≡ o → (entry_at n es ≡ Some x → row_after cursor (listed rows es) ≡ Some row)
            → cond (is_eq o) (Some e.1) (entry_at n es) ≡ Some x → row_after cursor (rows e.1 ++ listed rows es) ≡ Some row
        by Less p ih h = absurd (none-some x (sym (none_above n es (weaken (keys_of es) s.0 (λ k f. nat_cmp_total.trans n e.0 k p f))) ∙ h))
        by Equal p ih h = rw (find-append, same_Some e.1 x h, is)
        by Greater p ih h =
            find_past (λ row. not (has_reached cursor row.shown.key)) (rows e.1) (listed rows es) (all_reached e (above_of n e.0 p) a.0)
            ∙ ih h

-- ---- walking along entries

module _ {E : Type 0} (rows : E → State) (cursor : Cursor) where
  -- the first entry has the row
  pub first_has : (es rest : List E) (e : E) → es ≡ e ∷ rest → (row : Row) → Some row ≡ row_after cursor (rows e)
      → Some row ≡ row_after cursor (flat_map rows es)
  first_has es rest e is row h =
      ap (λ o. option_or o (row_after cursor (flat_map rows rest))) h
      ∙ sym (find-append (λ row. not (has_reached cursor row.shown.key)) (rows e) (flat_map rows rest))
      ∙ ap (λ fs. row_after cursor (flat_map rows fs)) (sym is)

  -- the first entry has none
  pub first_has_none : (es rest : List E) (e : E) → es ≡ e ∷ rest → None ≡ row_after cursor (rows e)
      → row_after cursor (flat_map rows es) ≡ row_after cursor (flat_map rows rest)
  first_has_none es rest e is h =
      ap (λ fs. row_after cursor (flat_map rows fs)) is
      ∙ find-append (λ row. not (has_reached cursor row.shown.key)) (rows e) (flat_map rows rest)
      ∙ ap (λ o. option_or o (row_after cursor (flat_map rows rest))) (sym h)

-- what holds of the rows of each entry holds of all
pub each-listed : {X : Type 0} (rows : X → State) (Q : Row → Type 0) (es : List (ℕ × X))
    → AllByRecursion (λ e. AllByRecursion Q (rows e.1)) es → AllByRecursion Q (listed rows es)
each-listed rows Q [] a = tt
each-listed rows Q (e ∷ es) a = all_append Q (rows e.1) (listed rows es) a.0 (each-listed rows Q es a.1)

-- entries between bounds are entries
pub each-between : {X : Type 0} (Q : ℕ × X → Type 0) (n : ℕ) (es : List (ℕ × X)) → AllByRecursion Q es
    → AllByRecursion Q (entries_between nat_cmp (Included n) Unbounded es)
each-between Q n es a = all_filter Q (λ e. range_contains nat_cmp (Included n) Unbounded e.0) es a
