-- Lists in the order of a test, split at an index.
use Rattle.std.specs.Prelude.{◌≡◌, ℕ, zero, suc, ◌<◌, ◌≤◌, Bool, true, false, List, [], ◌∷◌, length, take, drop, find, insert, remove}
use Rattle.std.specs.Prelude.{slice_index_or, None}
use Rattle.std.specs.List.{AllByRecursion}
use Rattle.std.specs.List.Sorted.{IsPartitionedBy, IsSortedBy, IsPartitionPoint}
use Rattle.std.specs.Bool.{then_some}
use Rattle.std.specs.Cmp.{IsStrictWeakOrder}
use Rattle.std.proofs.Common.{arith, drop-cons}
use Rattle.std.proofs.lemmas.List.{take-append-drop, drop_all, take_all}
use Rattle.std.proofs.lemmas.List.Elements.{recursion_from_All}
use Rattle.std.proofs.lemmas.List.Sorted.{sorted_far}
use Rattle.srcp_index.specs.Ordered.{IsInOrder, insert_by, remove_by}
use Rattle.srcp_rules.proofs.Names.{weaken, ap, sym, ◌∙◌}
use Rattle.srcp_index.proofs.Ordered.{ranked_drop}
use Rattle.srcp_grammar.proofs.PlaceLaws as place
use Rattle.srcp_grammar.proofs.PlaceLaws.{front_each, back_each}
use Rattle.srcp_rules.proofs.PutLaws.{find_none, find_past}

-- up to the index all pass the test, and from there on none does
abbrev pub IsSplit : {X : Type 0} → (X → Bool) → List X → ℕ → Type 0
IsSplit p xs i = AllByRecursion (λ x. p x ≡ true) (take i xs) × AllByRecursion (λ x. p x ≡ false) (drop i xs)

module _ {X : Type 0} (lt : X → X → Bool) where
  -- what a sort ensures
  pub from_sorted : IsStrictWeakOrder lt → (xs : List X) → IsSortedBy lt xs → IsInOrder lt xs
  from_sorted weak [] s = tt
  from_sorted weak (x ∷ xs) s = (
    recursion_from_All (λ y. lt y x ≡ false) xs (λ k d h. sorted_far lt weak (x ∷ xs) s 0 (suc k) d (omega arith) (omega (arith, h))),
    from_sorted weak xs (λ k d low h. grind (arith, s (suc k) d)),
  )

  module _ (x : X) where
    -- an item is put at the index that splits the list by it
    pub insert-insert_by : (xs : List X) (i : ℕ) → IsSplit (λ y. lt y x) xs i → insert xs i x ≡ insert_by lt x xs
    insert-insert_by [] i s = grind (arith, take_all, drop_all)
    insert-insert_by (y ∷ ys) zero s = grind arith
    insert-insert_by (y ∷ ys) (suc i) s = grind (arith, insert-insert_by ys i (s.0.1, s.1))

    -- and taken from there
    pub remove-remove_by : (xs : List X) (i : ℕ) (d : X) → IsSplit (λ y. lt y x) xs i → i < length xs → lt x (slice_index_or xs i d) ≡ false
        → remove xs i ≡ remove_by lt x xs
    remove-remove_by [] i d s h e = absurd (omega (arith, h))
    remove-remove_by (y ∷ ys) zero d s h e = grind arith
    remove-remove_by (y ∷ ys) (suc i) d s h e = grind (arith, remove-remove_by ys i d (s.0.1, s.1) (omega (arith, h)) e)

    pub not_taken : (xs : List X) (i : ℕ) (d : X) → IsSplit (λ y. lt y x) xs i
        → (i < length xs → lt x (slice_index_or xs i d) ≡ true) → xs ≡ remove_by lt x xs
    not_taken [] i d s e = grind arith
    not_taken (y ∷ ys) zero d s e = grind arith
    not_taken (y ∷ ys) (suc i) d s e = grind (arith, not_taken ys i d (s.0.1, s.1) (λ h. e (omega (arith, h))))

-- a test that an item passes if a later one does splits a list in order
module _ {X : Type 0} (lt : X → X → Bool) (p : X → Bool) (keeps : (x y : X) → lt y x ≡ false → p y ≡ true → p x ≡ true) (xs : List X)
    (ordered : IsInOrder lt xs) (i : ℕ) (within : i ≤ length xs)
    (point : IsPartitionedBy p xs → IsPartitionPoint (λ x. p x ≡ true) (λ x. p x ≡ false) xs i) where
  pub parted : IsSplit p xs i
  parted =
      let ends = point (place.partitioned (λ x y. lt y x ≡ false) p keeps xs ordered) in
      (front_each (λ x. p x ≡ true) xs i within ends.0, back_each (λ x. p x ≡ false) xs i ends.1)

  -- if none of those passes another test, and no later one does if the first behind them does not, that one alone can be found
  module _ (t : X → Bool) (fails : (x : X) → p x ≡ true → t x ≡ false)
      (stops : (x y : X) → lt y x ≡ false → p x ≡ false → t x ≡ false → t y ≡ false) where
    past : find t xs ≡ find t (drop i xs)
    past = ap (find t) (sym (take-append-drop i xs)) ∙ find_past t (take i xs) (drop i xs) (weaken (take i xs) parted.0 fails)

    pub found : (length xs ≤ i → None ≡ find t xs) × ((x : X) → i < length xs → x ≡ slice_index_or xs i x → then_some (t x) x ≡ find t xs)
    found = (
      λ end. grind (arith, past, drop_all),
      λ x inside at.
          let rest = drop (suc i) xs in
          let cut : drop i xs ≡ x ∷ rest = drop-cons xs i x inside ∙ ap (λ y. y ∷ rest) (sym at) in
          let order = rw cut at (ranked_drop lt i xs ordered) in
          let here = rw cut at parted.1 in
          let none : t x ≡ false → find t rest ≡ None = λ e. find_none t rest (weaken rest order.0 (λ y l. stops x y l here.0 e)) in
          grind (arith, past, cut, none),
    )
