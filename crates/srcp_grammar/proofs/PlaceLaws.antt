-- Places in a list: the items before a place, and the items from the place on.
use Rattle.std.specs.Prelude.{◌≡◌, ℕ, zero, suc, ◌≤◌, ◌<◌, Bool, true, false, List, [], ◌∷◌, ◌++◌, length, take, drop, filter, find}
use Rattle.std.specs.Prelude.{slice_get, slice_index_or, not}
use Rattle.std.proofs.Common.{sym, ap, ◌∙◌, arith}
use Rattle.std.specs.List.{AllByRecursion, AllWithin}
use Rattle.std.specs.List.Sorted.{IsPartitionedBy, IsNonDecreasingBy}
use Rattle.std.proofs.lemmas.List.{take-append-drop, append-nil}
use Rattle.std.proofs.lemmas.List.Elements.{filter-append}
use Rattle.srcp_info.proofs.ClientLaws.{filter_every, filter_no_one}

module _ {X : Type 0} (P : X → Type 0) where
  -- what holds at each place below this one holds of each item before it
  pub front_each : (xs : List X) (i : ℕ) → i ≤ length xs → AllWithin P xs 0 i → AllByRecursion P (take i xs)
  front_each xs zero h a = tt
  front_each [] (suc i) h a = absurd (omega (arith, h))
  front_each (x ∷ xs) (suc i) h a = (
    a 0 x (omega arith) (omega arith),
    front_each xs i (omega (arith, h)) (λ k d low high. a (suc k) d (omega arith) (omega (arith, high))),
  )

  -- what holds at each place from this one on holds of each item there
  pub back_each : (xs : List X) (i : ℕ) → AllWithin P xs i (length xs) → AllByRecursion P (drop i xs)
  back_each [] zero a = tt
  back_each [] (suc i) a = tt
  back_each (x ∷ xs) zero a =
      (a 0 x (omega arith) (omega arith), back_each xs zero (λ k d low high. a (suc k) d (omega arith) (omega (arith, high))))
  back_each (x ∷ xs) (suc i) a = back_each xs i (λ k d low high. a (suc k) d (omega (arith, low)) (omega (arith, high)))

module _ {X : Type 0} where
  -- what passes a test, where it is what stands before a place, or what stands from it on
  pub filter_front : (p : X → Bool) (xs : List X) (i : ℕ) → AllByRecursion (λ x. p x ≡ true) (take i xs)
      → AllByRecursion (λ x. p x ≡ false) (drop i xs) → filter p xs ≡ take i xs
  filter_front p xs i a b =
      ap (filter p) (sym (take-append-drop i xs)) ∙ filter-append p (take i xs) (drop i xs)
      ∙ (λ k. filter_every p (take i xs) a k ++ filter_no_one p (drop i xs) b k) ∙ append-nil (take i xs)

  pub filter_back : (p : X → Bool) (xs : List X) (i : ℕ) → AllByRecursion (λ x. p x ≡ false) (take i xs)
      → AllByRecursion (λ x. p x ≡ true) (drop i xs) → filter p xs ≡ drop i xs
  filter_back p xs i a b =
      ap (filter p) (sym (take-append-drop i xs)) ∙ filter-append p (take i xs) (drop i xs)
      ∙ (λ k. filter_no_one p (take i xs) a k ++ filter_every p (drop i xs) b k)

-- what holds of each item holds at each place
pub each_at : {X : Type 0} (P : X → Type 0) (xs : List X) → AllByRecursion P xs → (k : ℕ) (d : X) → k < length xs
    → P (slice_index_or xs k d)
each_at P [] a k d h = absurd (omega (arith, h))
each_at P (x ∷ xs) a zero d h = a.0
each_at P (x ∷ xs) a (suc k) d h = each_at P xs a.1 k d (omega (arith, h))

-- ---- lists in which each item stands so to all that follow

module _ {X : Type 0} (R : X → X → Type 0) where
  abbrev pub Follows : List X → Type 0
  Follows [] = Unit
  Follows (x ∷ xs) = AllByRecursion (R x) xs × Follows xs

  -- a test that an item passes where a later one does splits the list
  pub partitioned : (p : X → Bool) → ((x y : X) → R x y → p y ≡ true → p x ≡ true) → (xs : List X) → Follows xs → IsPartitionedBy p xs
  partitioned p keeps [] f i j d le h e = grind (arith, each_at)
  partitioned p keeps (x ∷ xs) f zero zero d le h e = grind (arith, each_at)
  partitioned p keeps (x ∷ xs) f zero (suc j) d le h e = grind (arith, each_at)
  partitioned p keeps (x ∷ xs) f (suc i) zero d le h e = grind (arith, each_at)
  partitioned p keeps (x ∷ xs) f (suc i) (suc j) d le h e =
      grind (arith, each_at, partitioned p keeps xs f.1 i j d (omega (arith, le)) (omega (arith, h)) e)

  -- a number that does not fall from an item to one that follows does not fall along the list
  pub non_decreasing : (n : X → ℕ) → ((x y : X) → R x y → n x ≤ n y) → (xs : List X) → Follows xs → IsNonDecreasingBy n xs
  non_decreasing n keeps [] f i j d le h = grind (arith, each_at)
  non_decreasing n keeps (x ∷ xs) f zero zero d le h = grind (arith, each_at)
  non_decreasing n keeps (x ∷ xs) f zero (suc j) d le h = grind (arith, each_at)
  non_decreasing n keeps (x ∷ xs) f (suc i) zero d le h = grind (arith, each_at)
  non_decreasing n keeps (x ∷ xs) f (suc i) (suc j) d le h =
      grind (arith, each_at, non_decreasing n keeps xs f.1 i j d (omega (arith, le)) (omega (arith, h)))

-- the first item that fails a test stands at the place that splits the list by it
pub find-parted : {X : Type 0} (p : X → Bool) (xs : List X) (i : ℕ) → AllByRecursion (λ x. p x ≡ true) (take i xs)
    → AllByRecursion (λ x. p x ≡ false) (drop i xs) → find (λ x. not (p x)) xs ≡ slice_get xs i
find-parted p [] zero a b = grind arith
find-parted p [] (suc i) a b = grind arith
find-parted p (x ∷ xs) zero a b = grind arith
find-parted p (x ∷ xs) (suc i) a b = grind (arith, find-parted p xs i a.1 b)
