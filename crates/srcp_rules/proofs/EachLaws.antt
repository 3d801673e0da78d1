-- Laws of each item of a list.
use Rattle.std.specs.Prelude.{◌≡◌, ℕ, zero, suc, ◌+◌, ◌≤◌, ◌<◌, Bool, true, is_some, List, [], ◌∷◌, map, filter, find}
use Rattle.std.proofs.Common.{arith, inl, inr, refl, sym, ap, ◌∙◌}
use Rattle.std.proofs.lemmas.Bool.{cases_eq}
use Rattle.std.specs.List.{AllByRecursion, range_with_len}
use Rattle.std.specs.Option.{option_map}
use Rattle.srcp_info.proofs.ClientLaws.{all_weaker}

module _ {X : Type 0} {P Q : X → Type 0} where
  pub weaken : (xs : List X) → AllByRecursion P xs → ((x : X) → P x → Q x) → AllByRecursion Q xs
  weaken xs a g = all_weaker P Q g xs a

pub each_and : {X : Type 0} (P Q : X → Type 0) (xs : List X) → AllByRecursion P xs → AllByRecursion Q xs
    → AllByRecursion (λ x. P x × Q x) xs
each_and P Q [] p q = tt
each_and P Q (x ∷ xs) p q = ((p.0, q.0), each_and P Q xs p.1 q.1)

module _ {X Y : Type 0} (Q : X → Type 0) (P : Y → Type 0) (p : X → Bool) (f : X → Y) (h : (x : X) → Q x → p x ≡ true → P (f x)) where
  -- of what is made of the items that pass a test
  pub each-mapped : (xs : List X) → AllByRecursion Q xs → AllByRecursion P (map f (filter p xs))
  each-mapped [] each = tt
  each-mapped (x ∷ xs) each = grind (arith, h x each.0, each-mapped xs each.1)

-- what holds of what is made of each number of a range
pub each-range : {X : Type 0} (P : X → Type 0) (f : ℕ → X) (first n : ℕ) → ((k : ℕ) → first ≤ k → k < first + n → P (f k))
    → AllByRecursion P (map f (range_with_len first n))
each-range P f first zero h = tt
each-range P f first (suc n) h =
    (h first (omega arith) (omega arith), each-range P f (first + 1) n (λ k low high. h k (omega (arith, low)) (omega (arith, high))))

-- one of them that passes a test is found
pub find-range : {X : Type 0} (t : X → Bool) (f : ℕ → X) (k first n : ℕ) → first ≤ k → k < first + n → t (f k) ≡ true
    → is_some (find t (map f (range_with_len first n))) ≡ true
find-range t f k first zero low high e = absurd (omega arith)
find-range t f k first (suc n) low high e = elim (cases_eq k first) [
  | inl same ↦ rw (ap (λ j. t (f j)) (sym same) ∙ e)
  | inr apart ↦ grind (arith, find-range t f k (first + 1) n (omega (arith, low, apart)) (omega (arith, high)) e)
]

module _ {X Y : Type 0} (f : X → Y) where
  pub find-map : (t : Y → Bool) (xs : List X) → find t (map f xs) ≡ option_map f (find (λ x. t (f x)) xs)
  find-map t [] = refl
  find-map t (x ∷ xs) = grind (arith, find-map t xs)

-- of what is made of each item
pub each-map : {X Y : Type 0} (P : Y → Type 0) (f : X → Y) (xs : List X) → AllByRecursion (λ x. P (f x)) xs → AllByRecursion P (map f xs)
each-map P f [] each = tt
each-map P f (x ∷ xs) each = (each.0, each-map P f xs each.1)
