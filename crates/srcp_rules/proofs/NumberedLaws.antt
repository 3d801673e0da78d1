-- Values by the numbers of their slots: look-ups and changes at a number.
use Rattle.srcp_rules.proofs.Names
use Names.{◌≡◌, ℕ, zero, suc, ◌+◌, ◌<◌, ◌≤◌, List, [], ◌∷◌, ◌++◌, length, Option, Some, None, drop, slice_index_or, slice_set, refl, sym}
use Names.{ap, subst, ◌∙◌, arith, AllByRecursion, option_map, numbered, AreSorted, entry_at}
use Rattle.std.proofs.lemmas.List.{get_or-set_other, get_or-set_same}
use Rattle.std.specs.List.Sorted.{IsStrictlySortedBy}
use Rattle.srcp_rules.proofs.OrderLaws.{greater, less, same}
use Rattle.srcp_rules.proofs.ListedLaws.{none_above, AreAbove}

-- ---- the values at slots

module _ {B X : Type 0} (value : B → X) where
  above : (n first : ℕ) → n < first → (slots : List (Option B)) → AreAbove n (numbered value first slots)
  above n first h [] = tt
  above n first h (o ∷ slots) = grind (arith, above n (first + 1) (omega (arith, h)) slots, less n first h)

  -- the numbers rise
  pub numbered-sorted : (first : ℕ) (slots : List (Option B)) → AreSorted (numbered value first slots)
  unfolding IsStrictlySortedBy
  numbered-sorted first [] = tt
  numbered-sorted first (o ∷ slots) = grind (arith, above first (first + 1) (omega arith) slots, numbered-sorted (first + 1) slots)

  -- one more slot without a value changes nothing
  pub numbered-append_none : (first : ℕ) (slots : List (Option B)) → numbered value first (slots ++ None ∷ []) ≡ numbered value first slots
  numbered-append_none first [] = refl
  numbered-append_none first (o ∷ slots) = grind (arith, numbered-append_none (first + 1) slots)

  -- the value at a number is that of its slot
  pub entry_at-numbered : (n first k : ℕ) → n ≡ first + k → (slots : List (Option B))
      → entry_at n (numbered value first slots) ≡ option_map value (slice_index_or slots k None)
  entry_at-numbered n first k e [] = refl
  entry_at-numbered n first zero e (None ∷ slots) =
      none_above n (numbered value (first + 1) slots) (above n (first + 1) (omega (arith, e)) slots)
  entry_at-numbered n first zero e (Some x ∷ slots) = rw (same n first (omega (arith, e)))
  entry_at-numbered n first (suc k) e (o ∷ slots) =
      grind (arith, greater n first (omega (arith, e)), entry_at-numbered n (first + 1) k (omega (arith, e)) slots)

  past : (k : ℕ) (slots : List (Option B)) → length slots ≤ k → slice_index_or slots k None ≡ None
  past k [] h = refl
  past zero (o ∷ slots) h = absurd (omega (arith, h))
  past (suc k) (o ∷ slots) h = past k slots (omega (arith, h))

  -- which is found by a look at the slot
  pub entry_at-slot : (k : ℕ) (slots : List (Option B)) {es : List (ℕ × X)} → numbered value 0 slots ≡ es
      → {o : Option B} → o ≡ slice_index_or slots k None → option_map value o ≡ entry_at k es
  entry_at-slot k slots view e = ap (option_map value) e ∙ sym (entry_at-numbered k 0 k (omega arith) slots) ∙ ap (entry_at k) view

  pub entry_at-past : (k : ℕ) (slots : List (Option B)) {es : List (ℕ × X)} → numbered value 0 slots ≡ es → length slots ≤ k
      → None ≡ entry_at k es
  entry_at-past k slots view h = entry_at-slot k slots view (sym (past k slots h))

  -- after a slot is set the value at its number is that of the slot, and those at others are as before
  module _ (slots : List (Option B)) {es : List (ℕ × X)} (view : numbered value 0 slots ≡ es) (k : ℕ) (slot : Option B) where
    pub own_slot : k < length slots → entry_at k (numbered value 0 (slice_set slots k slot)) ≡ option_map value slot
    own_slot h =
        entry_at-numbered k 0 k (omega arith) (slice_set slots k slot) ∙ ap (option_map value) (get_or-set_same slots k slot None h)

    pub other_slot : (m : ℕ) → (m ≡ k → ⊥) → entry_at m (numbered value 0 (slice_set slots k slot)) ≡ entry_at m es
    other_slot m h =
        entry_at-numbered m 0 m (omega arith) (slice_set slots k slot) ∙ ap (option_map value) (get_or-set_other slots k m slot None h)
        ∙ entry_at-slot m slots view refl

  -- what holds of each value holds of each from a slot on
  pub each-from_place : (P : ℕ × X → Type 0) (from first k : ℕ) → from ≡ first + k → (slots : List (Option B))
      → AllByRecursion P (numbered value first slots) → AllByRecursion P (numbered value from (drop k slots))
  each-from_place P from first zero e slots each = subst (λ n. AllByRecursion P (numbered value n slots)) (omega (arith, e)) each
  each-from_place P from first (suc k) e [] each = tt
  each-from_place P from first (suc k) e (None ∷ slots) each = each-from_place P from (first + 1) k (omega (arith, e)) slots each
  each-from_place P from first (suc k) e (Some x ∷ slots) each = each-from_place P from (first + 1) k (omega (arith, e)) slots each.1
