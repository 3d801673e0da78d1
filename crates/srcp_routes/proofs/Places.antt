-- What stands at the places of a list.
use Rattle.std.proofs.Common.{◌≡◌, ◌≢◌, ◌⊎◌, inl, inr, ℕ, zero, suc, ◌+◌, ◌<◌, List, [], ◌∷◌, length, refl, ◌∙◌, ap, arith}
use Rattle.std.specs.List.{range_with_len}
use Rattle.std.specs.Prelude.{map, replicate, slice_get, slice_set, unwrap_or}

-- what was written is at its place, and all else is as it was
pub at-set : {X : Type 0} (xs : List X) (k : ℕ) (x d : X) (n : ℕ)
    → ((n ≡ k) × (unwrap_or (slice_get (slice_set xs k x) n) d ≡ x))
    ⊎ (unwrap_or (slice_get (slice_set xs k x) n) d ≡ unwrap_or (slice_get xs n) d)
at-set [] k x d n = inr refl
at-set (y ∷ ys) zero x d zero = inl (refl, refl)
at-set (y ∷ ys) zero x d (suc n) = inr refl
at-set (y ∷ ys) (suc k) x d zero = inr refl
at-set (y ∷ ys) (suc k) x d (suc n) = elim (at-set ys k x d n) [ inl p ↦ inl (ap suc p.0, p.1) | inr e ↦ inr e ]

pub at-set_same : {X : Type 0} (xs : List X) (k : ℕ) (x d : X) → k < length xs
    → unwrap_or (slice_get (slice_set xs k x) k) d ≡ x
at-set_same [] k x d lt = absurd (omega (arith, lt))
at-set_same (y ∷ ys) zero x d lt = refl
at-set_same (y ∷ ys) (suc k) x d lt = at-set_same ys k x d (omega (arith, lt))

pub at-set_else : {X : Type 0} (xs : List X) (k n : ℕ) (x d : X) → n ≢ k
    → unwrap_or (slice_get (slice_set xs k x) n) d ≡ unwrap_or (slice_get xs n) d
at-set_else xs k n x d differ = elim (at-set xs k x d n) [ inl p ↦ absurd (differ p.0) | inr e ↦ e ]

-- what stands at no place was written there
pub at-set_off : {X : Type 0} (xs : List X) (k : ℕ) (d : X) → unwrap_or (slice_get (slice_set xs k d) k) d ≡ d
at-set_off [] k d = refl
at-set_off (y ∷ ys) zero d = refl
at-set_off (y ∷ ys) (suc k) d = at-set_off ys k d

pub at-replicate : {X : Type 0} (count k : ℕ) (d : X) → unwrap_or (slice_get (replicate count d) k) d ≡ d
at-replicate zero k d = refl
at-replicate (suc count) zero d = refl
at-replicate (suc count) (suc k) d = at-replicate count k d

-- what is worked out of each place
from_zero : {X : Type 0} (f : ℕ → X) (d : X) (a k n : ℕ) → n < k
    → unwrap_or (slice_get (map f (range_with_len a k)) n) d ≡ f (a + n)
from_zero f d a zero n lt = absurd (omega (arith, lt))
from_zero f d a (suc k) zero lt = let same : a ≡ a + 0 = omega arith in ap f same
from_zero f d a (suc k) (suc n) lt =
    let same : (a + 1) + n ≡ a + suc n = omega arith in from_zero f d (a + 1) k n (omega (arith, lt)) ∙ ap f same

pub at-places : {X : Type 0} (f : ℕ → X) (d : X) (k n : ℕ) → n < k
    → unwrap_or (slice_get (map f (range_with_len 0 k)) n) d ≡ f n
at-places f d k n lt = let same : 0 + n ≡ n = omega arith in from_zero f d 0 k n lt ∙ ap f same

-- beyond them there is nothing
beyond_zero : {X : Type 0} (f : ℕ → X) (d : X) (a k n : ℕ)
    → (unwrap_or (slice_get (map f (range_with_len a k)) n) d ≡ f (a + n))
    ⊎ (unwrap_or (slice_get (map f (range_with_len a k)) n) d ≡ d)
beyond_zero f d a zero n = inr refl
beyond_zero f d a (suc k) zero = let same : a ≡ a + 0 = omega arith in inl (ap f same)
beyond_zero f d a (suc k) (suc n) =
    let same : (a + 1) + n ≡ a + suc n = omega arith in
    elim (beyond_zero f d (a + 1) k n) [ inl e ↦ inl (e ∙ ap f same) | inr e ↦ inr e ]

pub at-places_or : {X : Type 0} (f : ℕ → X) (d : X) (k n : ℕ)
    → (unwrap_or (slice_get (map f (range_with_len 0 k)) n) d ≡ f n)
    ⊎ (unwrap_or (slice_get (map f (range_with_len 0 k)) n) d ≡ d)
at-places_or f d k n =
    let same : 0 + n ≡ n = omega arith in
    elim (beyond_zero f d 0 k n) [ inl e ↦ inl (e ∙ ap f same) | inr e ↦ inr e ]
