-- Laws of the places of an array past a list's end.
use Rattle.std.specs.Prelude.{◌≡◌, ℕ, ◌+◌, ◌-◌, ◌<◌, ◌≤◌, List, length, replicate, take, drop, slice_set}
use Rattle.std.proofs.Common.{ap, sym, ◌∙◌, arith, drop-drop}
use Rattle.std.proofs.lemmas.List.{length-take-le, length-set, drop-set-lt, drop-replicate}

-- after a write at the end, the places past it hold x as before
pub rest_after : {A : Type 0} → (n k : ℕ) (x y : A) (xs : List A) → drop k xs ≡ replicate (n - k) x
    → drop (k + 1) (slice_set xs k y) ≡ replicate (n - (k + 1)) x
rest_after n k x y xs rest =
    drop-set-lt (k + 1) xs k y (omega arith) ∙ sym (drop-drop 1 k xs) ∙ ap (drop 1) rest ∙ drop-replicate 1 (n - k) x
    ∙ ap (λ m. replicate m x) {x = (n - k) - 1} {y = n - (k + 1)} (omega arith)

-- a list below its capacity may take one more
pub room_after : {A : Type 0} → (n k : ℕ) (y : A) (places seen : List A) → k ≤ n → length places ≡ n → take k places ≡ seen
    → length seen < n → (k + 1 ≤ n) × (length (slice_set places k y) ≡ n)
room_after n k y places seen within len same room = grind (arith, length-take-le, length-set)
