-- Values by number, in a list with a slot for each number.
use Rattle.std.specs.Prelude.{ℕ, ◌+◌, List, [], ◌∷◌, Option, Some, None}

-- the value of each filled slot, with the number of the slot; the first slot has the number `first`
abbrev pub numbered : {B X : Type 0} → (B → X) → (first : ℕ) → List (Option B) → List (ℕ × X)
numbered value first [] = []
numbered value first (None ∷ slots) = numbered value (first + 1) slots
numbered value first (Some x ∷ slots) = (first, value x) ∷ numbered value (first + 1) slots
