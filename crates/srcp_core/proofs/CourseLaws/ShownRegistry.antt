-- What clients are shown of a registry goes by the changes of each step.
use Rattle.srcp_rules.specs.Steps.{stepped}
use Rattle.srcp_core.proofs.Names.{◌≡◌, ℕ, zero, suc, ◌≤◌, List, [], ◌∷◌, ◌++◌, map, take, length, refl, ap, ◌∙◌, arith, AllByRecursion}
use Rattle.srcp_core.proofs.Names.{Option, Some, None, Row, Shown, Bus, State, opening, shown_rows, Step, History, World, updates_of}
use Rattle.srcp_core.proofs.Names.{state_after, history, history_from, heard, rows_at}
use Rattle.std.proofs.Common.{length-take}
use Rattle.std.proofs.lemmas.List.{take-take}
use Rattle.srcp_rules.proofs.StateLaws.{shown_rows-updated_all}
use Rattle.srcp_core.proofs.CourseLaws.Histories.{rows_after}

-- what holds of what each row shows
pub all_shown : (Q : Shown → Type 0) (state : State) → AllByRecursion (λ (row : Row). Q row.shown) state
    → AllByRecursion Q (shown_rows state)
all_shown Q [] a = tt
all_shown Q (row ∷ state) a = (a.0, all_shown Q state a.1)

-- the rows shown after all steps
pub shown_after : (state : State) (steps : List Step)
    → shown_rows (state_after state steps) ≡ rows_after (shown_rows state) (history_from state steps)
shown_after state [] = refl
shown_after state (step ∷ steps) =
    shown_after (stepped state step) steps
    ∙ ap (λ rows. rows_after rows (history_from (stepped state step) steps)) (shown_rows-updated_all (updates_of state step) state)

-- more steps, and one
pub history_append : (state : State) (steps more : List Step)
    → history_from state (steps ++ more) ≡ history_from state steps ++ history_from (state_after state steps) more
history_append state [] more = refl
history_append state (step ∷ steps) more = cc (history_append (stepped state step) steps more)

pub history_push : (state : State) (steps : List Step) (step : Step)
    → history_from state (steps ++ step ∷ [])
    ≡ history_from state steps ++ map (λ update. update.change) (updates_of (state_after state steps) step) ∷ []
history_push state steps step = history_append state steps (step ∷ [])

pub length_history : (state : State) (steps : List Step) → length (history_from state steps) ≡ length steps
length_history state [] = refl
length_history state (step ∷ steps) = let ih = length_history (stepped state step) steps in omega arith

-- ---- the history up to some step

history_take : (k : ℕ) (state : State) (steps : List Step) → take k (history_from state steps) ≡ history_from state (take k steps)
history_take zero state steps = refl
history_take (suc k) state [] = refl
history_take (suc k) state (step ∷ steps) = cc (history_take k _ steps)

pub rows_of_course : (buses : List Bus) (w : World) (k : ℕ)
    → rows_after (shown_rows (opening buses 0)) (take k (history buses w)) ≡ rows_at buses w k
rows_of_course buses w k = cc (history_take k _ w.steps, shown_after (opening buses 0) (take k w.steps))

-- what was heard until the end begins as all that happened
pub heard_prefix : (shut : Option ℕ) (history : History) (k : ℕ) → k ≤ length (heard shut history)
    → take k (heard shut history) ≡ take k history
heard_prefix None history k h = refl
heard_prefix (Some n) history k h =
    let l = length-take n history in
    let low : k ≤ n = omega arith in
    take-take k n history low
