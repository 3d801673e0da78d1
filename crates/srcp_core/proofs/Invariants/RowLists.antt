-- The rows of a registry, listed one after another.
use Rattle.srcp_core.proofs.Names.{◌≡◌, [], ◌∷◌, ◌++◌, refl, sym, subst, Cursor, Start, After, Row, Result, Ok, Err, IfOk, AllByRecursion}
use Rattle.srcp_core.proofs.Names.{IsWellFormedShown, Bus, State, IsRising, IsWhole, row_after, shown_rows}
use Rattle.std.proofs.Common.{Some}
use Rattle.std.proofs.lemmas.List.{append_assoc}
use Rattle.std.specs.Prelude.{List}
use Rattle.srcp_rules.proofs.CursorLaws.{beyond, beyond-next}
use Rattle.srcp_rules.proofs.StateLaws.{each_found}
use Rattle.srcp_core.proofs.CourseLaws.ShownRegistry.{all_shown}

pub beyond_start : (state : State) → beyond Start state ≡ state
beyond_start [] = refl
beyond_start (row ∷ state) = cc (beyond_start state)

-- the row that is found is the next to be listed
pub one_listed : (told : State) (at : Cursor) (state : State) (row : Row) → IsRising state → row_after at state ≡ Some row
    → told ++ beyond at state ≡ state → (told ++ row ∷ []) ++ beyond (After row.shown.key) state ≡ state
one_listed told at state row rising next all = cc (append_assoc told _ _, beyond-next at row state rising next)

-- each row of a whole registry can be written
rows_well_formed : (buses : List Bus) (state : State) → IsWhole buses state → AllByRecursion (λ row. IsWellFormedShown row.shown) state
rows_well_formed buses state whole =
    each_found (λ row. IsWellFormedShown _) state whole.rising (λ key row h. (whole.rows key row h).shown)

pub shown_tellable : (buses : List Bus) (state : State) → IsWhole buses state → AllByRecursion IsWellFormedShown (shown_rows state)
shown_tellable buses state whole = all_shown _ state (rows_well_formed buses state whole)

pub told_well_formed : {E : Type 0} (buses : List Bus) (state : State) (told : Result State E) → IsWhole buses state
    → IfOk told (λ rows. rows ≡ state) → IfOk told (AllByRecursion (λ row. IsWellFormedShown row.shown))
told_well_formed buses state (Ok rows) whole is =
    subst (AllByRecursion (λ row. IsWellFormedShown row.shown)) (sym is) (rows_well_formed buses state whole)
told_well_formed buses state (Err e) whole is = tt
