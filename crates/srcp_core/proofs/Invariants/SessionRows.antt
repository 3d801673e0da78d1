-- The rows of sessions in a registry.
use Rattle.srcp_core.proofs.Names.{◌≡◌, ℕ, Bool, true, false, cond, List, [], ◌∷◌, map, refl, ap, subst, true≢false, AllByRecursion, Option}
use Rattle.srcp_core.proofs.Names.{Some, None, is_some, first_key, Row, Key, all_append, Bus, session_device, power_device, State, row_at}
use Rattle.srcp_core.proofs.Names.{is_there, first_row, opening, opening_on}
use Rattle.srcp_info.specs.declared.value.Value.TheVariants as value
use Rattle.srcp_rules.proofs.StateLaws.{row_at_key}
use Rattle.srcp_rules.proofs.StepLaws.{is_session}

all_made : (P : Row → Type 0) (f : ℕ → Row) → ((n : ℕ) → P (f n)) → (ns : List ℕ) → AllByRecursion P (map f ns)
all_made P f h [] = tt
all_made P f h (n ∷ ns) = (h n, all_made P f h ns)

-- a row that is found is one of the rows
pub row_at-all : (P : Row → Type 0) (key : Key) (state : State) → AllByRecursion P state → (row : Row) → row_at key state ≡ Some row → P row
row_at-all P key [] a row e = cc
row_at-all P key (first ∷ state) a row e = by _ e (row_at-all P key state a.1 row)
  where
    by : (t : Bool) → cond t (Some first) (row_at key state) ≡ Some row → (row_at key state ≡ Some row → P row) → P row
    by true e ih = let same : first ≡ row = cc in subst P same a.0
    by false e ih = ih e

-- not the row of a session
abbrev IsOther : Row → Type 0
IsOther row = is_session row.shown.key.group ≡ false

other_on : (moment : ℕ) (bus : Bus) → AllByRecursion IsOther (opening_on moment bus)
other_on moment bus =
    all_append IsOther _
    (map (λ port. first_row moment _ _) _)
    (elim bus.power as (λ t. AllByRecursion IsOther (cond t (first_row moment (power_device bus.number) (value.Power false []) ∷ []) [])) [
      | true ↦ (refl, tt)
      | false ↦ tt
    ])
    (all_made IsOther (λ port. first_row moment _ _) (λ n. refl) _)

other_opening : (moment : ℕ) (buses : List Bus) → AllByRecursion IsOther (opening buses moment)
other_opening moment [] = tt
other_opening moment (bus ∷ buses) =
    all_append IsOther (opening_on moment bus) (opening buses moment) (other_on moment bus) (other_opening moment buses)

-- at the beginning no session has a row
pub no_session-opening : (buses : List Bus) (moment id : ℕ) → is_there (session_device id) (opening buses moment) ≡ false
no_session-opening buses moment id = by _ refl
  where
    by : (o : Option Row) → row_at (first_key (session_device id)) (opening buses moment) ≡ o
        → is_some (row_at (first_key (session_device id)) (opening buses moment)) ≡ false
    by None e = cc
    by (Some row) e =
        let other = row_at-all IsOther (first_key (session_device id)) (opening buses moment) (other_opening moment buses) row e in
        let same = ap (λ (k : Key). is_session k.group) (row_at_key (first_key (session_device id)) (opening buses moment) row e) in
        absurd (true≢false (cc))
