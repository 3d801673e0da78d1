-- The panels among the entries of a slab.
use Rattle.srcp_core.proofs.Names.{◌≡◌, ℕ, suc, ◌+◌, List, [], ◌∷◌, map, refl, ◌∙◌, arith, Option, Some, None, if◌then◌else◌, entries_from}
use Rattle.srcp_core.proofs.Names.{Place, panel_keys, is_panel}
use Rattle.std.specs.Prelude.{Bool, true, false}

-- the keys of the entries that are panels
abbrev pub listed : List (ℕ × Place) → List ℕ
listed [] = []
listed (entry ∷ entries) = if is_panel entry.1.panel then entry.0 ∷ listed entries else listed entries

shifted : (first : ℕ) (keys : List ℕ) → map (λ key. first + 1 + key) keys ≡ map (λ key. first + key) (map suc keys)
shifted first [] = refl
shifted first (key ∷ keys) =
    let e : first + 1 + key ≡ first + suc key = omega arith in λ i. e i ∷ shifted first keys i

-- the panels are those among the entries
pub listed_from : (first : ℕ) (places : List (Option Place))
    → listed (entries_from first places) ≡ map (λ key. first + key) (panel_keys places)
listed_from first [] = refl
listed_from first (None ∷ places) = listed_from _ places ∙ shifted first _
listed_from first (Some place ∷ places) =
    one (is_panel place.panel) _ _ (listed_from (first + 1) places ∙ shifted first (panel_keys places))
  where
    one : (is : Bool) (keys others : List ℕ) → keys ≡ map (λ key. first + key) others
        → (if is then first ∷ keys else keys) ≡ map (λ key. first + key) (if is then 0 ∷ others else others)
    one true keys others rest = let e : first ≡ first + 0 = omega arith in λ i. e i ∷ rest i
    one false keys others rest = rest

pub from_zero : (keys : List ℕ) → map (λ key. 0 + key) keys ≡ keys
from_zero [] = refl
from_zero (key ∷ keys) = let e : 0 + key ≡ key = omega arith in λ i. e i ∷ from_zero keys i
