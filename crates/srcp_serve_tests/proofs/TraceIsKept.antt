-- A door that keeps its calls tells them.
use Rattle.std.proofs.Common.{◌≡◌, ◌∙◌, List, [], ◌∷◌, ◌++◌, Option, Some, None, ap}
use Rattle.std.specs.Prelude.{IfSome, MatchOption, map, option_map}
use Rattle.std.proofs.lemmas.List.{map-append}
use Rattle.srcp_door.specs.Calls.{Call, Extends}

-- if it keeps one call more behind the others, or keeps none from now on, it tells that call
pub tells_kept : {A V : Type 0} (kept : V → List A) (call : A → Call) (old new : Option V) (a : A)
    → MatchOption old (new ≡ None) (λ v. IfSome new (λ w. kept w ≡ kept v ++ a ∷ []))
    → Extends (option_map (λ v. map call (kept v)) old) (call a) (option_map (λ v. map call (kept v)) new)
tells_kept kept call None new a e = ap (option_map (λ v. map call (kept v))) e
tells_kept kept call (Some v) None a h = tt
tells_kept kept call (Some v) (Some w) a h = ap (map call) h ∙ map-append call (kept v) (a ∷ [])
