-- Each call of the system moves few bytes, as long as each that is logged does.
use Rattle.std.proofs.Common.{◌≡◌, ℕ, ◌+◌, ◌-◌, min, [], ◌∷◌, ◌++◌, List, length, take, drop, ap, subst, sym, ◌∙◌, arith}
use Rattle.std.proofs.Math.Seq.{take-append-add}
use Rattle.std.proofs.lemmas.List.{append-nil, length-drop, length-take, nil_from_length}
use Rattle.srcp_info.proofs.ClientLaws.{all_append}
use Rattle.srcp_peers.specs.Sizes.{AreSmall, IsSmall}
use Rattle.srcp_peers.specs.Steps.{Step}

pub small_more : (old new : List Step) (step : Step) → new ≡ old ++ step ∷ [] → AreSmall old → IsSmall step → AreSmall new
small_more old new step is small one = subst AreSmall (sym is) (all_append IsSmall old (step ∷ []) small (one, tt))

-- a read for at most so many bytes fills the first of a buffer, and the others stay
pub first_are : (most space : ℕ) (bytes buffer : List ℕ) → space ≡ min (length buffer) most → length bytes ≡ length (take space buffer)
    → take most (bytes ++ drop space buffer) ≡ bytes
first_are most space bytes buffer fits long =
    let rest = drop space buffer in
    let left = most - length bytes in
    let all : most ≡ length bytes + left = omega (arith, fits, long, length-take space buffer) in
    let none : take left rest ≡ [] =
    nil_from_length _ (omega (arith, fits, long, length-take space buffer, length-take left rest, length-drop space buffer)) in
    ap (λ n. take n (bytes ++ rest)) all ∙ take-append-add bytes rest left ∙ ap (λ more. bytes ++ more) none ∙ append-nil bytes
