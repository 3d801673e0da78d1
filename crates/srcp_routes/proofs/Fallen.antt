-- A route that is given back as a sensor is told is wanted no more.
use Rattle.std.proofs.Common.{◌≡◌, inl, inr, ℕ, Bool, true, false, not, ◌&&◌, Option, Some, None, length, refl, ◌∙◌}
use Rattle.std.proofs.lemmas.Bool.{and_from}
use Rattle.std.specs.Option.{option_map_or}
use Rattle.std.specs.Prelude.{if◌then◌else◌}
use Rattle.srcp_routes.specs.Conflicts.{is_same}
use Rattle.srcp_routes.specs.Plan.{Table, has_passed, is_freed, still_wanted, wanted_at, wanted_behind}
use Rattle.srcp_routes.specs.declared.conflict.Sensed.{Sensed}
use Rattle.srcp_routes.specs.declared.route.Device.{Device}
use Rattle.srcp_routes.proofs.Places.{at-places_or}

pub not_both : (w : Bool) → (w ≡ true → false ≡ true) → w ≡ false
not_both true never = let both : false ≡ true = never refl in absurd (cc)
not_both false never = refl

-- a route that is not wanted, or that a sensor frees, is not wanted after the sensor's fall
pub fallen_left : (t : Table) (sensor : Device) (n : ℕ) (fell : Bool)
    → ((wanted_at t.wanted n && not (is_freed t.routes t.stages sensor n)) ≡ true → false ≡ true)
    → (fell ≡ false → wanted_at t.wanted n ≡ false)
    → wanted_at (if fell then still_wanted t sensor else t.wanted) n ≡ false
fallen_left t sensor n true off none = elim (at-places_or
    (λ i. wanted_at t.wanted i && not (is_freed t.routes t.stages sensor i)) false (length t.routes) n) [
      | inl e ↦ e ∙ not_both (wanted_at t.wanted n && not (is_freed t.routes t.stages sensor n)) off
      | inr e ↦ e
    ]
fallen_left t sensor n false off none = none refl

pub freed_of : (frees : Option Device) (sensor : Device) (held : Bool)
    → option_map_or (λ freeing. is_same freeing sensor) frees false ≡ true → held ≡ true
    → option_map_or (λ freeing. is_same freeing sensor && held) frees false ≡ true
freed_of None sensor held h is = absurd (cc)
freed_of (Some freeing) sensor held h is = and_from (is_same freeing sensor) held h is

pub off_of_wanted : (w freed : Bool) → w ≡ false → (w && not freed) ≡ true → false ≡ true
off_of_wanted true freed off h = absurd (cc)
off_of_wanted false freed off h = h

pub off_of_freed : (w freed : Bool) → freed ≡ true → (w && not freed) ≡ true → false ≡ true
off_of_freed true true is h = h
off_of_freed false true is h = h
off_of_freed w false is h = absurd (cc)

-- a route that is not wanted, or whose train has passed, is not wanted once the trains are followed
pub behind_left : (t : Table) (now : Sensed) (n : ℕ)
    → ((wanted_at t.wanted n && not (has_passed t.routes t.sensors t.trains now n)) ≡ true → false ≡ true)
    → wanted_at (wanted_behind t now) n ≡ false
behind_left t now n off = elim (at-places_or
    (λ i. wanted_at t.wanted i && not (has_passed t.routes t.sensors t.trains now i)) false (length t.routes) n) [
      | inl e ↦ e ∙ not_both (wanted_at t.wanted n && not (has_passed t.routes t.sensors t.trains now n)) off
      | inr e ↦ e
    ]
