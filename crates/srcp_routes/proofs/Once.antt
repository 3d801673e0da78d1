-- A route that is wanted is not asked for again.
use Rattle.std.proofs.Common.{◌≡◌, ◌≢◌, ◌⊎◌, inl, inr, ℕ, Bool, true, false, not, ◌&&◌, ◌||◌, Option, Some, None, List, length}
use Rattle.std.proofs.Common.{refl, sym, ◌∙◌, ap}
use Rattle.std.proofs.lemmas.Bool.{and_parts, cases_eq}
use Rattle.std.specs.Option.{option_map_or}
use Rattle.std.specs.Prelude.{if◌then◌else◌, is_some, slice_set}
use Rattle.srcp_routes.specs.Conflicts.{is_occupied, is_vacant}
use Rattle.srcp_routes.specs.Plan.{Table, has_passed, is_freed, stage_at, still_wanted, wanted_at, wanted_behind}
use Rattle.srcp_routes.specs.Stages.{is_idle}
use Rattle.srcp_routes.specs.Steps.{after, answered, due, heard, is_renewed, sent, told}
use Rattle.srcp_routes.specs.declared.conflict.Sensed.{Sensed}
use Rattle.srcp_routes.specs.declared.interlocking.Event.{Event}
use Rattle.srcp_routes.specs.declared.interlocking.Event.TheVariants.{Ask, Give, Told, Second, Reply, Lost}
use Rattle.srcp_routes.specs.declared.route.Device.{Device}
use Rattle.srcp_routes.proofs.Again.{AllBusy, after_else, none_wanted, wanted_else, wanted_off}
use Rattle.srcp_routes.proofs.Fallen.{not_both}
use Rattle.srcp_routes.proofs.Followed.{word}
use Rattle.srcp_routes.proofs.Places.{at-places_or}

abbrev pub AllOnce : Table → Type 0
AllOnce t = (n : ℕ) → wanted_at t.wanted n ≡ true → wanted_at t.again n ≡ false

-- no mark is at a place at which one was taken away
off_at : (marks : List Bool) (m n : ℕ) → n ≡ m → wanted_at (slice_set marks m false) n ≡ false
off_at marks m n same = ap (wanted_at (slice_set marks m false)) same ∙ wanted_off marks m

ask_once : (t : Table) (m n : ℕ) (idle wants : Bool) → (n ≡ m) ⊎ (n ≢ m) → is_idle (stage_at t.stages m) ≡ idle
    → wanted_at t.wanted m ≡ wants → AllBusy t.stages t.again → AllOnce t
    → wanted_at (if idle || wants then slice_set t.wanted m true else t.wanted) n ≡ true
    → wanted_at (if idle || wants then t.again else slice_set t.again m true) n ≡ false
ask_once t m n true wants (inl same) is wanted busy once h =
    ap (wanted_at t.again) same ∙ not_both (wanted_at t.again m) (λ again. sym (busy m again) ∙ is)
ask_once t m n true wants (inr differ) is wanted busy once h = once n (sym (wanted_else t.wanted m n true differ) ∙ h)
ask_once t m n false true (inl same) is wanted busy once h = ap (wanted_at t.again) same ∙ once m wanted
ask_once t m n false true (inr differ) is wanted busy once h = once n (sym (wanted_else t.wanted m n true differ) ∙ h)
ask_once t m n false false (inl same) is wanted busy once h =
    let no : false ≡ true = sym wanted ∙ ap (wanted_at t.wanted) (sym same) ∙ h in absurd (cc)
ask_once t m n false false (inr differ) is wanted busy once h = wanted_else t.again m n true differ ∙ once n h

given_once : (t : Table) (m n : ℕ) → (n ≡ m) ⊎ (n ≢ m) → AllOnce t → wanted_at (slice_set t.wanted m false) n ≡ true
    → wanted_at (slice_set t.again m false) n ≡ false
given_once t m n (inl same) once h = off_at t.again m n same
given_once t m n (inr differ) once h =
    wanted_else t.again m n false differ ∙ once n (sym (wanted_else t.wanted m n false differ) ∙ h)

-- what is still marked was marked
fewer : (w off : Bool) (x : Bool) → (x ≡ (w && not off)) ⊎ (x ≡ false) → x ≡ true → w ≡ true
fewer w off x (inl e) h = (and_parts w (not off) (sym e ∙ h)).0
fewer w off x (inr e) h = let no : false ≡ true = sym e ∙ h in absurd (cc)

fallen_once : (t : Table) (sensor : Device) (n : ℕ) (fell : Bool)
    → wanted_at (if fell then still_wanted t sensor else t.wanted) n ≡ true → wanted_at t.wanted n ≡ true
fallen_once t sensor n true h = fewer (wanted_at t.wanted n) (is_freed t.routes t.stages sensor n)
    (wanted_at (still_wanted t sensor) n) (at-places_or
    (λ i. wanted_at t.wanted i && not (is_freed t.routes t.stages sensor i)) false (length t.routes) n) h
fallen_once t sensor n false h = h

behind_once : (t : Table) (now : Sensed) (n : ℕ) → wanted_at (wanted_behind t now) n ≡ true → wanted_at t.wanted n ≡ true
behind_once t now n h = fewer (wanted_at t.wanted n) (has_passed t.routes t.sensors t.trains now n)
    (wanted_at (wanted_behind t now) n) (at-places_or
    (λ i. wanted_at t.wanted i && not (has_passed t.routes t.sensors t.trains now i)) false (length t.routes) n) h

replied_once : (t : Table) (ok renewed : Bool) (m n : ℕ) → (n ≡ m) ⊎ (n ≢ m) → AllOnce t
    → wanted_at (if renewed then slice_set t.wanted m true else (if ok then t.wanted else slice_set t.wanted m false)) n
    ≡ true
    → wanted_at (if renewed then slice_set t.again m false else (if ok then t.again else slice_set t.again m false)) n
    ≡ false
replied_once t ok renewed m n (inr differ) once h = after_else t.again renewed ok false m n differ
    ∙ once n (sym (after_else t.wanted renewed ok true m n differ) ∙ h)
replied_once t ok true m n (inl same) once h = off_at t.again m n same
replied_once t true false m n (inl same) once h = once n h
replied_once t false false m n (inl same) once h = off_at t.again m n same

answer_once : (t : Table) (ok : Bool) (x : Option ℕ) → AllOnce t → AllOnce (option_map_or (answered t ok) x t)
answer_once t ok None once = once
answer_once t ok (Some m) once = λ n h. replied_once t ok (is_renewed t ok m) m n (cases_eq n m) once h

heard_once : (t : Table) (event : Event) → AllBusy t.stages t.again → AllOnce t → AllOnce (heard t event)
heard_once t (Ask m) busy once = λ n h.
    ask_once t m n (is_idle (stage_at t.stages m)) (wanted_at t.wanted m) (cases_eq n m) refl refl busy once h
heard_once t (Give m) busy once = λ n h. given_once t m n (cases_eq n m) once h
heard_once t (Told sensor now) busy once = λ n h. once n
    (fallen_once t sensor n (is_vacant now && is_occupied t.sensors sensor)
    (behind_once (told t sensor now) (word sensor now) n h))
heard_once t (Reply ok) busy once = answer_once t ok t.waiting once
heard_once t Second busy once = once
heard_once t Lost busy once = λ n h. none_wanted (length t.routes) n

next_once : (t : Table) (waits : Bool) (d : Option ℕ) → AllOnce t
    → AllOnce (if waits then record { table = t; order = None } else sent t d).table
next_once t true d once = once
next_once t false None once = once
next_once t false (Some n) once = once

pub after_once : (t : Table) (event : Event) → AllBusy t.stages t.again → AllOnce t → AllOnce (after t event)
after_once t event busy once =
    next_once (heard t event) (is_some (heard t event).waiting) (due (heard t event)) (heard_once t event busy once)
