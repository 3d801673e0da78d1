-- A route that is asked for, by events alone, is so in the table.
use Rattle.std.proofs.Common.{◌≡◌, ◌≢◌, ◌⊎◌, inl, inr, ℕ, ◌==◌, ◌<◌, Bool, true, false, not, ◌&&◌, ◌||◌}
use Rattle.std.proofs.Common.{Option, Some, None, List, [], ◌∷◌, length, refl, ◌∙◌, ap, arith, subst}
use Rattle.std.proofs.lemmas.Bool.{and_parts, cases_eq, eq-eqb, eqb-true, not-true, or_cases, or_left, or_right}
use Rattle.std.proofs.lemmas.Option.{slice_get_within}
use Rattle.std.specs.Option.{option_map_or}
use Rattle.std.specs.Prelude.{fold, if◌then◌else◌, is_some, option_and_then, slice_get, slice_set}
use Rattle.srcp_routes.specs.Conflicts.{is_occupied, is_same, is_vacant}
use Rattle.srcp_routes.specs.Laws.{AskedAreServed, IsServed, WantedAreServed, has_come, is_asked, waits_out}
use Rattle.srcp_routes.specs.Plan.{Table, has_passed, is_freed, stage_at, start, still_wanted, wanted_at, wanted_behind}
use Rattle.srcp_routes.specs.Runs.{Run, asks_heard, is_freed_by, is_passed, run, run_after, run_start}
use Rattle.srcp_routes.specs.Stages.{is_held, is_idle}
use Rattle.srcp_routes.specs.Steps.{after, answered, course, due, followed, heard, is_renewed, is_taken_up, sent}
use Rattle.srcp_routes.specs.Steps.{stage_replied, told}
use Rattle.srcp_routes.specs.declared.conflict.Sensed.{Sensed}
use Rattle.srcp_routes.specs.declared.interlocking.Event.{Event}
use Rattle.srcp_routes.specs.declared.interlocking.Event.TheVariants.{Ask, Give, Told, Second, Reply, Lost}
use Rattle.srcp_routes.specs.declared.route.Device.{Device}
use Rattle.srcp_routes.specs.declared.route.Occupancy.{Occupancy}
use Rattle.srcp_routes.specs.declared.route.Route.{Route}
use Rattle.srcp_routes.proofs.Again.{after_else, wanted_else}
use Rattle.srcp_routes.proofs.Behind.{Follows, after_follows, run_follows, start_follows}
use Rattle.srcp_routes.proofs.Delays.{Delays, after_delays, delays_keep, run_delays}
use Rattle.srcp_routes.proofs.Followed.{passed_is, word}
use Rattle.srcp_routes.proofs.Places.{at-places, at-set_same}
use Rattle.srcp_routes.proofs.Rest.{IsResting, after_resting, resting_served}

-- ---- which routes are asked for

either : (w v a b : Bool) → v ≡ w → b ≡ a → (w || a) ≡ true → (v || b) ≡ true
either w v a b e d h = ap (λ (x : Bool). x || b) e ∙ ap (λ (x : Bool). w || x) d ∙ h

asked_after : (t : Table) (m n : ℕ) (up : Bool) → (n ≡ m) ⊎ (n ≢ m) → n < length t.wanted → n < length t.again
    → (n ≢ m → is_asked t n ≡ true)
    → (wanted_at (if up then slice_set t.wanted m true else t.wanted) n
    || wanted_at (if up then t.again else slice_set t.again m true) n) ≡ true
asked_after t m n true (inl same) lt lt' before = or_left (wanted_at (slice_set t.wanted m true) n) (wanted_at t.again n)
    (subst (λ (i : ℕ). wanted_at (slice_set t.wanted i true) n ≡ true) same (at-set_same t.wanted n true false lt))
asked_after t m n false (inl same) lt lt' before = or_right (wanted_at t.wanted n) (wanted_at (slice_set t.again m true) n)
    (subst (λ (i : ℕ). wanted_at (slice_set t.again i true) n ≡ true) same (at-set_same t.again n true false lt'))
asked_after t m n true (inr differ) lt lt' before = either (wanted_at t.wanted n)
    (wanted_at (slice_set t.wanted m true) n) (wanted_at t.again n) (wanted_at t.again n)
    (wanted_else t.wanted m n true differ) refl (before differ)
asked_after t m n false (inr differ) lt lt' before = either (wanted_at t.wanted n) (wanted_at t.wanted n)
    (wanted_at t.again n) (wanted_at (slice_set t.again m true) n) refl (wanted_else t.again m n true differ) (before differ)

pub differs : (n m : ℕ) → not (n == m) ≡ true → n ≢ m
differs n m h e =
    let yes : (n == m) ≡ true = eq-eqb n m e in
    let none : (n == m) ≡ false = not-true (n == m) h in
    absurd (cc)

not_freed : (frees : Option Device) (sensor : Device) (held : Bool)
    → option_map_or (λ freeing. is_same freeing sensor) frees false ≡ false
    → option_map_or (λ freeing. is_same freeing sensor && held) frees false ≡ false
not_freed None sensor held h = refl
not_freed (Some freeing) sensor held h = ap (λ (x : Bool). x && held) h

still_on : (w freed : Bool) → freed ≡ false → (w && not freed) ≡ w
still_on true true e = absurd (cc)
still_on false true e = refl
still_on true false e = refl
still_on false false e = refl

none_freed : (vacant occupied freed : Bool) → (vacant && occupied) ≡ true → not (vacant && freed) ≡ true → freed ≡ false
none_freed true occupied freed fell h = not-true freed h
none_freed false occupied freed fell h = absurd (cc)

told_asked : (t : Table) (sensor : Device) (now : Occupancy) (n : ℕ) (fell : Bool)
    → (is_vacant now && is_occupied t.sensors sensor) ≡ fell → n < length t.routes
    → not (is_vacant now && is_freed_by t.routes n sensor) ≡ true → is_asked t n ≡ true
    → (wanted_at (if fell then still_wanted t sensor else t.wanted) n || wanted_at t.again n) ≡ true
told_asked t sensor now n false is lt h asks = asks
told_asked t sensor now n true is lt h asks =
    let free : is_freed_by t.routes n sensor ≡ false =
    none_freed (is_vacant now) (is_occupied t.sensors sensor) (is_freed_by t.routes n sensor) is h in
    let freed : is_freed t.routes t.stages sensor n ≡ false =
    not_freed (option_and_then (λ (a : Route). a.frees) (slice_get t.routes n)) sensor (is_held (stage_at t.stages n)) free in
    let same : wanted_at (still_wanted t sensor) n ≡ wanted_at t.wanted n =
    at-places (λ i. wanted_at t.wanted i && not (is_freed t.routes t.stages sensor i)) false (length t.routes) n lt
    ∙ still_on (wanted_at t.wanted n) (is_freed t.routes t.stages sensor n) freed in
    either (wanted_at t.wanted n) (wanted_at (still_wanted t sensor) n) (wanted_at t.again n) (wanted_at t.again n)
    same refl asks

-- a route that is asked for is so once the trains are followed, if its own has not passed
followed_asked : (t : Table) (now : Sensed) (n : ℕ) → n < length t.routes
    → has_passed t.routes t.sensors t.trains now n ≡ false → is_asked t n ≡ true → is_asked (followed t now) n ≡ true
followed_asked t now n lt none asks = either (wanted_at t.wanted n) (wanted_at (wanted_behind t now) n)
    (wanted_at t.again n) (wanted_at t.again n)
    (at-places (λ i. wanted_at t.wanted i && not (has_passed t.routes t.sensors t.trains now i)) false (length t.routes) n lt
    ∙ still_on (wanted_at t.wanted n) (has_passed t.routes t.sensors t.trains now n) none) refl asks

replied_asked : (t : Table) (ok renewed : Bool) (m n : ℕ) → (n ≡ m) ⊎ (n ≢ m) → n < length t.wanted
    → (ok ≡ false → n ≢ m) → (ok ≡ false → renewed ≡ false) → is_asked t n ≡ true
    → (wanted_at (if renewed then slice_set t.wanted m true else (if ok then t.wanted else slice_set t.wanted m false)) n
    || wanted_at (if renewed then slice_set t.again m false else (if ok then t.again else slice_set t.again m false)) n)
    ≡ true
replied_asked t ok renewed m n (inr differ) lt other none asks = either (wanted_at t.wanted n)
    (wanted_at (if renewed then slice_set t.wanted m true else (if ok then t.wanted else slice_set t.wanted m false)) n)
    (wanted_at t.again n)
    (wanted_at (if renewed then slice_set t.again m false else (if ok then t.again else slice_set t.again m false)) n)
    (after_else t.wanted renewed ok true m n differ) (after_else t.again renewed ok false m n differ) asks
replied_asked t ok true m n (inl same) lt other none asks =
    or_left (wanted_at (slice_set t.wanted m true) n) (wanted_at (slice_set t.again m false) n)
    (subst (λ (i : ℕ). wanted_at (slice_set t.wanted i true) n ≡ true) same (at-set_same t.wanted n true false lt))
replied_asked t true false m n (inl same) lt other none asks = asks
replied_asked t false false m n (inl same) lt other none asks = absurd (other refl same)

renewed_accepted : (ok idle again : Bool) → ok ≡ false → (ok && (idle && again)) ≡ false
renewed_accepted true idle again e = absurd (cc)
renewed_accepted false idle again e = refl

reply_asked : (t : Table) (ok : Bool) (x : Option ℕ) (n : ℕ) → n < length t.wanted
    → (ok ≡ false → option_map_or (λ m. n == m) x false ≡ false) → is_asked t n ≡ true
    → is_asked (option_map_or (answered t ok) x t) n ≡ true
reply_asked t ok None n lt other asks = asks
reply_asked t ok (Some m) n lt other asks = replied_asked t ok (is_renewed t ok m) m n (cases_eq n m) lt
    (λ e same. let yes : (n == m) ≡ true = eq-eqb n m same in let none : (n == m) ≡ false = other e in absurd (cc))
    (λ e. renewed_accepted ok (is_idle (stage_replied t m ok)) (wanted_at t.again m) e) asks

-- ---- what holds of each run

record Asks (routes : List Route) (r : Run) : Type 0 where
  follows : Follows routes r
  asked : (n : ℕ) (route : Route) → slice_get routes n ≡ Some route → r.asks n ≡ true → is_asked r.table n ≡ true

heard_asked : (routes : List Route) (r : Run) (event : Event) (n : ℕ) (route : Route) → Asks routes r
    → slice_get routes n ≡ Some route → asks_heard r event n ≡ true → is_asked (heard r.table event) n ≡ true
heard_asked routes r (Ask m) n route asks is h =
    let lt : n < length routes = slice_get_within routes n route is in
    asked_after r.table m n (is_taken_up r.table m) (cases_eq n m)
    (omega (arith, lt, asks.follows.long.wanted)) (omega (arith, lt, asks.follows.long.again))
    (λ differ. elim (or_cases (n == m) (r.asks n) h) [
      | inl same ↦ absurd (differ (eqb-true n m same))
      | inr before ↦ asks.asked n route is before
    ])
heard_asked routes r (Give m) n route asks is h =
    let both : (not (n == m) ≡ true) × (r.asks n ≡ true) = and_parts (not (n == m)) (r.asks n) h in
    either (wanted_at r.table.wanted n) (wanted_at (slice_set r.table.wanted m false) n) (wanted_at r.table.again n)
    (wanted_at (slice_set r.table.again m false) n) (wanted_else r.table.wanted m n false (differs n m both.0))
    (wanted_else r.table.again m n false (differs n m both.0)) (asks.asked n route is both.1)
heard_asked routes r (Told sensor now) n route asks is h =
    let one : (not (is_passed r (Told sensor now) n) ≡ true)
    × ((not (is_vacant now && is_freed_by r.table.routes n sensor) && r.asks n) ≡ true) =
    and_parts (not (is_passed r (Told sensor now) n))
    (not (is_vacant now && is_freed_by r.table.routes n sensor) && r.asks n) h in
    let both : (not (is_vacant now && is_freed_by r.table.routes n sensor) ≡ true) × (r.asks n ≡ true) =
    and_parts (not (is_vacant now && is_freed_by r.table.routes n sensor)) (r.asks n) one.1 in
    let here : slice_get r.table.routes n ≡ Some route =
    ap (λ (l : List Route). slice_get l n) asks.follows.sound.fits.plan ∙ is in
    let lt : n < length r.table.routes = slice_get_within r.table.routes n route here in
    followed_asked (told r.table sensor now) (word sensor now) n lt
    (passed_is r sensor now n route asks.follows.known asks.follows.taken here (asks.follows.trains n route here)
    ∙ not-true (is_passed r (Told sensor now) n) one.0)
    (told_asked r.table sensor now n (is_vacant now && is_occupied r.table.sensors sensor) refl lt both.0
    (asks.asked n route is both.1))
heard_asked routes r (Reply true) n route asks is h = reply_asked r.table true r.table.waiting n
    (omega (arith, slice_get_within routes n route is, asks.follows.long.wanted)) (λ e. absurd (cc)) (asks.asked n route is h)
heard_asked routes r (Reply false) n route asks is h =
    let both : (not (option_map_or (λ m. n == m) r.table.waiting false) ≡ true) × (r.asks n ≡ true) =
    and_parts (not (option_map_or (λ m. n == m) r.table.waiting false)) (r.asks n) h in
    reply_asked r.table false r.table.waiting n
    (omega (arith, slice_get_within routes n route is, asks.follows.long.wanted))
    (λ e. not-true (option_map_or (λ m. n == m) r.table.waiting false) both.0) (asks.asked n route is both.1)
heard_asked routes r Second n route asks is h = asks.asked n route is h
heard_asked routes r Lost n route asks is h = absurd (cc)

next_asked : (t : Table) (waits : Bool) (d : Option ℕ) (n : ℕ) → is_asked t n ≡ true
    → is_asked (if waits then record { table = t; order = None } else sent t d).table n ≡ true
next_asked t true d n asks = asks
next_asked t false None n asks = asks
next_asked t false (Some m) n asks = asks

after_asks : (routes : List Route) (r : Run) (event : Event) → Asks routes r → Asks routes (run_after r event)
after_asks routes r event asks = record {
  follows = after_follows routes r event asks.follows;
  asked = λ n route is h. next_asked (heard r.table event) (is_some (heard r.table event).waiting)
      (due (heard r.table event)) n (heard_asked routes r event n route asks is h);
}

start_asks : (routes : List Route) → Asks routes (run_start routes)
start_asks routes = record {
  follows = start_follows routes;
  asked = λ n route is h. absurd (cc);
}

fold_asks : (routes : List Route) (r : Run) (events : List Event) → Asks routes r → Asks routes (fold run_after r events)
fold_asks routes r [] asks = asks
fold_asks routes r (event ∷ events) asks = fold_asks routes (run_after r event) events (after_asks routes r event asks)

-- a route that is asked for in the table of a run, once no order waits for its reply
served_at : (routes : List Route) (r : Run) (n : ℕ) (route : Route) → Delays routes r → IsResting routes r.table
    → slice_get routes n ≡ Some route → is_asked r.table n ≡ true
    → IsServed routes r.table (has_come r n) (waits_out r) n route
served_at routes r n route delays resting is asks =
    let here : slice_get r.table.routes n ≡ Some route =
    ap (λ (x : List Route). slice_get x n) resting.fits.plan ∙ is in
    subst (λ (x : List Route). IsServed x r.table (has_come r n) (waits_out r) n route) resting.fits.plan
    (resting_served routes r.table (has_come r n) (waits_out r) n route resting (delays_keep routes r delays)
    (delays.follows.entered n route here) here asks)

pub asked_are_served : AskedAreServed
asked_are_served routes events event n route is none asks =
    let all : Asks routes (run routes events) = fold_asks routes (run_start routes) events (start_asks routes) in
    let later : Asks routes (run_after (run routes events) event) = after_asks routes (run routes events) event all in
    served_at routes (run_after (run routes events) event) n route
    (after_delays routes (run routes events) event (run_delays routes events))
    (after_resting routes (run routes events).table event all.follows.sound none) is (later.asked n route is asks)

-- the table of a run is that of its course
run_table : (r : Run) (t : Table) (events : List Event) → r.table ≡ t
    → (fold run_after r events).table ≡ fold after t events
run_table r t [] same = same
run_table r t (event ∷ events) same =
    run_table (run_after r event) (after t event) events (ap (λ (u : Table). after u event) same)

pub wanted_are_served : WantedAreServed
wanted_are_served routes events event n route is =
    let r : Run = run_after (run routes events) event in
    let same : r.table ≡ after (course routes events) event =
    ap (λ (u : Table). after u event) (run_table (run_start routes) (start routes) events refl) in
    subst (λ (t : Table). t.waiting ≡ None → is_asked t n ≡ true → IsServed routes t (has_come r n) (waits_out r) n route)
    same (λ none asks. served_at routes r n route (after_delays routes (run routes events) event (run_delays routes events))
    (after_resting routes (run routes events).table event (run_follows routes events).sound none) is asks)
