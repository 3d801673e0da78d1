-- A route that was given back while its signal shows "go" is wanted no more until it has ended.
use Rattle.std.proofs.Common.{◌≡◌, ◌≢◌, ◌⊎◌, inl, inr, ℕ, ◌==◌, ◌<◌, Bool, true, false, ◌&&◌, ◌||◌}
use Rattle.std.proofs.Common.{Option, Some, None, List, [], ◌∷◌, length, refl, sym, ◌∙◌, ap, arith, subst}
use Rattle.std.proofs.lemmas.Bool.{and_from, and_parts, cases_eq, eqb-true, or_cases, or_left, or_right}
use Rattle.std.proofs.lemmas.Option.{slice_get_within}
use Rattle.std.specs.Option.{option_map_or}
use Rattle.std.specs.Prelude.{fold, if◌then◌else◌, is_some, nat_lt, option_and_then, slice_get, slice_set}
use Rattle.srcp_routes.specs.Conflicts.{are_free, is_occupied, is_vacant}
use Rattle.srcp_routes.specs.Laws.{LeftEnds, is_unstopped, stays}
use Rattle.srcp_routes.specs.Plan.{Table, delay_at, has_passed, is_freed, stage_at, wanted_at}
use Rattle.srcp_routes.specs.Runs.{Run, Signals, gives_back, heard_of, is_freed_by, is_passed, left_heard, run, run_after}
use Rattle.srcp_routes.specs.Runs.{run_start, signals_sent, stopped}
use Rattle.srcp_routes.specs.Stages.{is_held, is_hiding, is_idle}
use Rattle.srcp_routes.specs.Steps.{answered, due, heard, is_renewed, is_taken_up, may_begin, sent, stage_replied}
use Rattle.srcp_routes.specs.Steps.{step, told}
use Rattle.srcp_routes.specs.declared.interlocking.Event.{Event}
use Rattle.srcp_routes.specs.declared.interlocking.Event.TheVariants.{Ask, Give, Told, Second, Reply, Lost}
use Rattle.srcp_routes.specs.declared.route.Device.{Device}
use Rattle.srcp_routes.specs.declared.route.Occupancy.{Occupancy}
use Rattle.srcp_routes.specs.declared.route.Order.{Order}
use Rattle.srcp_routes.specs.declared.route.Order.TheVariants as order
use Rattle.srcp_routes.specs.declared.route.Route.{Route}
use Rattle.srcp_routes.specs.declared.stage.Stage.{Stage}
use Rattle.srcp_routes.specs.declared.stage.Stage.TheVariants as stage
use Rattle.srcp_routes.proofs.Again.{after_else, wanted_else, wanted_off}
use Rattle.srcp_routes.proofs.Apart.{stage_at-set_same}
use Rattle.srcp_routes.proofs.Holds.{Holds, after_holds, start_holds}
use Rattle.srcp_routes.proofs.Behind.{Follows, after_follows, start_follows}
use Rattle.srcp_routes.proofs.Fallen.{behind_left, fallen_left, freed_of, off_of_freed, off_of_wanted}
use Rattle.srcp_routes.proofs.Followed.{passed_is, word}
use Rattle.srcp_routes.proofs.Known.{answer_routes, is_section_of}
use Rattle.srcp_routes.proofs.Pending.{Fits, Pends}
use Rattle.srcp_routes.proofs.Rest.{IsResting, after_resting, rests_at, stays_back, stays_else}
use Rattle.srcp_routes.proofs.Signals.{heard_shown}
use Rattle.srcp_routes.proofs.Touched.{goes}

-- each route that is left is wanted no more, and its signal shows "go"
abbrev AllLeft : List Route → List Bool → Signals → Type 0
AllLeft routes wanted left = (n : ℕ) (route : Route) → slice_get routes n ≡ Some route → left n ≡ true
    → wanted_at wanted n ≡ false

pub goes_busy : (s : Stage) → goes false s ≡ true → is_idle s ≡ false
goes_busy stage.Idle h = absurd (cc)
goes_busy other h = refl

goes_shown : (s : Stage) → goes false s ≡ true → is_hiding s ≡ false
goes_shown stage.Hiding h = absurd (cc)
goes_shown other h = refl

goes_held : (s : Stage) → goes false s ≡ true → is_held s ≡ true
goes_held stage.Idle h = absurd (cc)
goes_held stage.Clearing h = absurd (cc)
goes_held stage.Blocked h = absurd (cc)
goes_held stage.Closing h = absurd (cc)
goes_held other h = refl

-- what a route that is left was before
left_parts : (s l x : Bool) → (s && (l || x)) ≡ true → (s ≡ true) × ((l ≡ true) ⊎ (x ≡ true))
left_parts s l x h =
    let both : (s ≡ true) × ((l || x) ≡ true) = and_parts s (l || x) h in (both.0, or_cases l x both.1)

-- ---- which routes are wanted

asked_left : (t : Table) (m n : ℕ) (up : Bool) → is_taken_up t m ≡ up → (n ≡ m) ⊎ (n ≢ m)
    → is_idle (stage_at t.stages n) ≡ false → wanted_at t.wanted n ≡ false
    → wanted_at (if up then slice_set t.wanted m true else t.wanted) n ≡ false
asked_left t m n false is which busy off = off
asked_left t m n true is (inr differ) busy off = wanted_else t.wanted m n true differ ∙ off
asked_left t m n true is (inl same) busy off =
    let here : (is_idle (stage_at t.stages n) || wanted_at t.wanted n) ≡ true =
    subst (λ (i : ℕ). (is_idle (stage_at t.stages i) || wanted_at t.wanted i) ≡ true) (sym same) is in
    elim (or_cases (is_idle (stage_at t.stages n)) (wanted_at t.wanted n) here) [
      | inl idle ↦ absurd (cc)
      | inr wanted ↦ absurd (cc)
    ]

pub given_left : (wanted : List Bool) (m n : ℕ) → (n ≡ m) ⊎ (n ≢ m) → (n ≢ m → wanted_at wanted n ≡ false)
    → wanted_at (slice_set wanted m false) n ≡ false
given_left wanted m n (inl same) off =
    ap (wanted_at (slice_set wanted m false)) same ∙ wanted_off wanted m
given_left wanted m n (inr differ) off = wanted_else wanted m n false differ ∙ off differ

pub replied_left : (t : Table) (ok renewed : Bool) (m n : ℕ) → (n ≡ m) ⊎ (n ≢ m) → (n ≡ m → renewed ≡ false)
    → wanted_at t.wanted n ≡ false
    → wanted_at (if renewed then slice_set t.wanted m true else (if ok then t.wanted else slice_set t.wanted m false)) n
    ≡ false
replied_left t ok renewed m n (inr differ) same_is off = after_else t.wanted renewed ok true m n differ ∙ off
replied_left t ok true m n (inl same) same_is off = let none : true ≡ false = same_is same in absurd (cc)
replied_left t true false m n (inl same) same_is off = off
replied_left t false false m n (inl same) same_is off =
    ap (wanted_at (slice_set t.wanted m false)) same ∙ wanted_off t.wanted m

not_renewed : (ok idle again : Bool) → idle ≡ false → (ok && (idle && again)) ≡ false
not_renewed true false again h = refl
not_renewed false idle again h = refl
not_renewed ok true again h = absurd (cc)

reply_left : (routes : List Route) (t : Table) (last : Option Order) (ok : Bool) (x : Option ℕ) (n : ℕ) → Fits routes t
    → Pends t last x → goes false (stage_at (option_map_or (answered t ok) x t).stages n) ≡ true
    → wanted_at t.wanted n ≡ false → wanted_at (option_map_or (answered t ok) x t).wanted n ≡ false
reply_left routes t last ok None n fits pends going off = off
reply_left routes t last ok (Some m) n fits pends going off =
    let within : m < length t.stages =
    omega (arith, slice_get_within t.routes m pends.route pends.is, fits.stages, ap length fits.plan) in
    replied_left t ok (is_renewed t ok m) m n (cases_eq n m)
    (λ same. not_renewed ok (is_idle (stage_replied t m ok)) (wanted_at t.again m)
    (goes_busy (stage_replied t m ok) (subst (λ (s : Stage). goes false s ≡ true)
    (stage_at-set_same t.stages m (stage_replied t m ok) within)
    (subst (λ (i : ℕ). goes false (stage_at (slice_set t.stages m (stage_replied t m ok)) i) ≡ true) same going)))) off

routes_same : (r : Run) (ok : Bool) (n : ℕ) → slice_get (heard r.table (Reply ok)).routes n ≡ slice_get r.table.routes n
routes_same r ok n = ap (λ (l : List Route). slice_get l n) (answer_routes r.table ok r.table.waiting)

-- ---- what holds of each run

record Leaves (routes : List Route) (r : Run) : Type 0 where
  holds : Holds routes r
  follows : Follows routes r
  shows : (n : ℕ) → r.left n ≡ true → r.shown n ≡ true
  off : AllLeft r.table.routes r.table.wanted r.left

-- the signal of a route that is left showed "go" before the event
shown_before : (routes : List Route) (r : Run) (event : Event) (n : ℕ) → Leaves routes r
    → (r.left n ≡ true) ⊎ ((r.shown n && gives_back r event n) ≡ true) → r.shown n ≡ true
shown_before routes r event n leaves (inl left) = leaves.shows n left
shown_before routes r event n leaves (inr now) =
    (and_parts (r.shown n) (gives_back r event n) now).0

parts_of : (r : Run) (event : Event) (n : ℕ) → left_heard r event n ≡ true
    → (heard_of stopped (λ m. false) r.shown r event n ≡ true)
    × ((r.left n ≡ true) ⊎ ((r.shown n && gives_back r event n) ≡ true))
parts_of r event n h = left_parts (heard_of stopped (λ m. false) r.shown r event n) (r.left n)
    (r.shown n && gives_back r event n) h

nothing_given : (shown : Bool) (P : Type 0) → (shown && false) ≡ true → P
nothing_given true P h = absurd (cc)
nothing_given false P h = absurd (cc)

freeing_left : (routes : List Route) (r : Run) (sensor : Device) (now : Occupancy) (n : ℕ) (route : Route) → Leaves routes r
    → slice_get r.table.routes n ≡ Some route → r.shown n ≡ true
    → (is_vacant now && (r.occupied sensor && is_freed_by r.table.routes n sensor)) ≡ true
    → wanted_at (told r.table sensor now).wanted n ≡ false
freeing_left routes r sensor now n route leaves is shown given =
    let two : (is_vacant now ≡ true) × ((r.occupied sensor && is_freed_by r.table.routes n sensor) ≡ true) =
    and_parts (is_vacant now) (r.occupied sensor && is_freed_by r.table.routes n sensor) given in
    let three : (r.occupied sensor ≡ true) × (is_freed_by r.table.routes n sensor ≡ true) =
    and_parts (r.occupied sensor) (is_freed_by r.table.routes n sensor) two.1 in
    let fell : (is_vacant now && is_occupied r.table.sensors sensor) ≡ true =
    and_from (is_vacant now) (is_occupied r.table.sensors sensor) two.0 ((leaves.follows.known n sensor
    (or_left (is_freed_by r.table.routes n sensor) (is_section_of r.table.routes n sensor) three.1)).known three.0) in
    let freed : is_freed r.table.routes r.table.stages sensor n ≡ true =
    freed_of (option_and_then (λ (a : Route). a.frees) (slice_get r.table.routes n)) sensor
    (is_held (stage_at r.table.stages n)) three.1
    (goes_held (stage_at r.table.stages n) (leaves.holds.shown n route is shown).goes) in
    fallen_left r.table sensor n (is_vacant now && is_occupied r.table.sensors sensor)
    (off_of_freed (wanted_at r.table.wanted n) (is_freed r.table.routes r.table.stages sensor n) freed)
    (λ e. let no : true ≡ false = sym fell ∙ e in absurd (cc))

-- the train of a route passes by what is told of a sensor
abbrev passes_now : Run → Device → Occupancy → ℕ → Bool
passes_now r sensor now n =
    has_passed r.table.routes (told r.table sensor now).sensors r.table.trains (word sensor now) n

told_left : (routes : List Route) (r : Run) (sensor : Device) (now : Occupancy) (n : ℕ) (route : Route) → Leaves routes r
    → slice_get r.table.routes n ≡ Some route
    → (r.left n ≡ true) ⊎ ((r.shown n && gives_back r (Told sensor now) n) ≡ true)
    → wanted_at (heard r.table (Told sensor now)).wanted n ≡ false
told_left routes r sensor now n route leaves is (inl left) =
    behind_left (told r.table sensor now) (word sensor now) n
    (off_of_wanted (wanted_at (told r.table sensor now).wanted n) (passes_now r sensor now n)
    (fallen_left r.table sensor n (is_vacant now && is_occupied r.table.sensors sensor)
    (off_of_wanted (wanted_at r.table.wanted n) (is_freed r.table.routes r.table.stages sensor n) (leaves.off n route is left))
    (λ e. leaves.off n route is left)))
told_left routes r sensor now n route leaves is (inr given) =
    let one : (r.shown n ≡ true) × (gives_back r (Told sensor now) n ≡ true) =
    and_parts (r.shown n) (gives_back r (Told sensor now) n) given in
    elim (or_cases (is_vacant now && (r.occupied sensor && is_freed_by r.table.routes n sensor))
    (is_passed r (Told sensor now) n) one.1) [
      | inl fell ↦ behind_left (told r.table sensor now) (word sensor now) n
          (off_of_wanted (wanted_at (told r.table sensor now).wanted n) (passes_now r sensor now n)
          (freeing_left routes r sensor now n route leaves is one.0 fell))
      | inr passed ↦ behind_left (told r.table sensor now) (word sensor now) n
          (off_of_freed (wanted_at (told r.table sensor now).wanted n) (passes_now r sensor now n)
          (passed_is r sensor now n route leaves.follows.known leaves.follows.taken is (leaves.follows.trains n route is)
          ∙ passed))
    ]

heard_left : (routes : List Route) (r : Run) (event : Event) → Leaves routes r
    → AllLeft (heard r.table event).routes (heard r.table event).wanted (left_heard r event)
heard_left routes r (Ask m) leaves n route is h = elim (parts_of r (Ask m) n h).1 [
  | inl left ↦ asked_left r.table m n (is_taken_up r.table m) refl (cases_eq n m)
      (goes_busy (stage_at r.table.stages n) (leaves.holds.shown n route is (leaves.shows n left)).goes)
      (leaves.off n route is left)
  | inr given ↦ nothing_given (r.shown n) _ given
]
heard_left routes r (Give m) leaves n route is h = given_left r.table.wanted m n (cases_eq n m)
    (λ differ. elim (parts_of r (Give m) n h).1 [
      | inl left ↦ leaves.off n route is left
      | inr given ↦ absurd (differ (eqb-true n m (and_parts (r.shown n) (n == m) given).1))
    ])
heard_left routes r (Told sensor now) leaves n route is h =
    told_left routes r sensor now n route leaves is (parts_of r (Told sensor now) n h).1
heard_left routes r (Reply ok) leaves n route is h =
    let parts : (heard_of stopped (λ m. false) r.shown r (Reply ok) n ≡ true)
    × ((r.left n ≡ true) ⊎ ((r.shown n && false) ≡ true)) = parts_of r (Reply ok) n h in
    let going : goes false (stage_at (heard r.table (Reply ok)).stages n) ≡ true =
    (heard_shown r (Reply ok) leaves.holds.pends leaves.holds.shown n route is parts.0).goes in
    elim parts.1 [
      | inl left ↦ reply_left routes r.table r.order ok r.table.waiting n leaves.holds.fits leaves.holds.pends going
          (leaves.off n route (sym (routes_same r ok n) ∙ is) left)
      | inr given ↦ nothing_given (r.shown n) _ given
    ]
heard_left routes r Second leaves n route is h = elim (parts_of r Second n h).1 [
  | inl left ↦ leaves.off n route is left
  | inr given ↦ nothing_given (r.shown n) _ given
]
heard_left routes r Lost leaves n route is h = absurd (cc)

next_left : (t : Table) (left : Signals) (waits : Bool) (d : Option ℕ) → AllLeft t.routes t.wanted left
    → AllLeft (if waits then record { table = t; order = None } else sent t d).table.routes
    (if waits then record { table = t; order = None } else sent t d).table.wanted left
next_left t left true d all = all
next_left t left false None all = all
next_left t left false (Some n) all = all

sent_more : (going : Signals) (o : Option Order) (w : Option ℕ) (n : ℕ) → going n ≡ true
    → signals_sent going o w n ≡ true
sent_more going None w n h = h
sent_more going (Some (order.Show setting)) w n h = or_right (option_map_or (λ m. n == m) w false) (going n) h
sent_more going (Some other) w n h = h

after_leaves : (routes : List Route) (r : Run) (event : Event) → Leaves routes r → Leaves routes (run_after r event)
after_leaves routes r event leaves = record {
  holds = after_holds routes r event leaves.holds;
  follows = after_follows routes r event leaves.follows;
  shows = λ n h. sent_more (heard_of stopped (λ m. false) r.shown r event) (step r.table event).order
      (step r.table event).table.waiting n (parts_of r event n h).0;
  off = next_left (heard r.table event) (left_heard r event) (is_some (heard r.table event).waiting)
      (due (heard r.table event)) (heard_left routes r event leaves);
}

start_leaves : (routes : List Route) → Leaves routes (run_start routes)
start_leaves routes = record {
  holds = start_holds routes;
  follows = start_follows routes;
  shows = λ n h. absurd (cc);
  off = λ n route is h. absurd (cc);
}

fold_leaves : (routes : List Route) (r : Run) (events : List Event) → Leaves routes r
    → Leaves routes (fold run_after r events)
fold_leaves routes r [] leaves = leaves
fold_leaves routes r (event ∷ events) leaves =
    fold_leaves routes (run_after r event) events (after_leaves routes r event leaves)

run_leaves : (routes : List Route) (events : List Event) → Leaves routes (run routes events)
run_leaves routes events = fold_leaves routes (run_start routes) events (start_leaves routes)

ends_at : (routes : List Route) (r : Run) (n : ℕ) (route : Route) → IsResting routes r.table → Leaves routes r
    → slice_get r.table.routes n ≡ Some route → r.left n ≡ true → is_unstopped (stage_at r.table.stages n) ≡ true
ends_at routes r n route resting leaves is left =
    let going : goes false (stage_at r.table.stages n) ≡ true =
    (leaves.holds.shown n route is (leaves.shows n left)).goes in
    let rest : stays (wanted_at r.table.wanted n) (stage_at r.table.stages n) ≡ true =
    stays_else (nat_lt 0 (delay_at r.table.delays n)) (wanted_at r.table.wanted n)
    (are_free r.table.sensors route.blocks.items) (may_begin r.table n (are_free r.table.sensors route.blocks.items))
    (stage_at r.table.stages n) (rests_at routes r.table n route resting is)
    (goes_busy (stage_at r.table.stages n) going) (goes_shown (stage_at r.table.stages n) going) in
    stays_back (stage_at r.table.stages n)
    (subst (λ (w : Bool). stays w (stage_at r.table.stages n) ≡ true) (leaves.off n route is left) rest)

pub left_ends : LeftEnds
left_ends routes events event n route is none left =
    let leaves : Leaves routes (run routes events) = run_leaves routes events in
    let resting : IsResting routes (run_after (run routes events) event).table =
    after_resting routes (run routes events).table event leaves.follows.sound none in
    ends_at routes (run_after (run routes events) event) n route resting
    (after_leaves routes (run routes events) event leaves)
    (ap (λ (x : List Route). slice_get x n) resting.fits.plan ∙ is) left
