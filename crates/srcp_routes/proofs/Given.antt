-- A route that was given back, and that nobody asked for since, ends.
use Rattle.std.proofs.Common.{◌≡◌, ◌≢◌, ◌⊎◌, inl, inr, ℕ, ◌-◌, ◌==◌, Bool, true, false, not, ◌&&◌, ◌||◌}
use Rattle.std.proofs.Common.{Option, Some, None, List, [], ◌∷◌, length, refl, sym, ◌∙◌, ap, subst}
use Rattle.std.proofs.lemmas.Bool.{and_parts, cases_eq, eqb-true, or_cases}
use Rattle.std.proofs.lemmas.Option.{slice_get_within}
use Rattle.std.specs.Option.{option_and_then, option_map_or}
use Rattle.std.specs.Prelude.{fold, if◌then◌else◌, is_some, nat_lt, slice_get, slice_set}
use Rattle.srcp_routes.specs.Conflicts.{are_free, is_occupied, is_same, is_vacant}
use Rattle.srcp_routes.specs.Laws.{GivenEnd, IsEnded, is_unstopped, stays, waits_out}
use Rattle.srcp_routes.specs.Plan.{Table, delay_at, has_passed, is_freed, stage_at, train_at, wanted_at}
use Rattle.srcp_routes.specs.Runs.{Run, Signals, are_all_passed, given_heard, gives_back, granted, heard_of, is_freed_by}
use Rattle.srcp_routes.specs.Runs.{is_passed, order_heard, run, run_after, run_start, tail_heard}
use Rattle.srcp_routes.specs.Stages.{is_idle}
use Rattle.srcp_routes.specs.Steps.{answered, due, heard, is_renewed, is_taken_up, may_begin, sent, stage_replied, told}
use Rattle.srcp_routes.specs.declared.interlocking.Event.{Event}
use Rattle.srcp_routes.specs.declared.interlocking.Event.TheVariants.{Ask, Give, Told, Second, Reply, Lost}
use Rattle.srcp_routes.specs.declared.route.Device.{Device}
use Rattle.srcp_routes.specs.declared.route.Occupancy.{Occupancy}
use Rattle.srcp_routes.specs.declared.route.Route.{Route}
use Rattle.srcp_routes.specs.declared.stage.Stage.{Stage}
use Rattle.srcp_routes.specs.declared.stage.Stage.TheVariants as stage
use Rattle.srcp_routes.proofs.Again.{none_wanted, wanted_else}
use Rattle.srcp_routes.proofs.Asked.{differs}
use Rattle.srcp_routes.proofs.Causes.{heard_caused, heard_freed, next_caused, next_freed}
use Rattle.srcp_routes.proofs.MayLock.{AllCaused, HasCause, IsFreed, MayLock}
use Rattle.srcp_routes.proofs.Delays.{Delays, after_delays, delays_keep, run_delays}
use Rattle.srcp_routes.proofs.Holds.{Holds, after_holds, start_holds}
use Rattle.srcp_routes.proofs.Behind.{Follows, after_follows, start_follows}
use Rattle.srcp_routes.proofs.Fallen.{behind_left, fallen_left, not_both, off_of_freed, off_of_wanted}
use Rattle.srcp_routes.proofs.Followed.{passed_is, some_of, wanted_is, word}
use Rattle.srcp_routes.proofs.Left.{given_left, goes_busy, replied_left}
use Rattle.srcp_routes.proofs.Once.{AllOnce, after_once}
use Rattle.srcp_routes.proofs.Open.{IsOpen}
use Rattle.srcp_routes.proofs.Pending.{heard_fits}
use Rattle.srcp_routes.proofs.Rest.{IsResting, after_resting, rests_at, stays_back, stays_of}

-- each route that was given back is neither wanted nor asked for again
abbrev AllOff : Table → Signals → Type 0
AllOff t given = (n : ℕ) → given n ≡ true → (wanted_at t.wanted n ≡ false) × (wanted_at t.again n ≡ false)

set_off : (l : List Bool) (m n : ℕ) (b up : Bool) → n ≢ m → wanted_at l n ≡ false
    → wanted_at (if up then slice_set l m b else l) n ≡ false
set_off l m n b true differ off = wanted_else l m n b differ ∙ off
set_off l m n b false differ off = off

else_off : (l : List Bool) (m n : ℕ) (b up : Bool) → n ≢ m → wanted_at l n ≡ false
    → wanted_at (if up then l else slice_set l m b) n ≡ false
else_off l m n b true differ off = off
else_off l m n b false differ off = wanted_else l m n b differ ∙ off

none_again : (ok idle again : Bool) → again ≡ false → (ok && (idle && again)) ≡ false
none_again true true again off = off
none_again true false again off = refl
none_again false idle again off = refl

cleared_off : (l : List Bool) (m n : ℕ) (renewed : Bool) → wanted_at l n ≡ false
    → wanted_at (if renewed then slice_set l m false else l) n ≡ false
cleared_off l m n true off = given_left l m n (cases_eq n m) (λ differ. off)
cleared_off l m n false off = off

accepted_off : (t : Table) (x : Option ℕ) (n : ℕ) → (wanted_at t.wanted n ≡ false) × (wanted_at t.again n ≡ false)
    → (wanted_at (option_map_or (answered t true) x t).wanted n ≡ false)
    × (wanted_at (option_map_or (answered t true) x t).again n ≡ false)
accepted_off t None n off = off
accepted_off t (Some m) n off = (
  replied_left t true (is_renewed t true m) m n (cases_eq n m)
      (λ same. none_again true (is_idle (stage_replied t m true)) (wanted_at t.again m)
      (ap (wanted_at t.again) (sym same) ∙ off.1)) off.0,
  cleared_off t.again m n (is_renewed t true m) off.1,
)

refused_off : (t : Table) (x : Option ℕ) (n : ℕ) (given : Bool)
    → (given ≡ true → (wanted_at t.wanted n ≡ false) × (wanted_at t.again n ≡ false))
    → (option_map_or (λ m. n == m) x false || given) ≡ true
    → (wanted_at (option_map_or (answered t false) x t).wanted n ≡ false)
    × (wanted_at (option_map_or (answered t false) x t).again n ≡ false)
refused_off t None n given off h = off h
refused_off t (Some m) n given off h =
    let before : n ≢ m → given ≡ true = λ differ. elim (or_cases (n == m) given h) [
      | inl same ↦ absurd (differ (eqb-true n m same))
      | inr on ↦ on
    ] in (
      given_left t.wanted m n (cases_eq n m) (λ differ. (off (before differ)).0),
      given_left t.again m n (cases_eq n m) (λ differ. (off (before differ)).1),
    )

-- a route that is not wanted is not once the trains are followed
told_off : (r : Run) (sensor : Device) (now : Occupancy) (n : ℕ) → wanted_at (told r.table sensor now).wanted n ≡ false
    → wanted_at (heard r.table (Told sensor now)).wanted n ≡ false
told_off r sensor now n off = behind_left (told r.table sensor now) (word sensor now) n
    (off_of_wanted (wanted_at (told r.table sensor now).wanted n)
    (has_passed r.table.routes (told r.table sensor now).sensors r.table.trains (word sensor now) n) off)

none_back : (v occupied freed go all : Bool) (P : Type 0) → freed ≡ false → all ≡ false
    → ((v && (occupied && freed)) || (go && all)) ≡ true → P
none_back true true false true false P f a h = absurd (cc)
none_back true true false false false P f a h = absurd (cc)
none_back true false false true false P f a h = absurd (cc)
none_back true false false false false P f a h = absurd (cc)
none_back false occupied false true false P f a h = absurd (cc)
none_back false occupied false false false P f a h = absurd (cc)
none_back v occupied true go all P f a h = absurd (cc)
none_back v occupied freed go true P f a h = absurd (cc)

-- a route that is given back after it has let a train go is neither wanted nor asked for again
back_off : (routes : List Route) (r : Run) (sensor : Device) (now : Occupancy) (n : ℕ) (x : Option Route)
    → slice_get r.table.routes n ≡ x → Follows routes r → AllOnce r.table → r.let_go n ≡ true
    → gives_back r (Told sensor now) n ≡ true
    → (wanted_at (heard r.table (Told sensor now)).wanted n ≡ false) × (wanted_at r.table.again n ≡ false)
back_off routes r sensor now n None is follows once go back =
    let unfreed : is_freed_by r.table.routes n sensor ≡ false =
    ap (λ (y : Option Route). option_map_or (λ freeing. is_same freeing sensor)
    (option_and_then (λ (a : Route). a.frees) y) false) is in
    let unpassed : are_all_passed r.table.routes n (tail_heard r (Told sensor now) n) ≡ false =
    ap (λ (y : Option Route). option_map_or (λ (a : Route). nat_lt 0 (tail_heard r (Told sensor now) n)
    && (tail_heard r (Told sensor now) n == length a.sections.items - 1)) y false) is in
    none_back (is_vacant now) (r.occupied sensor) (is_freed_by r.table.routes n sensor) (r.let_go n)
    (are_all_passed r.table.routes n (tail_heard r (Told sensor now) n)) _ unfreed unpassed back
back_off routes r sensor now n (Some route) is follows once go back =
    let opens : IsOpen r.table n = follows.opens n (some_of (r.let_go n) (r.head n) (r.tail n) (train_at r.table.trains n)
    (follows.trains n route is) go) in (
      elim (or_cases (is_vacant now && (r.occupied sensor && is_freed_by r.table.routes n sensor))
          (is_passed r (Told sensor now) n) back) [
            | inl fell ↦ told_off r sensor now n (wanted_is r sensor now n follows.known follows.taken
                (slice_get_within r.table.routes n route is) opens ∙ ap (λ (b : Bool). not b) fell)
            | inr passed ↦ behind_left (told r.table sensor now) (word sensor now) n
                (off_of_freed (wanted_at (told r.table sensor now).wanted n)
                (has_passed r.table.routes (told r.table sensor now).sensors r.table.trains (word sensor now) n)
                (passed_is r sensor now n route follows.known follows.taken is (follows.trains n route is) ∙ passed))
          ],
      once n opens.wanted,
    )

heard_off : (routes : List Route) (r : Run) (event : Event) → Follows routes r → AllOnce r.table → AllOff r.table r.given
    → AllOff (heard r.table event) (given_heard r event)
heard_off routes r (Ask m) follows once all n h =
    let both : (not (n == m) ≡ true) × (r.given n ≡ true) = and_parts (not (n == m)) (r.given n) h in
    let differ : n ≢ m = differs n m both.0 in (
      set_off r.table.wanted m n true (is_taken_up r.table m) differ (all n both.1).0,
      else_off r.table.again m n true (is_taken_up r.table m) differ (all n both.1).1,
    )
heard_off routes r (Give m) follows once all n h =
    let before : n ≢ m → r.given n ≡ true = λ differ. elim (or_cases (n == m) (r.given n) h) [
      | inl same ↦ absurd (differ (eqb-true n m same))
      | inr on ↦ on
    ] in (
      given_left r.table.wanted m n (cases_eq n m) (λ differ. (all n (before differ)).0),
      given_left r.table.again m n (cases_eq n m) (λ differ. (all n (before differ)).1),
    )
heard_off routes r (Told sensor now) follows once all n h =
    elim (or_cases (r.let_go n && gives_back r (Told sensor now) n) (r.given n) h) [
      | inl back ↦
          let both : (r.let_go n ≡ true) × (gives_back r (Told sensor now) n ≡ true) =
          and_parts (r.let_go n) (gives_back r (Told sensor now) n) back in
          back_off routes r sensor now n (slice_get r.table.routes n) refl follows once both.0 both.1
      | inr given ↦ (
        told_off r sensor now n (fallen_left r.table sensor n (is_vacant now && is_occupied r.table.sensors sensor)
            (off_of_wanted (wanted_at r.table.wanted n) (is_freed r.table.routes r.table.stages sensor n) (all n given).0)
            (λ e. (all n given).0)),
        (all n given).1,
      )
    ]
heard_off routes r (Reply true) follows once all n h = accepted_off r.table r.table.waiting n (all n h)
heard_off routes r (Reply false) follows once all n h = refused_off r.table r.table.waiting n (r.given n) (all n) h
heard_off routes r Second follows once all n h = all n h
heard_off routes r Lost follows once all n h = (none_wanted _ n, none_wanted _ n)

next_off : (t : Table) (given : Signals) (waits : Bool) (d : Option ℕ) → AllOff t given
    → AllOff (if waits then record { table = t; order = None } else sent t d).table given
next_off t given true d all = all
next_off t given false None all = all
next_off t given false (Some n) all = all

-- ---- what holds of each run

record Gives (routes : List Route) (r : Run) : Type 0 where
  holds : Holds routes r
  follows : Follows routes r
  once : AllOnce r.table
  caused : AllCaused r.table.routes r.table.stages r.locked
  freed : IsFreed r.order r.locked
  off : AllOff r.table r.given

after_gives : (routes : List Route) (r : Run) (event : Event) → Gives routes r → Gives routes (run_after r event)
after_gives routes r event gives = record {
  holds = after_holds routes r event gives.holds;
  follows = after_follows routes r event gives.follows;
  once = after_once r.table event gives.follows.sound.busy gives.once;
  caused = next_caused routes (heard r.table event) (heard_of granted (λ m x. false) r.locked r event)
      (is_some (heard r.table event).waiting) (due (heard r.table event)) (heard_fits routes r.table event gives.holds.fits)
      (heard_caused routes r event gives.holds.fits gives.holds.pends gives.freed gives.caused);
  freed = next_freed (heard r.table event) (order_heard r.order event) (heard_of granted (λ m x. false) r.locked r event)
      (is_some (heard r.table event).waiting) (due (heard r.table event)) (heard_freed r event gives.freed);
  off = next_off (heard r.table event) (given_heard r event) (is_some (heard r.table event).waiting)
      (due (heard r.table event)) (heard_off routes r event gives.follows gives.once gives.off);
}

start_gives : (routes : List Route) → Gives routes (run_start routes)
start_gives routes = record {
  holds = start_holds routes;
  follows = start_follows routes;
  once = λ n h. none_wanted _ n;
  caused = λ n route x is h. absurd (cc);
  freed = λ m x device e same. refl;
  off = λ n h. (none_wanted _ n, none_wanted _ n);
}

fold_gives : (routes : List Route) (r : Run) (events : List Event) → Gives routes r → Gives routes (fold run_after r events)
fold_gives routes r [] gives = gives
fold_gives routes r (event ∷ events) gives = fold_gives routes (run_after r event) events (after_gives routes r event gives)

-- ---- the end of a route

idle_may : (s : Stage) (k : ℕ) → is_idle s ≡ true → MayLock s k → false ≡ true
idle_may stage.Idle k idle may = may
idle_may other k idle may = absurd (cc)

ended_at : (routes : List Route) (r : Run) (n : ℕ) (route : Route) (idle : Bool) → IsResting routes r.table → Gives routes r
    → Delays routes r → slice_get r.table.routes n ≡ Some route → r.given n ≡ true
    → is_idle (stage_at r.table.stages n) ≡ idle
    → (is_unstopped (stage_at r.table.stages n) ≡ true) ⊎ ((waits_out r n ≡ true) ⊎ IsEnded r n)
ended_at routes r n route true resting gives delays is given idle = inr (inr (record {
  unlocked = λ device. not_both (r.locked n device)
      (λ h. let cause : HasCause route (stage_at r.table.stages n) device = gives.caused n route device is h in
      idle_may (stage_at r.table.stages n) cause.place idle cause.may);
  dark = not_both (r.shown n)
      (λ h. sym (goes_busy (stage_at r.table.stages n) (gives.holds.shown n route is h).goes) ∙ idle);
}))
ended_at routes r n route false resting gives delays is given busy =
    let rest : (nat_lt 0 (delay_at r.table.delays n) || stays (wanted_at r.table.wanted n) (stage_at r.table.stages n))
    ≡ true =
    stays_of (nat_lt 0 (delay_at r.table.delays n)) (wanted_at r.table.wanted n)
    (are_free r.table.sensors route.blocks.items) (may_begin r.table n (are_free r.table.sensors route.blocks.items))
    (stage_at r.table.stages n) (rests_at routes r.table n route resting is) busy in
    elim (or_cases (nat_lt 0 (delay_at r.table.delays n)) (stays (wanted_at r.table.wanted n) (stage_at r.table.stages n))
    rest) [
      | inl kept ↦ inr (inl (delays_keep routes r delays n route is kept))
      | inr stayed ↦ inl (stays_back (stage_at r.table.stages n)
          (subst (λ (w : Bool). stays w (stage_at r.table.stages n) ≡ true) (gives.off n given).0 stayed))
    ]

pub given_end : GivenEnd
given_end routes events event n route is none given =
    let gives : Gives routes (run routes events) = fold_gives routes (run_start routes) events (start_gives routes) in
    let resting : IsResting routes (run_after (run routes events) event).table =
    after_resting routes (run routes events).table event gives.follows.sound none in
    ended_at routes (run_after (run routes events) event) n route
    (is_idle (stage_at (run_after (run routes events) event).table.stages n)) resting
    (after_gives routes (run routes events) event gives)
    (after_delays routes (run routes events) event (run_delays routes events))
    (ap (λ (x : List Route). slice_get x n) resting.fits.plan ∙ is) given refl
