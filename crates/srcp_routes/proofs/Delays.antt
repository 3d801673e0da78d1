-- A route whose signal was stopped while a train might come keeps its locks for its delay.
use Rattle.std.proofs.Common.{◌≡◌, ℕ, Bool, true, false}
use Rattle.std.proofs.Common.{Option, Some, None, List, [], ◌∷◌, length, refl, sym, ◌∙◌, ap, subst}
use Rattle.std.proofs.lemmas.Bool.{eq-eqb}
use Rattle.std.specs.Option.{option_map}
use Rattle.std.specs.Prelude.{fold, is_some, nat_lt, replicate, slice_get}
use Rattle.srcp_routes.specs.Conflicts.{is_vacant}
use Rattle.srcp_routes.specs.Laws.{ApproachKept, ApproachLocked, ends, waits_out}
use Rattle.srcp_routes.specs.Plan.{delay_at, stage_at}
use Rattle.srcp_routes.specs.Runs.{Run, head_heard, let_go_heard, run}
use Rattle.srcp_routes.specs.Runs.{run_after, run_start, sensed_heard, shown_heard, tail_heard, wait_heard}
use Rattle.srcp_routes.specs.Stages.{order_of}
use Rattle.srcp_routes.specs.Stages.{stop_setting, turnout_at}
use Rattle.srcp_routes.specs.Steps.{due, heard, step}
use Rattle.srcp_routes.specs.declared.interlocking.Event.{Event}
use Rattle.srcp_routes.specs.declared.route.Order.{Order}
use Rattle.srcp_routes.specs.declared.route.Order.TheVariants as order
use Rattle.srcp_routes.specs.declared.route.Route.{Route}
use Rattle.srcp_routes.specs.declared.route.Setting.{Setting}
use Rattle.srcp_routes.specs.declared.route.Signal.{Signal}
use Rattle.srcp_routes.specs.declared.stage.Stage.{Stage}
use Rattle.srcp_routes.specs.declared.stage.Stage.TheVariants as stage
use Rattle.srcp_routes.proofs.Behind.{Follows, after_follows, heard_routes, next_routes, start_follows}
use Rattle.srcp_routes.proofs.Followed.{heard_followed}
use Rattle.srcp_routes.proofs.Free.{heard_free}
use Rattle.srcp_routes.proofs.Holds.{Holds, after_holds, start_holds}
use Rattle.srcp_routes.proofs.Known.{AllNear, after_near, heard_near, start_near}
use Rattle.srcp_routes.proofs.Locks.{has_lock}
use Rattle.srcp_routes.proofs.Long.{heard_long}
use Rattle.srcp_routes.proofs.Open.{heard_open}
use Rattle.srcp_routes.proofs.Pending.{Pends, PendsAt, heard_fits}
use Rattle.srcp_routes.proofs.Places.{at-replicate}
use Rattle.srcp_routes.proofs.Rest.{Keeping}
use Rattle.srcp_routes.proofs.Shines.{AllShine, heard_shines, next_shines, start_shines}
use Rattle.srcp_routes.proofs.Signals.{heard_shown}
use Rattle.srcp_routes.proofs.Well.{heard_sent}
use Rattle.srcp_routes.proofs.Waits.{AllSame, heard_same, next_same, waits_sent}
use Rattle.srcp_routes.proofs.Brakes.{AllBrake, brakes, heard_brakes, next_brakes, sends_at}
use Rattle.srcp_routes.proofs.Stops.{Stands}

-- ---- what holds of each run

pub record Delays (routes : List Route) (r : Run) : Type 0 where
  pub holds : Holds routes r
  pub follows : Follows routes r
  pub shines : AllShine r.table.routes r.table.stages r.shown
  pub near : AllNear r.table.routes r.table.sensors r.free
  pub same : AllSame r.table r.wait
  pub brakes : AllBrake r.table

heard_stands : (routes : List Route) (r : Run) (event : Event) → Delays routes r
    → Stands routes (heard r.table event) (shown_heard r event) (let_go_heard r event) (head_heard r event)
    (tail_heard r event)
heard_stands routes r event delays = record {
  fits = heard_fits routes r.table event delays.holds.fits;
  sent = heard_sent routes r.table r.order event delays.holds.fits delays.holds.pends delays.follows.sound.sent;
  opens = heard_open r.table r.order event delays.holds.pends delays.follows.opens;
  trains = λ n route is.
      let before : slice_get r.table.routes n ≡ Some route =
      ap (λ (l : List Route). slice_get l n) (sym (heard_routes r.table event)) ∙ is in
      heard_followed r event n route delays.follows.known delays.follows.taken delays.follows.opens before
      (delays.follows.trains n route before);
  goes = heard_shown r event delays.holds.pends delays.holds.shown;
  shines = heard_shines routes r event delays.holds.fits delays.holds.pends delays.shines;
}

after_same : (routes : List Route) (r : Run) (event : Event) → Delays routes r
    → AllSame (run_after r event).table (run_after r event).wait
after_same routes r event delays = λ n route is.
    let before : slice_get (heard r.table event).routes n ≡ Some route =
    ap (λ (l : List Route). slice_get l n) (sym (next_routes (heard r.table event)
    (is_some (heard r.table event).waiting) (due (heard r.table event)))) ∙ is in
    subst (λ (l : List Route). delay_at (run_after r event).table.delays n
    ≡ waits_sent l (shown_heard r event) (let_go_heard r event) (sensed_heard is_vacant r.free event)
    (wait_heard r event) (step r.table event).order (run_after r event).table.waiting n) (heard_routes r.table event)
    (next_same routes (heard r.table event) (shown_heard r event) (let_go_heard r event) (head_heard r event)
    (tail_heard r event) (sensed_heard is_vacant r.free event) (wait_heard r event) (heard r.table event).waiting
    (due (heard r.table event)) n route refl refl (heard_stands routes r event delays)
    (heard_long routes r.table event delays.holds.fits delays.follows.long)
    (heard_near r.table event r.free delays.near) (heard_free is_vacant r.table event r.free delays.holds.free)
    (λ m other at. heard_same r event m (delays.same m other
    (ap (λ (l : List Route). slice_get l m) (sym (heard_routes r.table event)) ∙ at))) before)

pub after_delays : (routes : List Route) (r : Run) (event : Event) → Delays routes r → Delays routes (run_after r event)
after_delays routes r event delays = record {
  holds = after_holds routes r event delays.holds;
  follows = after_follows routes r event delays.follows;
  shines = next_shines routes (heard r.table event) (shown_heard r event) (is_some (heard r.table event).waiting)
      (due (heard r.table event)) (heard_fits routes r.table event delays.holds.fits) refl
      (heard_shines routes r event delays.holds.fits delays.holds.pends delays.shines);
  near = after_near r.table event r.free delays.near;
  same = after_same routes r event delays;
  brakes = next_brakes routes (heard r.table event) (heard r.table event).waiting (due (heard r.table event)) refl refl
      (heard_fits routes r.table event delays.holds.fits)
      (heard_long routes r.table event delays.holds.fits delays.follows.long)
      (heard_brakes routes r.table r.order event delays.holds.fits delays.holds.pends delays.brakes);
}

pub start_delays : (routes : List Route) → Delays routes (run_start routes)
start_delays routes = record {
  holds = start_holds routes;
  follows = start_follows routes;
  shines = start_shines routes;
  near = start_near routes;
  same = λ n route is. at-replicate (length routes) n 0;
  brakes = λ n h.
      let none : nat_lt 0 (delay_at (replicate (length routes) 0) n) ≡ false =
      ap (λ (k : ℕ). nat_lt 0 k) (at-replicate (length routes) n 0) in absurd (cc);
}

fold_delays : (routes : List Route) (r : Run) (events : List Event) → Delays routes r
    → Delays routes (fold run_after r events)
fold_delays routes r [] delays = delays
fold_delays routes r (event ∷ events) delays =
    fold_delays routes (run_after r event) events (after_delays routes r event delays)

pub run_delays : (routes : List Route) (events : List Event) → Delays routes (run routes events)
run_delays routes events = fold_delays routes (run_start routes) events (start_delays routes)

-- a route that keeps its locks in the table does so by events alone
pub delays_keep : (routes : List Route) (r : Run) → Delays routes r → Keeping r.table (waits_out r)
delays_keep routes r delays n route is h = ap (λ (k : ℕ). nat_lt 0 k) (sym (delays.same n route is)) ∙ h

-- ---- the laws

no_end : (x : Option Signal) (o : Order) → option_map (λ signal. order.Stop (stop_setting signal)) x ≡ Some o
    → ends o ≡ false
no_end None o e = absurd (cc)
no_end (Some signal) o e = let is : order.Stop (stop_setting signal) ≡ o = cc in ap ends (sym is)

brakes_end : (route : Route) (s : Stage) (o : Order) (sends : Bool) → sends ≡ true → brakes sends s ≡ true
    → order_of route s ≡ Some o → ends o ≡ false
brakes_end route stage.Stopping o sends now h e = no_end route.signal o e
brakes_end route stage.Stuck o sends now h e = absurd (cc)
brakes_end route stage.Hiding o true now h e = absurd (cc)
brakes_end route stage.Hiding o false now h e = absurd (cc)
brakes_end route other o sends now h e = absurd (cc)

locked_at : (routes : List Route) (r : Run) (n : ℕ) (o : Order) → Delays routes r → r.table.waiting ≡ Some n
    → r.order ≡ Some o → waits_out r n ≡ true → ends o ≡ false
locked_at routes r n o delays waits orders h =
    let pends : PendsAt r.table r.order n =
    subst (λ (x : Option ℕ). Pends r.table r.order x) waits delays.holds.pends in
    let both : Some pends.order ≡ Some o = sym pends.waits ∙ orders in
    let is : pends.order ≡ o = cc in
    let kept : nat_lt 0 (delay_at r.table.delays n) ≡ true =
    ap (λ (k : ℕ). nat_lt 0 k) (delays.same n pends.route pends.is) ∙ h in
    ap ends (sym is) ∙ brakes_end pends.route (stage_at r.table.stages n) pends.order (sends_at r.table.waiting n)
    (ap (λ (x : Option ℕ). sends_at x n) waits ∙ eq-eqb n n refl) (delays.brakes n kept) pends.orders

pub approach_locked : ApproachLocked
approach_locked routes events n last waits orders h =
    locked_at routes (run routes events) n last (run_delays routes events) waits orders h

brakes_locks : (sends : Bool) (s : Stage) (k : ℕ) → brakes sends s ≡ true → has_lock s k ≡ true
brakes_locks sends stage.Stopping k h = refl
brakes_locks sends stage.Stuck k h = refl
brakes_locks sends stage.Hiding k h = refl
brakes_locks sends other k h = absurd (cc)

kept_at : (routes : List Route) (r : Run) (n : ℕ) (route : Route) (place : ℕ) (turnout : Setting) → Delays routes r
    → waits_out r n ≡ true → slice_get routes n ≡ Some route → turnout_at route place ≡ Some turnout
    → r.locked n turnout.device ≡ true
kept_at routes r n route place turnout delays h is at =
    let here : slice_get r.table.routes n ≡ Some route =
    ap (λ (l : List Route). slice_get l n) delays.holds.fits.plan ∙ is in
    let kept : nat_lt 0 (delay_at r.table.delays n) ≡ true =
    ap (λ (k : ℕ). nat_lt 0 k) (delays.same n route here) ∙ h in
    delays.holds.locked n route place turnout here at
    (brakes_locks (sends_at r.table.waiting n) (stage_at r.table.stages n) place (delays.brakes n kept))

pub approach_kept : ApproachKept
approach_kept routes events n route place turnout h is at =
    kept_at routes (run routes events) n route place turnout (run_delays routes events) h is at
