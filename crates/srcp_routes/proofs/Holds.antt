-- What holds of each run.
use Rattle.std.proofs.Common.{◌≡◌, true, false, List, [], ◌∷◌, refl}
use Rattle.std.specs.Prelude.{fold, is_some, map}
use Rattle.srcp_routes.specs.Conflicts.{is_vacant}
use Rattle.srcp_routes.specs.Laws.{AreApart}
use Rattle.srcp_routes.specs.Plan.{stage_at}
use Rattle.srcp_routes.specs.Runs.{Run, granted, has_signal, heard_of, lit, put, run, run_after, run_start, stopped, told_heard}
use Rattle.srcp_routes.specs.Stages.{is_held, lost_stage}
use Rattle.srcp_routes.specs.Steps.{due, heard}
use Rattle.srcp_routes.specs.declared.interlocking.Event.{Event}
use Rattle.srcp_routes.specs.declared.route.Route.{Route}
use Rattle.srcp_routes.proofs.Apart.{after_apart, stage_at-start, start_apart}
use Rattle.srcp_routes.proofs.Crossings.{AllTold, heard_told, next_told}
use Rattle.srcp_routes.proofs.Free.{IsKnownRightly, after_free, start_free}
use Rattle.srcp_routes.proofs.Locks.{AllLocked, heard_locked, locks_held, next_locked}
use Rattle.srcp_routes.proofs.Pending.{Fits, Pends, after_fits, heard_fits, start_fits, step_pends}
use Rattle.srcp_routes.proofs.Signals.{AllGo, heard_may_go, heard_shown, next_goes, start_may_go}
use Rattle.srcp_routes.proofs.Thrown.{AllThrown, heard_thrown, start_thrown}
use Rattle.srcp_routes.proofs.Told.{AllLit, heard_lit, next_lit, start_lit}
use Rattle.srcp_routes.proofs.Touched.{next_thrown}

pub record Holds (routes : List Route) (r : Run) : Type 0 where
  pub fits : Fits routes r.table
  pub apart : AreApart r.table
  pub pends : Pends r.table r.order r.table.waiting
  pub locked : AllLocked r.table.routes r.table.stages r.locked
  pub thrown : AllThrown r.table.routes r.table.stages r.thrown
  pub shown : AllGo false r.table.routes r.table.stages r.shown
  pub lit : AllLit r.table.routes r.table.stages r.lit
  pub may_go : AllGo true r.table.routes r.table.stages r.may_go
  pub free : IsKnownRightly is_vacant r.table.sensors r.free
  pub told : AllTold r.table.stages r.told

pub after_holds : (routes : List Route) (r : Run) (event : Event) → Holds routes r → Holds routes (run_after r event)
after_holds routes r event holds = record {
  fits = after_fits routes r.table event holds.fits;
  apart = after_apart r.table event holds.apart;
  pends = step_pends routes r.table r.order event holds.fits holds.pends;
  locked = next_locked routes (heard r.table event) (heard_of granted (λ m x. false) r.locked r event)
      (is_some (heard r.table event).waiting) (due (heard r.table event)) (heard_fits routes r.table event holds.fits) refl
      (after_apart r.table event holds.apart)
      (heard_locked r event holds.pends holds.locked);
  thrown = next_thrown routes (heard r.table event) (heard_of put (λ m x. false) r.thrown r event)
      (is_some (heard r.table event).waiting) (due (heard r.table event)) (heard_fits routes r.table event holds.fits) refl
      (after_apart r.table event holds.apart)
      (heard_thrown r event holds.pends holds.thrown);
  shown = next_goes false routes (heard r.table event) (heard_of stopped (λ m. false) r.shown r event)
      (is_some (heard r.table event).waiting) (due (heard r.table event)) (heard_fits routes r.table event holds.fits) refl
      (heard_shown r event holds.pends holds.shown);
  lit = next_lit routes (heard r.table event) (heard_of lit (λ m. false) r.lit r event)
      (is_some (heard r.table event).waiting) (due (heard r.table event)) (heard_fits routes r.table event holds.fits)
      (heard_lit routes r event holds.fits holds.pends holds.lit);
  may_go = next_goes true routes (heard r.table event) (heard_of stopped (has_signal r.table.routes) r.may_go r event)
      (is_some (heard r.table event).waiting) (due (heard r.table event)) (heard_fits routes r.table event holds.fits) refl
      (heard_may_go r event holds.pends holds.may_go);
  free = after_free is_vacant r.table event r.free holds.free;
  told = next_told routes (heard r.table event) (told_heard r event) (is_some (heard r.table event).waiting)
      (due (heard r.table event)) (heard_fits routes r.table event holds.fits) refl
      (heard_told r event holds.pends holds.told);
}

pub start_holds : (routes : List Route) → Holds routes (run_start routes)
start_holds routes = record {
  fits = start_fits routes;
  apart = start_apart routes;
  pends = refl;
  locked = λ n route k turnout is at h.
      let not : is_held (stage_at (map lost_stage routes) n) ≡ false = stage_at-start routes n in
      let held : is_held (stage_at (map lost_stage routes) n) ≡ true = locks_held _ k h in
      absurd (cc);
  thrown = start_thrown routes;
  shown = λ n route is h. absurd (cc);
  lit = start_lit routes;
  may_go = start_may_go routes;
  free = start_free is_vacant routes refl;
  told = λ n h. absurd (cc);
}

fold_holds : (routes : List Route) (r : Run) (events : List Event) → Holds routes r → Holds routes (fold run_after r events)
fold_holds routes r [] holds = holds
fold_holds routes r (event ∷ events) holds = fold_holds routes (run_after r event) events (after_holds routes r event holds)

pub run_holds : (routes : List Route) (events : List Event) → Holds routes (run routes events)
run_holds routes events = fold_holds routes (run_start routes) events (start_holds routes)
