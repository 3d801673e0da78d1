-- What holds of each course.
use Rattle.std.proofs.Common.{◌≡◌, true, false, Option, None, List, [], ◌∷◌, length, refl, ◌∙◌, ap}
use Rattle.std.specs.Option.{option_or}
use Rattle.std.specs.Prelude.{fold, is_some, map, replicate}
use Rattle.srcp_routes.specs.Plan.{Table, stage_at, start, wanted_at}
use Rattle.srcp_routes.specs.Runs.{order_heard}
use Rattle.srcp_routes.specs.Stages.{is_held, lost_stage}
use Rattle.srcp_routes.specs.Steps.{after, course, due, heard, step}
use Rattle.srcp_routes.specs.declared.interlocking.Event.{Event}
use Rattle.srcp_routes.specs.declared.route.Order.{Order}
use Rattle.srcp_routes.specs.declared.route.Route.{Route}
use Rattle.srcp_routes.proofs.Again.{AllBusy, heard_busy, next_busy, none_wanted}
use Rattle.srcp_routes.proofs.Apart.{stage_at-start}
use Rattle.srcp_routes.proofs.Pending.{Fits, Pends, after_fits, start_fits, step_pends}
use Rattle.srcp_routes.proofs.Signals.{start_stage}
use Rattle.srcp_routes.proofs.Well.{AllSent, AllWell, fresh_held, heard_sent, heard_well, lost_well, next_sent, next_well, well}

pub record IsSound (routes : List Route) (t : Table) : Type 0 where
  pub fits : Fits routes t
  pub last : Option Order
  pub pends : Pends t last t.waiting
  pub well : AllWell t.routes t.stages
  pub sent : AllSent t.stages t.waiting
  pub busy : AllBusy t.stages t.again

pub after_sound : (routes : List Route) (t : Table) (event : Event) → IsSound routes t → IsSound routes (after t event)
after_sound routes t event sound = record {
  fits = after_fits routes t event sound.fits;
  last = option_or (step t event).order (order_heard sound.last event);
  pends = step_pends routes t sound.last event sound.fits sound.pends;
  well = next_well (heard t event) (is_some (heard t event).waiting) (due (heard t event))
      (heard_well t event sound.well);
  sent = next_sent (heard t event) (heard t event).waiting (due (heard t event)) refl
      (heard_sent routes t sound.last event sound.fits sound.pends sound.sent);
  busy = next_busy (heard t event) (is_some (heard t event).waiting) (due (heard t event)) refl
      (heard_busy t event sound.busy);
}

pub start_sound : (routes : List Route) → IsSound routes (start routes)
start_sound routes = record {
  fits = start_fits routes;
  last = None;
  pends = refl;
  well = λ n route is. ap (well route) (start_stage routes n route is) ∙ lost_well route route.signal refl;
  sent = λ n h.
      let not : is_held (stage_at (map lost_stage routes) n) ≡ false = stage_at-start routes n in
      let held : is_held (stage_at (map lost_stage routes) n) ≡ true = fresh_held _ h in
      absurd (cc);
  busy = λ n h.
      let none : wanted_at (replicate (length routes) false) n ≡ false = none_wanted (length routes) n in absurd (cc);
}

fold_sound : (routes : List Route) (t : Table) (events : List Event) → IsSound routes t
    → IsSound routes (fold after t events)
fold_sound routes t [] sound = sound
fold_sound routes t (event ∷ events) sound = fold_sound routes (after t event) events (after_sound routes t event sound)

pub course_sound : (routes : List Route) (events : List Event) → IsSound routes (course routes events)
course_sound routes events = fold_sound routes (start routes) events (start_sound routes)
