-- A turnout is thrown only while its route holds its lock.
use Rattle.std.proofs.Common.{◌≡◌, ◌≢◌, ℕ, true, false, Option, Some, None, List, refl, sym, ◌∙◌, ap}
use Rattle.std.specs.Option.{option_map}
use Rattle.std.specs.Prelude.{slice_get}
use Rattle.srcp_routes.specs.Laws.{IsThrownRightly, ThrowsAreLocked}
use Rattle.srcp_routes.specs.Plan.{stage_at}
use Rattle.srcp_routes.specs.Runs.{Run, run}
use Rattle.srcp_routes.specs.Stages.{order_of, turnout_at}
use Rattle.srcp_routes.specs.declared.route.Order.{Order}
use Rattle.srcp_routes.specs.declared.route.Order.TheVariants as order
use Rattle.srcp_routes.specs.declared.route.Route.{Route}
use Rattle.srcp_routes.specs.declared.route.Setting.{Setting}
use Rattle.srcp_routes.specs.declared.stage.Stage.{Stage}
use Rattle.srcp_routes.specs.declared.stage.Stage.TheVariants as stage
use Rattle.srcp_routes.proofs.Locks.{has_lock}
use Rattle.srcp_routes.proofs.Holds.{Holds, run_holds}
use Rattle.srcp_routes.proofs.Pending.{Pends, PendsAt}

-- a route throws one of its turnouts
record Throws (route : Route) (s : Stage) (setting : Setting) : Type 0 where
  place : ℕ
  at : turnout_at route place ≡ Some setting
  locked : has_lock s place ≡ true

no_throw : {X : Type 0} → (f : X → Order) (x : Option X) (setting : Setting) (P : Type 0)
    → ((y : X) → f y ≢ order.Throw setting) → option_map f x ≡ Some (order.Throw setting) → P
no_throw f None setting P other e = absurd (cc)
no_throw f (Some y) setting P other e = let same : f y ≡ order.Throw setting = cc in absurd (other y same)

throws_at : (route : Route) (done : ℕ) (x : Option Setting) (setting : Setting) → turnout_at route done ≡ x
    → option_map order.Throw x ≡ Some (order.Throw setting) → Throws route (stage.Throwing done) setting
throws_at route done None setting at e = absurd (cc)
throws_at route done (Some turnout) setting at e =
    let same : turnout ≡ setting = cc in
    record { place = done; at = at ∙ ap (λ (x : Setting). Some x) same; locked = refl }

throws : (route : Route) (s : Stage) (setting : Setting) → order_of route s ≡ Some (order.Throw setting)
    → Throws route s setting
throws route (stage.Throwing done) setting e = throws_at route done (turnout_at route done) setting refl e
throws route (stage.Locking done) setting e =
    no_throw (λ (x : Setting). order.Lock x.device) (turnout_at route done) setting _ (λ y h. cc) e
throws route (stage.Unlocking left) setting e =
    no_throw (λ (x : Setting). order.Unlock x.device) (turnout_at route left) setting _ (λ y h. cc) e
throws route stage.Clearing setting e = no_throw _ route.signal setting _ (λ y h. cc) e
throws route stage.Showing setting e = no_throw _ route.signal setting _ (λ y h. cc) e
throws route stage.Stopping setting e = no_throw _ route.signal setting _ (λ y h. cc) e
throws route (stage.Falling told) setting e = no_throw _ route.signal setting _ (λ y h. cc) e
throws route (stage.Fallen false) setting e = absurd (cc)
throws route other setting e = absurd (cc)

rightly : (routes : List Route) (r : Run) (setting : Setting) (n : ℕ) → Holds routes r → r.table.waiting ≡ Some n
    → (pends : PendsAt r.table r.order n) → Throws pends.route (stage_at r.table.stages n) setting
    → IsThrownRightly routes r setting
rightly routes r setting n holds waits pends throw = record {
  thrower = n;
  route = pends.route;
  place = throw.place;
  throws = waits;
  is = ap (λ (x : List Route). slice_get x n) (sym holds.fits.plan) ∙ pends.is;
  wants = throw.at;
  locked = holds.locked n pends.route throw.place setting pends.is throw.at throw.locked;
}

thrown_by : (routes : List Route) (r : Run) (setting : Setting) (x : Option ℕ) → Holds routes r → r.table.waiting ≡ x
    → Pends r.table r.order x → r.order ≡ Some (order.Throw setting) → IsThrownRightly routes r setting
thrown_by routes r setting None holds waits pends e = absurd (cc)
thrown_by routes r setting (Some n) holds waits pends e =
    let same : Some pends.order ≡ Some (order.Throw setting) = sym pends.waits ∙ e in
    rightly routes r setting n holds waits pends
    (throws pends.route (stage_at r.table.stages n) setting (pends.orders ∙ same))

pub throws_are_locked : ThrowsAreLocked
throws_are_locked routes events setting e = thrown_by routes (run routes events) setting
    (run routes events).table.waiting (run_holds routes events) refl (run_holds routes events).pends e
