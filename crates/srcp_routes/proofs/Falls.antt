-- What holds of the stage that a route may send next, though its signal falls behind the head of a train.
use Rattle.std.proofs.Common.{◌≡◌, ℕ, Bool, true, false, Option, Some, None, refl}
use Rattle.std.specs.Option.{option_map_or}
use Rattle.std.specs.Prelude.{is_some}
use Rattle.srcp_routes.specs.Conflicts.{are_free}
use Rattle.srcp_routes.specs.Plan.{Table, stage_at, train_at, wanted_at}
use Rattle.srcp_routes.specs.Stages.{falls, ready_stage}
use Rattle.srcp_routes.specs.Steps.{may_begin, ready_in}
use Rattle.srcp_routes.specs.Trains.{has_entered}
use Rattle.srcp_routes.specs.declared.route.Route.{Route}
use Rattle.srcp_routes.specs.declared.route.Signal.{Signal}
use Rattle.srcp_routes.specs.declared.stage.Stage.{Stage}
use Rattle.srcp_routes.specs.declared.stage.Stage.TheVariants as stage

-- at this stage the signal of a route falls, or fell
abbrev pub has_fallen : Stage → Bool
has_fallen (stage.Falling told) = true
has_fallen (stage.Fallen told) = true
has_fallen other = false

signal_keeps : (P : Stage → Type 0) (x : Option Signal) (a b : Stage) → (is_some x ≡ true → P b → P a) → P b
    → P (option_map_or (λ signal. a) x b)
signal_keeps P None a b one h = h
signal_keeps P (Some signal) a b one h = one refl h

pub falls_keeps : (P : Stage → Type 0) (route : Route) (entered : Bool) (s : Stage)
    → (is_some route.signal ≡ true → P stage.Reporting → P (stage.Falling false))
    → (is_some route.signal ≡ true → P stage.Set → P (stage.Falling true)) → P s → P (falls route entered s)
falls_keeps P route true stage.Reporting one two h = signal_keeps P route.signal (stage.Falling false) stage.Reporting one h
falls_keeps P route true stage.Set one two h = signal_keeps P route.signal (stage.Falling true) stage.Set two h
falls_keeps P route true other one two h = h
falls_keeps P route false other one two h = h

pub in_keeps : (P : Stage → Type 0) (t : Table) (n : ℕ) (route : Route)
    → (is_some route.signal ≡ true → P stage.Reporting → P (stage.Falling false))
    → (is_some route.signal ≡ true → P stage.Set → P (stage.Falling true))
    → P (ready_stage route (wanted_at t.wanted n) (are_free t.sensors route.blocks.items)
    (may_begin t n (are_free t.sensors route.blocks.items)) (stage_at t.stages n)) → P (ready_in t n route)
in_keeps P t n route one two h = falls_keeps P route (has_entered (train_at t.trains n))
    (ready_stage route (wanted_at t.wanted n) (are_free t.sensors route.blocks.items)
    (may_begin t n (are_free t.sensors route.blocks.items)) (stage_at t.stages n)) one two h
