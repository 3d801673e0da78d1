-- The table of all routes: their stages, which are wanted, which are asked for again before they ended, their trains,
-- their delays, what is known of sensors, and whose order waits.
use Rattle.std.specs.Prelude.{ℕ, Bool, false, not, ◌&&◌, ◌||◌, Option, Some, None, List, map, if◌then◌else◌}
use Rattle.std.specs.Prelude.{length, replicate, option_and_then, slice_get, unwrap_or}
use Rattle.std.specs.List.{list_all, range_with_len}
use Rattle.std.specs.Option.{option_map, option_map_or}
use Rattle.srcp_routes.specs.Conflicts.{are_free, conflicts, is_same, sensors_of}
use Rattle.srcp_routes.specs.Stages.{is_held, is_idle, is_stopping, lost_stage}
use Rattle.srcp_routes.specs.Trains.{at_start, is_through, lets_go, moved}
use Rattle.srcp_routes.specs.declared.conflict.Sensed.{Sensed}
use Rattle.srcp_routes.specs.declared.route.Device.{Device}
use Rattle.srcp_routes.specs.declared.route.Route.{Route}
use Rattle.srcp_routes.specs.declared.stage.Stage.{Stage}
use Rattle.srcp_routes.specs.declared.stage.Stage.TheVariants as stage
use Rattle.srcp_routes.specs.declared.train.Train.{Train}

pub record Table : Type 0 where
  pub routes : List Route
  pub stages : List Stage
  pub wanted : List Bool
  pub again : List Bool
  -- the train that a route has let go, until the route is given back
  pub trains : List (Option Train)
  -- for how many seconds a route that was given back keeps its locks
  pub delays : List ℕ
  pub sensors : List Sensed
  pub waiting : Option ℕ

-- the table of a plan before any event
abbrev pub start : List Route → Table
start routes = record {
  routes = routes;
  stages = map lost_stage routes;
  wanted = replicate (length routes) false;
  again = replicate (length routes) false;
  trains = replicate (length routes) None;
  delays = replicate (length routes) 0;
  sensors = sensors_of routes;
  waiting = None;
}

-- the places of these routes
abbrev pub places : List Route → List ℕ
places routes = range_with_len 0 (length routes)

-- the routes at two places conflict
abbrev pub conflict_at : List Route → ℕ → ℕ → Bool
conflict_at routes n m =
    option_map_or (λ route. option_map_or (conflicts route) (slice_get routes m) false) (slice_get routes n) false

abbrev pub stage_at : List Stage → ℕ → Stage
stage_at stages n = unwrap_or (slice_get stages n) stage.Idle

abbrev pub wanted_at : List Bool → ℕ → Bool
wanted_at wanted n = unwrap_or (slice_get wanted n) false

abbrev pub train_at : List (Option Train) → ℕ → Option Train
train_at trains n = unwrap_or (slice_get trains n) None

abbrev pub delay_at : List ℕ → ℕ → ℕ
delay_at delays n = unwrap_or (slice_get delays n) 0

-- a route is not in the way of another: they do not conflict, or it is idle
abbrev pub lets : List Route → List Stage → ℕ → ℕ → Bool
lets routes stages n m = not (conflict_at routes n m) || is_idle (stage_at stages m)

-- no route is in the way of this one
abbrev pub is_clear : List Route → List Stage → ℕ → Bool
is_clear routes stages n = list_all (lets routes stages n) (places routes)

-- a route is held, and the fall of this sensor gives it back
abbrev pub is_freed : List Route → List Stage → Device → ℕ → Bool
is_freed routes stages sensor n =
    option_map_or (λ freeing. is_same freeing sensor && is_held (stage_at stages n))
    (option_and_then (λ (route : Route). route.frees) (slice_get routes n)) false

-- which routes are still wanted as this sensor falls: each that was, and is not given back
abbrev pub still_wanted : Table → Device → List Bool
still_wanted t sensor =
    map (λ n. wanted_at t.wanted n && not (is_freed t.routes t.stages sensor n)) (places t.routes)

-- the train of a route as it sends the order of a stage
abbrev pub train_sent : List Route → List (Option Train) → Stage → ℕ → Option Train
train_sent routes trains stage n =
    if option_map_or (λ route. lets_go route stage) (slice_get routes n) false then Some at_start else train_at trains n

-- the signal of a route is stopped though a train may have seen "go": its approach is not known to be free
abbrev pub stops_short : Route → List Sensed → Stage → Bool
stops_short route sensors stage = is_stopping stage && not (are_free sensors route.approach.items)

-- the delay of a route as it sends the order of a stage
abbrev pub delay_sent : List Route → List Sensed → List ℕ → Stage → ℕ → ℕ
delay_sent routes sensors delays stage n = option_map_or
    (λ (route : Route). if stops_short route sensors stage then route.delay else delay_at delays n)
    (slice_get routes n) (delay_at delays n)

-- the train of a route once something was told of a sensor
abbrev pub train_told : List Route → List Sensed → List (Option Train) → Sensed → ℕ → Option Train
train_told routes sensors trains told n =
    option_and_then (λ route. option_map (moved route sensors told) (train_at trains n)) (slice_get routes n)

-- then that train has passed each section but the last
abbrev pub has_passed : List Route → List Sensed → List (Option Train) → Sensed → ℕ → Bool
has_passed routes sensors trains told n = option_map_or
    (λ route. option_map_or (is_through route) (train_told routes sensors trains told n) false)
    (slice_get routes n) false

-- which routes are still wanted then: each that was, and whose train has not passed
abbrev pub wanted_behind : Table → Sensed → List Bool
wanted_behind t told =
    map (λ n. wanted_at t.wanted n && not (has_passed t.routes t.sensors t.trains told n)) (places t.routes)

-- the train of a route then, if the route is wanted
abbrev pub train_behind : List Route → List Sensed → List Bool → List (Option Train) → Sensed → ℕ → Option Train
train_behind routes sensors wanted trains told n =
    if wanted_at wanted n then train_told routes sensors trains told n else None

abbrev pub trains_behind : Table → List Bool → Sensed → List (Option Train)
trains_behind t wanted told = map (train_behind t.routes t.sensors wanted t.trains told) (places t.routes)
