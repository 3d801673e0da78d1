-- What each event makes of the table of all routes, and which order is sent then.
use Rattle.std.specs.Prelude.{ℕ, ◌-◌, Bool, true, false, ◌&&◌, ◌||◌, Option, Some, None, List, find, map, fold}
use Rattle.std.specs.Prelude.{if◌then◌else◌, nat_lt, slice_get, slice_set, option_and_then, is_some}
use Rattle.std.specs.Option.{option_map_or}
use Rattle.srcp_routes.specs.Conflicts.{are_free, is_occupied, is_vacant, told_sensor}
use Rattle.srcp_routes.specs.Plan.{Table, delay_at, delay_sent, start, places, stage_at, train_at, train_sent}
use Rattle.srcp_routes.specs.Plan.{is_clear, still_wanted, trains_behind, wanted_at, wanted_behind}
use Rattle.srcp_routes.specs.Stages.{after_reply, falls, is_hiding, is_idle, order_of, ready_stage, retried_stage}
use Rattle.srcp_routes.specs.Trains.{has_entered}
use Rattle.srcp_routes.specs.declared.conflict.Sensed.{Sensed}
use Rattle.srcp_routes.specs.declared.interlocking.Event.{Event}
use Rattle.srcp_routes.specs.declared.interlocking.Event.TheVariants.{Ask, Give, Told, Second, Reply, Lost}
use Rattle.srcp_routes.specs.declared.route.Device.{Device}
use Rattle.srcp_routes.specs.declared.route.Occupancy.{Occupancy}
use Rattle.srcp_routes.specs.declared.route.Order.{Order}
use Rattle.srcp_routes.specs.declared.route.Route.{Route}
use Rattle.srcp_routes.specs.declared.stage.Stage.{Stage}
use Rattle.srcp_routes.specs.declared.stage.Stage.TheVariants as stage

-- the table after an event, and the order that is sent then
pub record Stepped : Type 0 where
  pub table : Table
  pub order : Option Order

-- a route is idle and wanted, its blocks are free, and no route is in its way
abbrev pub may_begin : Table → ℕ → Bool → Bool
may_begin t n free =
    is_idle (stage_at t.stages n) && (wanted_at t.wanted n && (free && is_clear t.routes t.stages n))

-- the stage whose order a route may send next
abbrev pub ready_in : Table → ℕ → Route → Stage
ready_in t n route = let free = are_free t.sensors route.blocks.items in
    falls route (has_entered (train_at t.trains n))
    (ready_stage route (wanted_at t.wanted n) free (may_begin t n free) (stage_at t.stages n))

abbrev pub ready_at : Table → ℕ → Stage
ready_at t n = option_map_or (ready_in t n) (slice_get t.routes n) stage.Idle

-- a route that was given back keeps its locks for its delay
abbrev pub is_kept : Table → ℕ → Bool
is_kept t n = is_hiding (stage_at t.stages n) && nat_lt 0 (delay_at t.delays n)

-- the order that a route may send next
abbrev pub order_at : Table → ℕ → Option Order
order_at t n =
    if is_kept t n then None else option_and_then (λ route. order_of route (ready_at t n)) (slice_get t.routes n)

-- the first route that may send an order
abbrev pub due : Table → Option ℕ
due t = find (λ n. is_some (order_at t n)) (places t.routes)

-- this route, if there is one, sends its order
abbrev pub sent : Table → Option ℕ → Stepped
sent t None = record { table = t; order = None }
sent t (Some n) = record {
  table = record t {
    stages = slice_set t.stages n (ready_at t n);
    trains = slice_set t.trains n (train_sent t.routes t.trains (ready_at t n) n);
    delays = slice_set t.delays n (delay_sent t.routes t.sensors t.delays (ready_at t n) n);
    waiting = Some n;
  };
  order = order_at t n;
}

-- the next order is sent, if none waits for its reply
abbrev pub next : Table → Stepped
next t = if is_some t.waiting then record { table = t; order = None } else sent t (due t)

-- a route that is asked for is wanted from then on; but a route that was given back ends first
abbrev pub is_taken_up : Table → ℕ → Bool
is_taken_up t n = is_idle (stage_at t.stages n) || wanted_at t.wanted n

abbrev pub asked : Table → ℕ → Table
asked t n = record t {
  wanted = if is_taken_up t n then slice_set t.wanted n true else t.wanted;
  again = if is_taken_up t n then t.again else slice_set t.again n true;
}

-- a route is given back; a signal that could not be stopped is to be stopped again
abbrev pub given : Table → ℕ → Table
given t n = record t {
  stages = slice_set t.stages n (retried_stage (stage_at t.stages n));
  wanted = slice_set t.wanted n false;
  again = slice_set t.again n false;
  trains = slice_set t.trains n None;
}

-- something is told of a sensor; its fall from 1 to 0 gives back each held route that it frees
abbrev pub told : Table → Device → Occupancy → Table
told t sensor now = record t {
  sensors = map (told_sensor sensor now) t.sensors;
  wanted = if is_vacant now && is_occupied t.sensors sensor then still_wanted t sensor else t.wanted;
}

-- then the trains have come as far as that says, and each that has passed gives its route back
abbrev pub followed : Table → Sensed → Table
followed t told = record t {
  wanted = wanted_behind t told;
  trains = trains_behind t (wanted_behind t told) told;
}

-- a second less of a delay
abbrev pub less : ℕ → ℕ
less delay = delay - 1

-- the stage of a route after the reply to its order
abbrev pub stage_replied : Table → ℕ → Bool → Stage
stage_replied t n ok =
    option_map_or (λ (route : Route). after_reply route (stage_at t.stages n) ok) (slice_get t.routes n) stage.Idle

-- a route ends by the reply to its order, and was asked for again before
abbrev pub is_renewed : Table → Bool → ℕ → Bool
is_renewed t ok n = ok && (is_idle (stage_replied t n ok) && wanted_at t.again n)

-- which routes are wanted after the reply to the order of a route; what is refused is not
abbrev pub wanted_after : Table → Bool → ℕ → List Bool
wanted_after t ok n =
    if is_renewed t ok n then slice_set t.wanted n true else (if ok then t.wanted else slice_set t.wanted n false)

abbrev pub again_after : Table → Bool → ℕ → List Bool
again_after t ok n =
    if is_renewed t ok n then slice_set t.again n false else (if ok then t.again else slice_set t.again n false)

-- the order of a route is accepted or refused
abbrev pub answered : Table → Bool → ℕ → Table
answered t ok n = record t {
  stages = slice_set t.stages n (stage_replied t n ok);
  wanted = wanted_after t ok n;
  again = again_after t ok n;
  trains = if ok then t.trains else slice_set t.trains n None;
  waiting = None;
}

-- a route is asked for or given back, a sensor is told, a second has passed, or the order that waits is accepted or
-- refused; as a session begins all is as at the start, but what is known of sensors
abbrev pub heard : Table → Event → Table
heard t (Ask n) = asked t n
heard t (Give n) = given t n
heard t (Told sensor now) = followed (told t sensor now) (record { sensor = sensor; occupancy = now })
heard t Second = record t { delays = map less t.delays }
heard t (Reply ok) = option_map_or (answered t ok) t.waiting t
heard t Lost = record (start t.routes) { sensors = t.sensors }

abbrev pub step : Table → Event → Stepped
step t event = next (heard t event)

-- the table after an event
abbrev pub after : Table → Event → Table
after t event = (step t event).table

-- the table after a list of events
abbrev pub course : List Route → List Event → Table
course routes events = fold after (start routes) events
