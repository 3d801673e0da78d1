-- What one route orders at each stage, and which stage comes after it.
use Rattle.std.specs.Prelude.{ℕ, ◌+◌, ◌-◌, ◌==◌, Bool, true, false, Option, Some, None, nat_lt, length}
use Rattle.std.specs.Prelude.{if◌then◌else◌, slice_get}
use Rattle.std.specs.Option.{option_map, option_map_or}
use Rattle.srcp_routes.specs.declared.route.Order.{Order}
use Rattle.srcp_routes.specs.declared.route.Order.TheVariants as order
use Rattle.srcp_routes.specs.declared.route.Route.{Route}
use Rattle.srcp_routes.specs.declared.route.Setting.{Setting}
use Rattle.srcp_routes.specs.declared.route.Signal.{Signal}
use Rattle.srcp_routes.specs.declared.stage.Stage.{Stage}
use Rattle.srcp_routes.specs.declared.stage.Stage.TheVariants as stage

-- how many turnouts a route has
abbrev pub count_of : Route → ℕ
count_of route = length route.turnouts.items

-- the turnout of a route at a place
abbrev pub turnout_at : Route → ℕ → Option Setting
turnout_at route place = slice_get route.turnouts.items place

-- how a signal shows "go", and how "stop"
abbrev pub show_setting : Signal → Setting
show_setting signal = record { device = signal.device; port = signal.go }

abbrev pub stop_setting : Signal → Setting
stop_setting signal = record { device = signal.device; port = signal.stop }

-- the order of a route at a stage, if it has one there
abbrev pub order_of : Route → Stage → Option Order
order_of route (stage.Locking done) =
    option_map (λ (setting : Setting). order.Lock setting.device) (turnout_at route done)
order_of route (stage.Throwing done) = option_map order.Throw (turnout_at route done)
order_of route (stage.Unlocking left) =
    option_map (λ (setting : Setting). order.Unlock setting.device) (turnout_at route left)
order_of route stage.Showing = option_map (λ signal. order.Show (show_setting signal)) route.signal
order_of route stage.Clearing = option_map (λ signal. order.Stop (stop_setting signal)) route.signal
order_of route stage.Stopping = option_map (λ signal. order.Stop (stop_setting signal)) route.signal
order_of route (stage.Falling told) = option_map (λ signal. order.Stop (stop_setting signal)) route.signal
order_of route (stage.Fallen false) = Some (order.Report route.number true)
order_of route stage.Reporting = Some (order.Report route.number true)
order_of route stage.Closing = Some (order.Report route.number false)
order_of route stage.Hiding = Some (order.Report route.number false)
order_of route other = None

-- this number of locks is to be given up, from the last
abbrev pub left_stage : ℕ → Stage
left_stage left = if left == 0 then stage.Idle else stage.Unlocking (left - 1)

-- the stage of a route that has a signal, or that of one that has none
abbrev pub by_signal : Route → Stage → Stage → Stage
by_signal route with_one without = option_map_or (λ signal. with_one) route.signal without

-- a route whose signal may show "go" is given back: the signal, if it has one, stops first
abbrev pub leaving_stage : Route → Stage
leaving_stage route = by_signal route stage.Stopping stage.Hiding

-- a command session begins: no lock is held, and the signal, if there is one, stops first
abbrev pub lost_stage : Route → Stage
lost_stage route = by_signal route stage.Clearing stage.Closing

-- a route begins, by its first lock; one without turnouts, whose blocks are free, shows its signal at once
abbrev pub first_stage : Route → Stage
first_stage route =
    if count_of route == 0 then by_signal route stage.Showing stage.Reporting else stage.Locking 0

-- the order was accepted, or refused: then what was done is undone, and a signal that cannot be stopped keeps its route
abbrev pub after_reply : Route → Stage → Bool → Stage
after_reply route stage.Clearing ok = if ok then stage.Closing else stage.Blocked
after_reply route stage.Closing ok = stage.Idle
after_reply route (stage.Locking done) true =
    if nat_lt (done + 1) (count_of route) then stage.Locking (done + 1) else stage.Throwing 0
after_reply route (stage.Locking done) false = left_stage done
after_reply route (stage.Throwing done) true =
    if nat_lt (done + 1) (count_of route) then stage.Throwing (done + 1)
    else by_signal route stage.Ready stage.Reporting
after_reply route (stage.Throwing done) false = stage.Hiding
after_reply route stage.Showing ok = if ok then stage.Reporting else stage.Stopping
after_reply route stage.Reporting ok = if ok then stage.Set else leaving_stage route
after_reply route (stage.Falling told) ok = if ok then stage.Fallen told else stage.Stuck
after_reply route (stage.Fallen false) ok = if ok then stage.Fallen true else stage.Hiding
after_reply route stage.Stopping ok = if ok then stage.Hiding else stage.Stuck
after_reply route stage.Hiding ok = left_stage (count_of route)
after_reply route (stage.Unlocking left) ok = left_stage left
after_reply route other ok = other

-- a route is given back whose signal could not be stopped: it is to be stopped again
abbrev pub retried_stage : Stage → Stage
retried_stage stage.Blocked = stage.Clearing
retried_stage stage.Stuck = stage.Stopping
retried_stage other = other

-- a route that is not wanted goes back
abbrev pub turned_back : Route → Stage → Stage
turned_back route (stage.Locking done) = left_stage done
turned_back route (stage.Throwing done) = stage.Hiding
turned_back route stage.Ready = stage.Hiding
turned_back route stage.Reporting = leaving_stage route
turned_back route stage.Set = leaving_stage route
turned_back route (stage.Fallen told) = stage.Hiding
turned_back route other = other

-- the stage whose order a route may send next: it begins if it may, its signal is shown only if it is wanted and its
-- blocks are free, and it goes back if it is not wanted
abbrev pub ready_stage : Route → (wanted free begins : Bool) → Stage → Stage
ready_stage route wanted free begins stage.Idle = if begins then first_stage route else stage.Idle
ready_stage route wanted free begins stage.Showing = stage.Stopping
ready_stage route true true begins stage.Ready = stage.Showing
ready_stage route true free begins other = other
ready_stage route false free begins other = turned_back route other

-- the signal of a route that shows "go", and is told to be set or about to be, falls once the train has entered
abbrev pub falls : Route → (entered : Bool) → Stage → Stage
falls route true stage.Reporting = by_signal route (stage.Falling false) stage.Reporting
falls route true stage.Set = by_signal route (stage.Falling true) stage.Set
falls route entered other = other

abbrev pub is_idle : Stage → Bool
is_idle stage.Idle = true
is_idle other = false

-- the signal of a route that is given back is to be stopped
abbrev pub is_stopping : Stage → Bool
is_stopping stage.Stopping = true
is_stopping other = false

-- a route that was given back is to be told not to be set, and then to give up its locks
abbrev pub is_hiding : Stage → Bool
is_hiding stage.Hiding = true
is_hiding other = false

-- a route holds locks, or may be about to
abbrev pub is_held : Stage → Bool
is_held stage.Idle = false
is_held stage.Clearing = false
is_held stage.Blocked = false
is_held stage.Closing = false
is_held other = true
