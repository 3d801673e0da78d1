-- How far the train of a route has come over the sections of its way.
use Rattle.std.specs.Prelude.{ℕ, ◌+◌, ◌-◌, ◌==◌, Bool, true, false, not, ◌&&◌, Option, List, nat_lt, length}
use Rattle.std.specs.Prelude.{if◌then◌else◌, is_some, slice_get}
use Rattle.std.specs.Option.{option_map_or}
use Rattle.srcp_routes.specs.Conflicts.{is_occupied, is_same, is_taken, is_vacant}
use Rattle.srcp_routes.specs.declared.conflict.Sensed.{Sensed}
use Rattle.srcp_routes.specs.declared.route.Device.{Device}
use Rattle.srcp_routes.specs.declared.route.Route.{Route}
use Rattle.srcp_routes.specs.declared.stage.Stage.{Stage}
use Rattle.srcp_routes.specs.declared.stage.Stage.TheVariants as stage
use Rattle.srcp_routes.specs.declared.train.Train.{Train}

-- a route lets a train go: it shows "go", or tells that it is set if it has no signal
abbrev pub lets_go : Route → Stage → Bool
lets_go route stage.Showing = true
lets_go route stage.Reporting = not (is_some route.signal)
lets_go route other = false

-- a train that was just let go
abbrev pub at_start : Train
at_start = record { head = 0; tail = 0 }

-- a train, if there is one, has entered the first section
abbrev pub has_entered : Option Train → Bool
has_entered train = option_map_or (λ (train : Train). nat_lt 0 train.head) train false

-- a sensor is the section of a route at a place
abbrev pub is_section : Route → ℕ → Device → Bool
is_section route place sensor =
    option_map_or (λ section. is_same section sensor) (slice_get route.sections.items place) false

-- the section of a route at a place is occupied
abbrev pub is_taken_at : Route → List Sensed → ℕ → Bool
is_taken_at route sensors place = option_map_or (is_occupied sensors) (slice_get route.sections.items place) false

-- a train enters the next section as that is told to be occupied
abbrev pub head_told : Route → Sensed → Train → ℕ
head_told route told train =
    if is_taken told.occupancy && is_section route train.head told.sensor then train.head + 1 else train.head

-- a train has passed the next section as that is told to be free, while the one behind it is entered and occupied
abbrev pub tail_told : Route → List Sensed → Sensed → Train → ℕ
tail_told route sensors told train =
    if is_vacant told.occupancy && (is_section route train.tail told.sensor
    && (nat_lt (train.tail + 1) train.head && is_taken_at route sensors (train.tail + 1)))
    then train.tail + 1 else train.tail

-- a train once something was told of a sensor
abbrev pub moved : Route → List Sensed → Sensed → Train → Train
moved route sensors told train =
    record { head = head_told route told train; tail = tail_told route sensors told train }

-- a train has passed each section of a route but the last
abbrev pub is_through : Route → Train → Bool
is_through route train = nat_lt 0 train.tail && (train.tail == length route.sections.items - 1)
