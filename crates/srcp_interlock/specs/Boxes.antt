-- What a box makes of the lines that it is sent.
use Rattle.std.specs.Prelude.{◌≡◌, ℕ, Bool, true, false, if◌then◌else◌, List, Option, Some, None, is_some, map}
use Rattle.std.specs.Prelude.{option_map}
use Rattle.std.specs.Option.{option_map_or}
use Rattle.srcp_routes.specs.Plan.{Table, start}
use Rattle.srcp_routes.specs.Steps.{Stepped, step}
use Rattle.srcp_routes.specs.declared.interlocking.Event.{Event}
use Rattle.srcp_routes.specs.declared.interlocking.Event.TheVariants.{Lost}
use Rattle.srcp_routes.specs.declared.route.Route.{Route}
use Rattle.srcp_interlock.specs.Hearing.{Hears}
use Rattle.srcp_interlock.specs.Orders.{order_line}

-- a box: the bus of its routes, their numbers, whether a command session has begun, and the table of the routes
pub record Box : Type 0 where
  pub own : ℕ
  pub numbers : List ℕ
  pub begun : Bool
  pub table : Table

-- a box before any line
abbrev pub box_of : (own : ℕ) → List Route → Box
box_of own routes = record {
  own = own;
  numbers = map (λ (route : Route). route.number) routes;
  begun = false;
  table = start routes;
}

-- what counts of that which a line told: nothing before a command session has begun
abbrev pub counted : (begun : Bool) → Option Event → Option Event
counted begun (Some Lost) = Some Lost
counted true event = event
counted false event = None

-- a command session has begun, by then or before
abbrev pub has_begun : (begun : Bool) → Option Event → Bool
has_begun begun event = if is_some (counted begun event) then true else begun

-- the table after what a line told, and the order that is sent then
abbrev pub stepped : Box → Option Event → Stepped
stepped b event = option_map_or (step b.table) (counted b.begun event) (record { table = b.table; order = None })

-- the box after what a line told
abbrev pub box_after : Box → Option Event → Box
box_after b event = record b { begun = has_begun b.begun event; table = (stepped b event).table }

-- the line that it sends then, if it sends one
abbrev pub box_sends : Box → Option Event → Option (List ℕ)
box_sends b event = option_map (order_line b.own) (stepped b event).order

-- a box takes in a line: it is told of an event or of none, goes on by it, and sends this line or none
pub record TakesIn (old : Box) (text : List ℕ) (new : Box) (sent : Option (List ℕ)) : Type 0 where
  pub event : Option Event
  pub hears : Hears old.own old.numbers text event
  pub after : new ≡ box_after old event
  pub sends : sent ≡ box_sends old event
