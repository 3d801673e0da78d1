-- One step of the driver, with the places that have no locomotive.
use Rattle.std.specs.Prelude.{ℕ, suc, zero, List, Option, Some, None, if◌then◌else◌, is_some}
use Rattle.std.specs.Option.{option_map_or, option_or}
use Rattle.srcp_driver.specs.Steps.{Stepped, Table, step}
use Rattle.srcp_driver.specs.declared.event.Event.{Event}
use Rattle.srcp_driver.specs.declared.event.Event.TheVariants as event
use Rattle.srcp_driver.specs.declared.event.Orders.{Orders}
use Rattle.srcp_driver.specs.declared.event.Tell.{Tell}
use Rattle.srcp_driver.specs.declared.event.Tell.TheVariants as tell
use Rattle.srcp_drive.specs.Engines.{cab_at}
use Rattle.srcp_drive.specs.declared.engine.Engine.{Engine}

-- a table, and the orders that it has led to
abbrev pub asks : Table → Orders → Stepped
asks table orders = record { table = table; tell = orders.tell; put = orders.put }

-- an order is for a place that has no locomotive: this is what one would report
abbrev pub echo_of : List Engine → Option Tell → Option Event
echo_of engines (Some (tell.Cab n drive)) = if is_some (cab_at engines n) then None else Some (event.Said n drive)
echo_of engines other = None

-- a report is heard: the order that follows takes the place of the one that is answered
abbrev pub also : Stepped → Stepped → Stepped
also first more = record { table = more.table; tell = more.tell; put = option_or first.put more.put }

-- orders for places that have no locomotive are answered, as many as that
unfoldable pub answered : ℕ → List Engine → Stepped → Stepped
answered zero engines s = s
answered (suc left) engines s =
    option_map_or (λ event. answered left engines (also s (step s.table event))) (echo_of engines s.tell) s
