-- The rows of a keeper, and the rows that may be added.
use Rattle.std.specs.Prelude.{◌≡◌, ℕ, ◌+◌, ◌≤◌, false, List, map, fold, length}
use Rattle.std.specs.List.{AllByRecursion, range_with_len}
use Rattle.srcp_info.specs.Limits.{most_ports}
use Rattle.srcp_info.specs.declared.key.Device.{Device}
use Rattle.srcp_info.specs.declared.key.Group.{Group}
use Rattle.srcp_info.specs.declared.key.Group.TheVariants.{Gl, Ga}
use Rattle.srcp_info.specs.declared.change.Row.{Row}
use Rattle.srcp_grammar.specs.declared.layout.Bus.{Bus}
use Rattle.srcp_grammar.specs.Layout.{row_count}
use Rattle.srcp_grammar.specs.Devices.{key_at}
use Rattle.srcp_rules.specs.State.{State, IsRowOf, has_row, put_row}

-- the buses of a layout, and the rows in key order
pub record Kept : Type 0 where
  pub buses : List Bus
  pub state : State

-- the rows, with these rows at their keys
abbrev pub put_rows : List Row → State → State
put_rows rows state = fold (λ before row. put_row row before) state rows

-- how many rows a device of the group has at most
abbrev pub most_rows : Group → ℕ
most_rows Gl = 2
most_rows Ga = 1 + most_ports
most_rows other = 1

-- these are all the rows of the device, in key order
pub record AreRowsOf (buses : List Bus) (device : Device) (rows : List Row) : Type 0 where
  pub keys : map (λ row. row.shown.key) rows ≡ map (key_at device) (range_with_len 0 (row_count buses device))
  pub few : length rows ≤ most_rows Ga
  pub each : AllByRecursion (IsRowOf buses) rows

-- these are all the rows of the device, and the registry has none of these rows yet
pub record AreNewRowsOf (buses : List Bus) (state : State) (device : Device) (rows : List Row) : Type 0 where
  pub all : AreRowsOf buses device rows
  pub free : (port : ℕ) → has_row (key_at device port) state ≡ false
