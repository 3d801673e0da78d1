use Rattle.std.proofs.Common.{◌≡◌, drop}
use Rattle.std.specs.List.{flat_map}
use Rattle.srcp_rules.specs.State.{row_after}
use Rattle.srcp_info.specs.declared.key.TheConstants.{GROUPS}
use Rattle.srcp_rules.specs.Nested.{bus_rows, group_rows}
use Rattle.srcp_rules.proofs.nested.bus_rows.BusRows.row_after.Given as goal

abbrev pub invariant-loop-group : goal.invariant-loop-group
invariant-loop-group l =
    row_after l.cursor (bus_rows l.self) ≡ row_after l.cursor (flat_map (group_rows l.self) (drop l.group-index GROUPS))
