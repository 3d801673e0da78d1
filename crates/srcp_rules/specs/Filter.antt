-- Filters of rows.
use Rattle.std.specs.Prelude.{Bool}
use Rattle.srcp_info.specs.declared.change.Row.{Row}
use Rattle.srcp_rules.specs.declared.filter.RowFilter.{RowFilter}
use Rattle.srcp_rules.specs.declared.filter.RowFilter.TheVariants.{Due, HeldBy}
use Rattle.srcp_rules.specs.Due.{is_due, is_held_by}

-- the filter passes the row: the row is due, or is a lock of the session
abbrev pub passes : RowFilter → Row → Bool
passes (Due moment) row = is_due moment row
passes (HeldBy session) row = is_held_by session row
