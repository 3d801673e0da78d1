use Rattle.std.proofs.Common.{◌≡◌}
use Rattle.srcp_index.specs.Indexed.{IsIndexed}
use Rattle.srcp_index.proofs.DroppedDeviceLaws.{but_below}
use Rattle.srcp_index.proofs.indexed.IndexedRows.drop_device.Given as goal

abbrev pub invariant-loop-port : goal.invariant-loop-port
invariant-loop-port g l = record {
  rows : l.self-inside.rows ≡ l.initial.self-inside.rows;
  indexed : IsIndexed (but_below l.device l.port (g.R.Rows.state l.initial.self-inside.rows)) l.self-inside.indexes l.self-inside.count;
}
