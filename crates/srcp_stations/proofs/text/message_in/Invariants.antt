use Rattle.std.proofs.Common.{◌≡◌, ◌≤◌, false, drop, length}
use Rattle.std.specs.List.{list_any}
use Rattle.srcp_stations.specs.Text.{is_open}
use Rattle.srcp_stations.proofs.text.message_in.Given as goal

-- no `<` stands behind
abbrev pub invariant-loop-start : goal.invariant-loop-start
invariant-loop-start l = record {
  within : l.start ≤ length l.bytes;
  none : list_any is_open (drop l.start l.bytes) ≡ false;
}

abbrev pub decreases-loop-start : goal.decreases-loop-start
decreases-loop-start l = l.start
