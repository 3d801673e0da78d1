use Rattle.srcp_rules.proofs.Names.{◌≡◌, ◌+◌, ◌≤◌, length, take, put_rows, IsRising}
use Rattle.std.proofs.Common.{vec_len, vec_capacity}
use Rattle.srcp_rules.proofs.sorted_rows.add_all.Given as goal

abbrev pub invariant-loop-row : goal.invariant-loop-row
invariant-loop-row l = record {
  rows : l.rows.items ≡ put_rows (take l.row-index l.added) l.initial.rows.items;
  rising : IsRising l.rows.items;
  room : vec_len l.rows + length l.added ≤ vec_capacity l.rows + l.row-index;
}
