use Rattle.std.proofs.Common.{◌≡◌, ◌+◌, ◌≤◌, length, take}
use Rattle.srcp_index.specs.Indexed.{with_rows}
use Rattle.srcp_index.proofs.indexes.Indexes.insert_all.Given as goal

abbrev pub invariant-loop-row : goal.invariant-loop-row
invariant-loop-row l = record {
  both : l.self ≡ with_rows (take l.row-index l.rows) l.initial.self;
  moments : length l.self.moments.pairs + length l.rows ≤ l.self.moments.reserved + l.row-index;
  sessions : length l.self.sessions.pairs + length l.rows ≤ l.self.sessions.reserved + l.row-index;
}
