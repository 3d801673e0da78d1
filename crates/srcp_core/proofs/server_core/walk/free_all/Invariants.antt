use Rattle.srcp_core.proofs.Names.{◌≡◌, length, map, freed, IsWhole, updated_all, panel_keys, told_each}
use Rattle.srcp_core.proofs.Invariants.ChangesOneByOne.{change_in}
use Rattle.srcp_core.proofs.server_core.walk.free_all.Given as goal

abbrev pub invariant-loop-change : goal.invariant-loop-change
invariant-loop-change g l = record {
  layout : g.R.Rows.buses l.rows ≡ g.R.Rows.buses l.fn.rows;
  whole : IsWhole (g.R.Rows.buses l.fn.rows) (g.R.Rows.state l.rows);
  rows : updated_all (freed (g.R.Rows.state l.rows) l.session l.moment) (g.R.Rows.state l.rows)
      ≡ updated_all (freed (g.R.Rows.state l.fn.rows) l.session l.moment) (g.R.Rows.state l.fn.rows);
  panels : l.panels ≡ panel_keys l.connections.slots;
  slots : told_each (map change_in (freed (g.R.Rows.state l.rows) l.session l.moment)) l.connections.slots
      ≡ told_each (map change_in (freed (g.R.Rows.state l.fn.rows) l.session l.moment)) l.fn.connections.slots;
  capacity : l.connections.capacity ≡ l.fn.connections.capacity;
}

abbrev pub decreases-loop-change : goal.decreases-loop-change
decreases-loop-change g l = length (freed (g.R.Rows.state l.rows) l.session l.moment)
