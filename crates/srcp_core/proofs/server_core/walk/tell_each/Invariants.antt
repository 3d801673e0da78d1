use Rattle.srcp_core.proofs.Names.{◌≡◌, take, told_each}
use Rattle.srcp_core.proofs.server_core.walk.tell_each.Given as goal

abbrev pub invariant-loop-change : goal.invariant-loop-change
invariant-loop-change l = record {
  slots : l.connections.slots ≡ told_each (take l.change-index l.changes) l.fn.connections.slots;
  capacity : l.connections.capacity ≡ l.fn.connections.capacity;
}
