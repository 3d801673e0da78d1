use Rattle.srcp_core.proofs.Names.{◌≡◌, take}
use Rattle.std.specs.Prelude.{fold}
use Rattle.srcp_core.proofs.Invariants.EveryPlaceIsTold.{told_key}
use Rattle.srcp_core.proofs.server_core.walk.tell_all.Given as goal

abbrev pub invariant-loop-key : goal.invariant-loop-key
invariant-loop-key l = record {
  slots : l.connections.slots ≡ fold (told_key l.change) l.fn.connections.slots (take l.key-index l.panels);
  capacity : l.connections.capacity ≡ l.fn.connections.capacity;
}
