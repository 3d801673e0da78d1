use Rattle.srcp_core.proofs.Names.{◌≡◌, take, finished}
use Rattle.srcp_core.proofs.recorder.finish_all.Given as goal

abbrev pub invariant-loop-index : goal.invariant-loop-index
invariant-loop-index g l = l.connections.items ≡ finished l.core (take l.index l.keys) l.fn.connections.items
