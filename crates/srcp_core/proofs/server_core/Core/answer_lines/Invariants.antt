use Rattle.srcp_core.proofs.Names.{◌-◌, length}
use Rattle.srcp_core.proofs.Invariants.LinesAreFound.{AreAnswered}
use Rattle.srcp_core.proofs.server_core.Core.answer_lines.Given as goal

abbrev pub invariant-loop-stop : goal.invariant-loop-stop
invariant-loop-stop g l = AreAnswered l.conn l.piece l.fn.self l.start l.self

abbrev pub decreases-loop-stop : goal.decreases-loop-stop
decreases-loop-stop g l = length l.piece - l.start
