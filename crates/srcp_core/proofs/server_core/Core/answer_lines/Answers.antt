use Rattle.srcp_core.proofs.Invariants.LinesAreFound.{line_added}
use Rattle.srcp_core.proofs.server_core.Core.answer_lines.Goals as goal

pub loop-stop-preserved : goal.loop-stop-preserved
loop-stop-preserved g c = line_added _ _ _ _ _ _ _ _ c.in-Some.ensures.line c.loop-stop.invariant
