use Rattle.srcp_core.proofs.Names.{length, ◌-◌, ◌≤◌, AnswersFit, Keeps}
use Rattle.srcp_core.proofs.Agreement.RunsBytes.{ReadsOn}
use Rattle.srcp_core.proofs.runner.bytes.Given as goal

abbrev pub invariant-loop-stop : goal.invariant-loop-stop
invariant-loop-stop g l = record {
  few : length l.piece ≤ 256;
  fits : AnswersFit l.key l.piece l.start l.core;
  reads : Keeps g.D.Detail.IN_FULL (λ first_r r. ReadsOn l.conn l.key l.piece first_r l.fn.core l.start r l.core) l.fn.recorder l.recorder;
}

abbrev pub decreases-loop-stop : goal.decreases-loop-stop
decreases-loop-stop g l = length l.piece - l.start
