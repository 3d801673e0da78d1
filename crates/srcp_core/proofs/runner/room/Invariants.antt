use Rattle.srcp_core.proofs.Names.{◌≡◌, Keeps}
use Rattle.srcp_core.proofs.Agreement.RunsAnEvent.{GivesOn}
use Rattle.srcp_core.proofs.runner.room.Given as goal

abbrev pub invariant-loop-count : goal.invariant-loop-count
invariant-loop-count g l = record {
  gives : Keeps g.D.Detail.IN_FULL (λ first_r r. GivesOn l.conn l.key l.bytes first_r l.fn.core l.left r l.core) l.fn.recorder l.recorder;
  denied : l.core.denied ≡ l.fn.core.denied;
}

abbrev pub decreases-loop-count : goal.decreases-loop-count
decreases-loop-count g l = l.left
