use Rattle.srcp_core.proofs.Names.{◌≡◌, take, AllByRecursion, Recording, kept, HasPlainMoment}
use Rattle.srcp_core.proofs.Agreement.RecordIsOfTheCourse.{RunsUnder}
use Rattle.srcp_core.proofs.runner.carry_out.Given as goal

abbrev pub invariant-loop-index : goal.invariant-loop-index
invariant-loop-index g l = record {
  runs : (r : Recording) × (l.recorder ≡ kept g.D.Detail.IN_FULL r) × RunsUnder l.layout (take l.index l.events) r l.core;
  moments : AllByRecursion HasPlainMoment (take l.index l.events);
}
