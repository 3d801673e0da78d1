use Rattle.srcp_core.proofs.Agreement.RecordIsOfTheCourse.{finish_step_none, finish_noted}
use Rattle.srcp_core.proofs.recorder.finish_all.Goals as goal
use Rattle.srcp_core.proofs.recorder.finish_all.Goals.{in-Some, in_default}
use Rattle.srcp_core.proofs.Names.{add-one}

pub loop-index-preserved : goal.loop-index-preserved
loop-index-preserved g c = elim c.match-keys-index.branch [
  | in-Some w ↦ cc (
    w.connections-is,
    finish_noted c.args.core.now c.loop-index.index w.in-Some.key c.args.keys.now c.args.connections.now.items
        c.loop-index.connections.items _ w.finish_of.result w.in-Some.is w.finish_of.ensures
        c.loop-index.invariant w.set_finish.ensures,
  )
  | in_default w ↦ cc (
    w.connections-is,
    finish_step_none c.args.core.now c.loop-index.index c.args.keys.now c.args.connections.now.items w.in_default.is,
    add-one c.loop-index.index,
    c.loop-index.invariant,
  )
]
