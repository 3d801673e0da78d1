use Rattle.srcp_core.proofs.Names.{sym, ◌∙◌}
use Rattle.srcp_core.proofs.Agreement.OutlinesAreKept.{stays, began_aside}
use Rattle.srcp_core.proofs.recorder.Recorder.began.Goals as goal

pub returns-then-not-IN_FULL : goal.returns-then-not-IN_FULL
returns-then-not-IN_FULL g c = stays _ _
    (sym c.IN_FULL.ensures ∙ c.if-not-IN_FULL.true) (began_aside c.args.conn c.args.step.now)
