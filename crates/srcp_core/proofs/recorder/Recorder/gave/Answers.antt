use Rattle.srcp_core.proofs.Names.{sym, ◌∙◌, item_at}
use Rattle.srcp_core.proofs.Agreement.OutlinesAreKept.{stays, gave_aside}
use Rattle.srcp_core.proofs.recorder.Recorder.gave.Goals as goal

pub returns-then-not-IN_FULL : goal.returns-then-not-IN_FULL
returns-then-not-IN_FULL g c =
    let item = item_at c.args.key c.args.core.now in
    stays _ _ (sym c.IN_FULL.ensures ∙ c.if-not-IN_FULL.true) (gave_aside c.args.conn item)
