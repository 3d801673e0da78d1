use Rattle.srcp_core.proofs.Names.{sym, ap, ◌∙◌, shown_rows, Place, item_of, gave}
use Rattle.std.proofs.Common.{Option}
use Rattle.srcp_core.proofs.Agreement.OutlinesAreKept.{becomes_as}
use Rattle.srcp_core.proofs.Agreement.RunsAnEvent.{taking_none}
use Rattle.srcp_core.proofs.runner.take.Goals as goal

pub returns-in-Err-clause-recorder : goal.returns-in-Err-clause-recorder
returns-in-Err-clause-recorder g c =
    let held = c.args.core.now in
    let absent = c.in-Err.ensures.absent.1 in
    becomes_as _ _ _ _
    (λ r. ap (λ (place : Option Place). gave c.args.conn (item_of (shown_rows held.rows) place) r) absent
    ∙ sym (taking_none _ _ _ held r absent).0)
    c.in_ok-gave.ensures
