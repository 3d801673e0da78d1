use Rattle.srcp_core.proofs.Agreement.OutlinesAreKept.{keeps_changed, keeps_same}
use Rattle.srcp_core.proofs.Agreement.RunsAnEvent.{open_happens, open_refused}
use Rattle.srcp_core.proofs.runner.open.Goals as goal

pub returns-in_ok-opened-in-Ok : goal.returns-in_ok-opened-in-Ok
returns-in_ok-opened-in-Ok g c =
    keeps_changed _ _ _ (λ r e. open_happens c.in-Ok.key r _ _ c.in-Ok.ensures.admitted) c.in_ok-opened-in-Ok.ensures

pub returns-in-Err : goal.returns-in-Err
returns-in-Err g c = keeps_same _ (λ r e. open_refused r _ _ _
    c.in-Err.ensures.refused)
