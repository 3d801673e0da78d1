use Rattle.std.proofs.Common.{Ok, Err, None}
use Rattle.srcp_serve.proofs.TurnsFollow.{accepts_nobody, accepts_peer}
use Rattle.srcp_serve.proofs.serving.Server.accept_one.Goals as goal

pub returns-in-Ok-None-clause-course : goal.returns-in-Ok-None-clause-course
returns-in-Ok-None-clause-course g c = accepts_nobody _ _ _ _ (Ok None) tt (rw c.in-Ok-None.field-0-is at c.in-Ok-None.ensures.trace)

pub returns-in-Ok-Some-clause-course : goal.returns-in-Ok-Some-clause-course
returns-in-Ok-Some-clause-course g c =
    accepts_peer _ _ _ _ _
    _ _ _ _
    (rw c.in-Ok-Some.field-0-is at c.in-Ok-Some.ensures.trace) c.connect.ensures.calls.asks c.connect.ensures.course

pub returns-in-Err-clause-course : goal.returns-in-Err-clause-course
returns-in-Err-clause-course g c = accepts_nobody _ _ _ _ (Err c.in-Err.field-0) tt c.in-Err.ensures.trace
