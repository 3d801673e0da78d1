use Rattle.srcp_core.proofs.Agreement.OutlinesAreKept.{keeps_then}
use Rattle.srcp_core.proofs.Agreement.RecordIsOfTheCourse.{follows}
use Rattle.srcp_core.proofs.runner.follow.Goals as goal

pub returns-in_ok-refused-clause-course : goal.returns-in_ok-refused-clause-course
returns-in_ok-refused-clause-course g c =
    keeps_then c.args.recorder.now c.happen.new.recorder c.refused.new.self
    (λ r s t e happens is. follows c.args.number c.args.event.now c.in_ok-fault.field-0 r s t c.args.core.now c.happen.new.core happens
    (cc c.in-Some.is))
    c.in_ok-fault.ensures.course c.in_ok-refused.ensures
