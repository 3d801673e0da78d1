use Rattle.srcp_serve.proofs.VisitsFollow.{disconnects}
use Rattle.srcp_serve.proofs.serving.Server.disconnect.Goals as goal

pub returns-clause-course : goal.returns-clause-course
returns-clause-course g c =
    disconnects _ _ _ _ _
    _ c.hangup.ensures.happened c.close.ensures.course
