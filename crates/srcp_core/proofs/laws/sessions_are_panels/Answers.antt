-- The law is proved of the definitions.
use Rattle.srcp_core.proofs.CourseLaws.SessionsArePanels.{sessions_are_panels}
use Rattle.srcp_core.proofs.laws.sessions_are_panels.Goals as goal

pub returns : goal.returns
returns c = sessions_are_panels
