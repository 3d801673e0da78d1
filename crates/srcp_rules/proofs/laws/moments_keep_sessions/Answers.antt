use Rattle.srcp_rules.specs.Due.{due}
use Rattle.srcp_rules.proofs.SessionLaws.{session_row-updated_all, due_elsewhere}
use Rattle.srcp_rules.proofs.laws.moments_keep_sessions.Goals as goal

pub returns : goal.returns
returns c = λ buses state moment id whole. session_row-updated_all (due state moment) state id (due_elsewhere buses state whole moment)
