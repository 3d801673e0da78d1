use Rattle.srcp_serve.proofs.PacedTurnsSparePanels.{paced_spare, paced_spares_all}
use Rattle.srcp_serve.proofs.laws.paced_turns.Goals as goal

pub returns-clause-each : goal.returns-clause-each
returns-clause-each c = λ buses. paced_spare buses

pub returns-clause-all : goal.returns-clause-all
returns-clause-all c = λ buses. paced_spares_all buses
