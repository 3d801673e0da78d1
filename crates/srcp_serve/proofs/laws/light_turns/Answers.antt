use Rattle.srcp_serve.proofs.PacedTurnsSparePanels.{light_spare, light_spares_all}
use Rattle.srcp_serve.proofs.laws.light_turns.Goals as goal

pub returns-clause-each : goal.returns-clause-each
returns-clause-each c = λ buses. light_spare buses

pub returns-clause-all : goal.returns-clause-all
returns-clause-all c = λ buses. light_spares_all buses
