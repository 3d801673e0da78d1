use Rattle.srcp_serve.proofs.ReadsSparePanels.{reads_spare, reads_spare_all}
use Rattle.srcp_serve.proofs.laws.paced_reads.Goals as goal

pub returns-clause-each : goal.returns-clause-each
returns-clause-each c = λ buses. reads_spare buses

pub returns-clause-all : goal.returns-clause-all
returns-clause-all c = λ buses. reads_spare_all buses
