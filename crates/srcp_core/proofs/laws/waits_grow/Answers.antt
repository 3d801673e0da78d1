-- The laws are proved of the definitions.
use Rattle.srcp_core.proofs.CourseLaws.WaitsGrow.{waits_grow, few_close_none}
use Rattle.srcp_core.proofs.laws.waits_grow.Goals as goal

pub returns-clause-grow : goal.returns-clause-grow
returns-clause-grow c = λ buses. waits_grow buses

pub returns-clause-close_none : goal.returns-clause-close_none
returns-clause-close_none c = λ buses. few_close_none buses
