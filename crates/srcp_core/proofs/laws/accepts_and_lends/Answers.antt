-- The laws are proved of the definitions.
use Rattle.srcp_core.proofs.Agreement.NothingIsLent.{accepts_and_lends}
use Rattle.srcp_core.proofs.laws.accepts_and_lends.Goals as goal

pub returns : goal.returns
returns c = λ buses. accepts_and_lends buses
