use Rattle.srcp_serve.proofs.TurnsWeighEnough.{turns_weigh}
use Rattle.srcp_serve.proofs.laws.turns_weigh_enough.Goals as goal

pub returns : goal.returns
returns c = λ buses. turns_weigh buses
