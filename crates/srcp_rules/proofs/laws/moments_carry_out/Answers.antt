use Rattle.srcp_rules.proofs.FallLaws.{due_rows}
use Rattle.srcp_rules.proofs.laws.moments_carry_out.Goals as goal

pub returns : goal.returns
returns c = λ buses state moment key whole now. due_rows buses moment now state whole key
