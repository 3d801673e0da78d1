use Rattle.srcp_info.proofs.ReadLaws.{line_injective}
use Rattle.srcp_info.proofs.laws.lines_differ.Goals as goal

pub returns : goal.returns
returns c = line_injective
