use Rattle.srcp_info.proofs.ReadLaws.{line_read_again}
use Rattle.srcp_info.proofs.laws.lines_read_again.Goals as goal

pub returns : goal.returns
returns c = line_read_again
