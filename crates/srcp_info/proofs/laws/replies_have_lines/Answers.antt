use Rattle.srcp_info.proofs.LineLaws.{replies_are_lines}
use Rattle.srcp_info.proofs.laws.replies_have_lines.Goals as goal

pub returns : goal.returns
returns c = replies_are_lines
