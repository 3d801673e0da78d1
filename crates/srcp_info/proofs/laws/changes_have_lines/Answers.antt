use Rattle.srcp_info.proofs.LineLaws.{changes_are_lines}
use Rattle.srcp_info.proofs.laws.changes_have_lines.Goals as goal

pub returns : goal.returns
returns c = changes_are_lines
