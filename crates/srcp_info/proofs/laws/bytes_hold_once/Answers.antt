use Rattle.srcp_info.proofs.HoldsLaws.{holds_unique}
use Rattle.srcp_info.proofs.laws.bytes_hold_once.Goals as goal

pub returns : goal.returns
returns c = holds_unique
