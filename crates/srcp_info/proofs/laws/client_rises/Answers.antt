use Rattle.srcp_info.proofs.ClientLaws.{rising_client}
use Rattle.srcp_info.proofs.laws.client_rises.Goals as goal

pub returns : goal.returns
returns c = rising_client
