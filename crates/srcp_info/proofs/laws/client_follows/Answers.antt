use Rattle.srcp_info.proofs.ClientLaws.{client-push}
use Rattle.srcp_info.proofs.laws.client_follows.Goals as goal

pub returns : goal.returns
returns c = client-push
