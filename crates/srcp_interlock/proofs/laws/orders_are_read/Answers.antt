-- The law is proved of the definitions.
use Rattle.srcp_interlock.proofs.OrderLaws.{orders_are_read}
use Rattle.srcp_interlock.proofs.laws.orders_are_read.Goals as goal

pub returns : goal.returns
returns c = orders_are_read
