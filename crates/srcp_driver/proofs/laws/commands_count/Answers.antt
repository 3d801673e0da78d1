-- The law is proved of the definitions.
use Rattle.srcp_driver.proofs.Counts.{hands_count, rows_count}
use Rattle.srcp_driver.proofs.Rests.{rests_count}
use Rattle.srcp_driver.proofs.Powered.{switching_on_counts}
use Rattle.srcp_driver.proofs.laws.commands_count.Goals as goal

pub returns : goal.returns
returns c = record { rows = rows_count; rests = rests_count; hands = hands_count; power = switching_on_counts }
