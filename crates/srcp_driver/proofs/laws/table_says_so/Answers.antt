-- The law is proved of the definitions.
use Rattle.srcp_driver.proofs.Counts.{hands_are_wanted, rows_are_wanted}
use Rattle.srcp_driver.proofs.Echoes.{echo_is_not_wanted}
use Rattle.srcp_driver.proofs.Off.{off_is_wanted}
use Rattle.srcp_driver.proofs.Powered.{on_is_wanted}
use Rattle.srcp_driver.proofs.Registry.{table_is_asked}
use Rattle.srcp_driver.proofs.Tracks.{table_answers, table_is_told}
use Rattle.srcp_driver.proofs.laws.table_says_so.Goals as goal

pub returns : goal.returns
returns c = record {
  rows = rows_are_wanted;
  hands = hands_are_wanted;
  power = on_is_wanted;
  echo = echo_is_not_wanted;
  cut = off_is_wanted;
  track = table_is_told;
  answers = table_answers;
  registry = table_is_asked;
}
