-- The laws are proved of the definitions.
use Rattle.srcp_feed.proofs.AnyHistory.{read_over_any_history, told_over_any_history}
use Rattle.srcp_feed.proofs.laws.told_over_any_history.Goals as goal

pub returns-clause-told : goal.returns-clause-told
returns-clause-told c = told_over_any_history

pub returns-clause-read : goal.returns-clause-read
returns-clause-read c = read_over_any_history
