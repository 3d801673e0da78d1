use Rattle.srcp_rules.proofs.FallLaws.{lock_runs_out}
use Rattle.srcp_rules.proofs.laws.locks_run_out.Goals as goal

pub returns : goal.returns
returns c = lock_runs_out
