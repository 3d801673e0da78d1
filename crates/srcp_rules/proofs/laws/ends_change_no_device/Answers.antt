use Rattle.srcp_rules.proofs.SafetyLaws.{ends_change_no_device, ends_keep_other_locks}
use Rattle.srcp_rules.proofs.laws.ends_change_no_device.Goals as goal

pub returns : goal.returns
returns c = record { devices = ends_change_no_device; locks = ends_keep_other_locks }
