use Rattle.std.proofs.Common.{rules, append_assoc}
use Rattle.srcp_plan_file.proofs.fault.PlanFaultDisplay.fmt.Goals as goal

pub returns-in-Mixed-clause-writes : goal.returns-in-Mixed-clause-writes
returns-in-Mixed-clause-writes g c plain ok =
    let w = c.write-in-Mixed.ensures.writes plain ok in rw c.in-Mixed.is (simp append_assoc (search (rules, w)))

pub returns-in-Crossed-clause-writes : goal.returns-in-Crossed-clause-writes
returns-in-Crossed-clause-writes g c plain ok =
    let w = c.write-in-Crossed.ensures.writes plain ok in rw c.in-Crossed.is (simp append_assoc (search (rules, w)))
