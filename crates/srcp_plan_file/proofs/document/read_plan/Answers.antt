use Rattle.std.proofs.Common.{Ok, Err, Result, List, ℕ}
use Rattle.std.specs.Prelude.{IfOk}
use Rattle.srcp_layout_file.specs.Gives.{Gives}
use Rattle.srcp_plan_file.specs.Document.{plan_of}
use Rattle.srcp_plan_file.specs.Plan.{IsPlan, planned}
use Rattle.srcp_plan_file.specs.declared.plan.Plan.{Plan}
use Rattle.srcp_plan_file.specs.declared.plan.PlanFault.{PlanFault}
use Rattle.srcp_plan_file.specs.declared.plan.PlanFault.TheVariants as fault
use Rattle.srcp_plan_file.proofs.Whole.{is_plan_of}
use Rattle.srcp_plan_file.proofs.document.read_plan.Goals as goal

-- a plan that is what the bytes say keeps to what every plan keeps to
whole_of : (bytes : List ℕ) (r : Result Plan PlanFault) → Gives planned fault.Memory r (plan_of bytes)
    → IfOk r (λ plan. IsPlan (planned plan))
whole_of bytes (Ok plan) is = rw is at (is_plan_of bytes)
whole_of bytes (Err e) is = tt

pub returns-clause-whole : goal.returns-clause-whole
returns-clause-whole c =
    whole_of c.args.bytes.now c.read_document.result (rw c.in_ok-members.ensures c.read_document.ensures)
