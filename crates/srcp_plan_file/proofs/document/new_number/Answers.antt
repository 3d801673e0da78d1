use Rattle.srcp_plan_file.proofs.Lists.{any-map}
use Rattle.srcp_plan_file.specs.Document.{is_numbered}
use Rattle.srcp_plan_file.specs.Plan.{planned_route}
use Rattle.srcp_plan_file.proofs.document.new_number.Goals as goal

pub returns-then-is_taken : goal.returns-then-is_taken
returns-then-is_taken c =
    rw (any-map planned_route (is_numbered c.args.number) c.args.before.now, ← c.is_taken.ensures, c.if-is_taken.true)

pub returns-else-is_taken : goal.returns-else-is_taken
returns-else-is_taken c =
    rw (any-map planned_route (is_numbered c.args.number) c.args.before.now, ← c.is_taken.ensures, c.if-is_taken.false)
