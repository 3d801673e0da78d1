-- When the first of the rows falls due.
use Rattle.std.specs.Prelude.{◌≡◌, ℕ, ◌≤◌, Any, IfSome, Option, Some, None}
use Rattle.std.specs.List.{AllByRecursion}
use Rattle.srcp_rules.specs.State.{State}

-- the first of the rows' due moments: no row falls due earlier, and a row falls due then; none if no row falls due
abbrev pub IsEarliestDue : Option ℕ → State → Type 0
IsEarliestDue None state = AllByRecursion (λ row. row.due ≡ None) state
IsEarliestDue (Some first) state =
    AllByRecursion (λ row. IfSome row.due (λ moment. first ≤ moment)) state × Any (λ row. row.due ≡ Some first) state
