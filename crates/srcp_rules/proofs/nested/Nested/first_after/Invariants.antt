use Rattle.srcp_rules.proofs.Names.{◌≡◌, not, filter, length, has_reached, first_beyond}
use Rattle.srcp_rules.specs.Filter.{passes}
use Rattle.srcp_rules.proofs.nested.Nested.first_after.Given as goal

abbrev pub invariant-loop-row : goal.invariant-loop-row
invariant-loop-row l = first_beyond l.at (passes l.filter) l.self.state ≡ first_beyond l.initial.at (passes l.filter) l.self.state

abbrev pub decreases-loop-row : goal.decreases-loop-row
decreases-loop-row l = length (filter (λ row. not (has_reached l.at row.shown.key)) l.self.state)
