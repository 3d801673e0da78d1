use Rattle.srcp_rules.proofs.Names.{◌≡◌, ◌+◌, ◌-◌, box_value, numbered}
use Rattle.srcp_rules.proofs.nested.devices.grow.Given as goal

abbrev pub invariant-loop-slots : goal.invariant-loop-slots
invariant-loop-slots g l = numbered box_value 0 l.slots.items ≡ numbered box_value 0 l.initial.slots.items

abbrev pub decreases-loop-slots : goal.decreases-loop-slots
decreases-loop-slots g l = l.slot + 1 - l.slots.len
