use Rattle.srcp_rules.proofs.Names.{◌≡◌, drop, box_value, numbered}
use Rattle.srcp_rules.proofs.nested.devices.first_device.Given as goal

abbrev pub invariant-loop-slot : goal.invariant-loop-slot
invariant-loop-slot g l = numbered box_value l.from (drop l.from l.slots) ≡ numbered box_value l.slot (drop l.slot l.slots)
