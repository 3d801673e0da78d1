use Rattle.srcp_rules.proofs.Names.{◌≡◌, take, flat_map, opening_on}
use Rattle.srcp_rules.proofs.flat.opening_rows.Given as goal

abbrev pub invariant-loop-bus : goal.invariant-loop-bus
invariant-loop-bus l = l.rows.items ≡ flat_map (opening_on 0) (take l.bus-index l.bus-items)
