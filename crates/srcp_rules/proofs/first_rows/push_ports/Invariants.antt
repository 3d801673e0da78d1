use Rattle.srcp_rules.proofs.Names
use Names.{◌≡◌, ◌++◌, map, false, range_with_len, fb_device, first_row}
use Names.value
use Rattle.srcp_rules.proofs.first_rows.push_ports.Given as goal

abbrev pub invariant-loop-below : goal.invariant-loop-below
invariant-loop-below l =
    l.rows.items ≡ l.initial.rows.items ++ map (λ port. first_row 0 (fb_device l.bus port) (value.Fb false)) (range_with_len 1 l.below)
