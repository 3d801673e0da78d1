use Rattle.srcp_rules.proofs.Names.{◌≡◌, ◌++◌, map, take, put_of}
use Rattle.srcp_rules.proofs.init.push_puts.Given as goal

abbrev pub invariant-loop-row : goal.invariant-loop-row
invariant-loop-row l = l.changes.items ≡ l.initial.changes.items ++ map (λ row. (put_of row).change) (take l.row-index l.fresh)
