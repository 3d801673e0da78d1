use Rattle.srcp_core.proofs.Names.{◌≡◌, ◌++◌, panel_keys}
use Rattle.srcp_core.proofs.Invariants.PanelsAreListed.{listed}
use Rattle.srcp_core.proofs.server_core.walk.panel_keys.Given as goal

-- the keys so far and those that are left are together the keys of all panels
abbrev pub invariant-loop-key : goal.invariant-loop-key
invariant-loop-key l =
    goal.iterator-loop-key.can_next l.key-iterator ×
    goal.iterator-loop-key.is_finite l.key-iterator ×
    (l.keys.items ++ listed l.key-iterator ≡ panel_keys l.connections.slots)
