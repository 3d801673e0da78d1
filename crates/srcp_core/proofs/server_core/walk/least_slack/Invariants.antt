use Rattle.srcp_core.proofs.Names.{◌≡◌, ◌≤◌, min, slack_at, slack_in, least, changes_left}
use Rattle.std.specs.Prelude.{map}
use Rattle.srcp_core.proofs.server_core.walk.least_slack.Given as goal

-- the least so far and those that are left are together the least of all
abbrev pub invariant-loop-connection : goal.invariant-loop-connection
invariant-loop-connection l =
    goal.iterator-loop-connection.can_next l.connection-iterator ×
    goal.iterator-loop-connection.is_finite l.connection-iterator ×
    (l.least ≤ 256) ×
    (min l.least (changes_left (least (map (λ entry. slack_in entry.1.panel) l.connection-iterator)))
    ≡ changes_left (least (map slack_at l.connections.slots)))
