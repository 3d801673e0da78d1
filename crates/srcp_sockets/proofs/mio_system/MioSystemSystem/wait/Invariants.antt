use Rattle.std.proofs.Common.{◌≤◌, length}
use Rattle.srcp_sockets.proofs.mio_system.MioSystemSystem.wait.Given as goal

abbrev pub invariant-loop-event : goal.invariant-loop-event
invariant-loop-event g l =
    (goal.iterator-loop-event g).can_next l.event-iterator ×
    (goal.iterator-loop-event g).is_finite l.event-iterator ×
    (l.count ≤ length l.ready)
