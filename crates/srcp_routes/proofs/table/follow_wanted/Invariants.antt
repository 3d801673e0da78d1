-- The trains so far are followed.
use Rattle.std.proofs.Common.{◌≡◌}
use Rattle.srcp_routes.specs.Plan.{train_behind}
use Rattle.srcp_routes.proofs.Loops.{written}
use Rattle.srcp_routes.proofs.table.follow_wanted.Given as goal

abbrev pub invariant-loop-n : goal.invariant-loop-n
invariant-loop-n l =
    l.trains ≡ written (train_behind l.routes l.sensors l.wanted l.initial.trains l.told) l.n l.initial.trains
