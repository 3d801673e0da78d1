-- The routes so far are given back.
use Rattle.std.proofs.Common.{◌≡◌}
use Rattle.srcp_routes.specs.Plan.{is_freed}
use Rattle.srcp_routes.proofs.Loops.{freed_below}
use Rattle.srcp_routes.proofs.table.give_freed.Given as goal

abbrev pub invariant-loop-n : goal.invariant-loop-n
invariant-loop-n l = l.wanted ≡ freed_below (is_freed l.routes l.stages l.sensor) l.n l.initial.wanted
