-- The routes so far are given back.
use Rattle.std.proofs.Common.{◌≡◌}
use Rattle.srcp_routes.specs.Plan.{has_passed}
use Rattle.srcp_routes.proofs.Loops.{freed_below}
use Rattle.srcp_routes.proofs.table.give_passed.Given as goal

abbrev pub invariant-loop-n : goal.invariant-loop-n
invariant-loop-n l = l.wanted ≡ freed_below (has_passed l.routes l.sensors l.trains l.told) l.n l.initial.wanted
