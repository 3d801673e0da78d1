-- No route so far is in the way.
use Rattle.std.proofs.Common.{◌≡◌, ℕ, ◌<◌, true}
use Rattle.srcp_routes.specs.Plan.{lets}
use Rattle.srcp_routes.proofs.table.is_clear.Given as goal

abbrev pub invariant-loop-m : goal.invariant-loop-m
invariant-loop-m l = (k : ℕ) → k < l.m → lets l.routes l.stages l.n k ≡ true
