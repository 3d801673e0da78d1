-- No route so far may send an order.
use Rattle.std.proofs.Common.{◌≡◌, ℕ, ◌<◌, false}
use Rattle.std.specs.Prelude.{is_some}
use Rattle.srcp_routes.specs.Steps.{order_at}
use Rattle.srcp_routes.proofs.interlocking.Interlocking.due.Given as goal

abbrev pub invariant-loop-n : goal.invariant-loop-n
invariant-loop-n l = (k : ℕ) → k < l.n → is_some (order_at l.self k) ≡ false
