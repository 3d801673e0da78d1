-- The order of the first route that may send one is returned.
use Rattle.std.proofs.Common.{◌≡◌, Some, false, sym, ◌∙◌, arith}
use Rattle.std.specs.Prelude.{is_some}
use Rattle.std.proofs.lemmas.Grind.{common_steps}
use Rattle.srcp_routes.proofs.Loops.{sends}
use Rattle.srcp_routes.specs.Steps.{due}
use Rattle.srcp_routes.proofs.interlocking.Interlocking.next.Goals as goal

pub returns-clause-order : goal.returns-clause-order
returns-clause-order c =
    let waits : is_some c.args.self.now.waiting ≡ false =
    grind (arith, common_steps, c.is_some.ensures, c.if-is_some.false, c.self.view_is) in
    let found : due c.args.self.now ≡ Some c.in_ok-n.n =
    grind (arith, common_steps, c.in_ok-n.ensures.first, c.self.view_is) in
    c.order_at-order.ensures ∙ sym (sends c.args.self.now c.in_ok-n.n waits found)
