-- The first route that may send an order is found.
use borrow.Author.Count.{below_more}
use Rattle.std.proofs.Common.{◌≡◌, ◌<◌, ◌≤◌, ℕ, false, true, length, sym, arith}
use Rattle.std.specs.Prelude.{is_some}
use Rattle.std.proofs.lemmas.Grind.{common_steps}
use Rattle.srcp_routes.proofs.Loops.{first_found, none_passes}
use Rattle.srcp_routes.specs.Steps.{order_at}
use Rattle.srcp_routes.proofs.interlocking.Interlocking.due.Goals as goal

pub loop-n-preserved : goal.loop-n-preserved
loop-n-preserved c =
    let none : is_some (order_at c.args.self.now c.loop-n.n) ≡ false =
    grind (arith, common_steps, c.is_some.ensures, c.order_at.ensures, c.if-is_some.false) in
    below_more (λ (k : ℕ). is_some (order_at c.args.self.now k) ≡ false) c.loop-n.n c.loop-n.invariant none

pub returns-then-is_some-clause-first : goal.returns-then-is_some-clause-first
returns-then-is_some-clause-first c =
    let holds : is_some (order_at c.args.self.now c.loop-n.n) ≡ true =
    grind (arith, common_steps, c.is_some.ensures, c.order_at.ensures, c.if-is_some.true) in
    let within : c.loop-n.n < length c.args.self.now.routes =
    grind (arith, common_steps, c.len-n-end.ensures, c.self.view_is, c.loop-n-test.true) in
    sym (first_found (λ n. is_some (order_at c.args.self.now n)) 0 (length c.args.self.now.routes) c.loop-n.n (omega arith)
    (omega (arith, within)) (λ k low lt. c.loop-n.invariant k lt) holds)

pub returns-clause-first : goal.returns-clause-first
returns-clause-first c =
    let all : length c.args.self.now.routes ≤ c.loop-n.n =
    grind (arith, common_steps, c.len-n-end.ensures, c.self.view_is, c.loop-n-test.false) in
    sym (none_passes (λ n. is_some (order_at c.args.self.now n)) 0 (length c.args.self.now.routes)
    (λ k low lt. c.loop-n.invariant k (omega (arith, all, lt))))
