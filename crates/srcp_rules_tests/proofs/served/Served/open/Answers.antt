use Rattle.std.proofs.Common.{◌≡◌, List, sym, subst, arith}
use Rattle.srcp_grammar.specs.declared.layout.Bus.{Bus}
use Rattle.srcp_grammar.specs.Layout.{IsLayout}
use Rattle.srcp_rules.specs.Rows.{Kept}
use Rattle.srcp_rules.specs.State.{State, IsWhole, opening}
use Rattle.srcp_rules.proofs.OpeningLaws.{opening_whole}
use Rattle.srcp_rules_tests.proofs.served.Served.open.Goals as goal

opened : (layout : List Bus) (kept : Kept) → IsLayout layout → kept.buses ≡ layout → kept.state ≡ opening layout 0
    → IsWhole kept.buses kept.state
opened layout kept laid_out buses state =
    subst (λ (state : State). IsWhole kept.buses state) (sym state)
    (subst (λ (buses : List Bus). IsWhole buses (opening layout 0)) (sym buses) (opening_whole layout laid_out 0 (omega arith)))

pub invariant_of-result : goal.invariant_of-result
invariant_of-result c =
    let layout = c.loop-bus.layout in
    let laid_out : IsLayout layout = subst IsLayout c.layout-2.view_is c.layout-2.invariant in (
      laid_out,
      (c.in_ok-flat.ensures.layout, opened layout c.in_ok-flat.flat laid_out c.in_ok-flat.ensures.layout c.in_ok-flat.ensures.rows),
      (
        c.in_ok-nested.ensures.layout,
        opened layout c.in_ok-nested.nested laid_out c.in_ok-nested.ensures.layout c.in_ok-nested.ensures.rows,
      ),
    )
