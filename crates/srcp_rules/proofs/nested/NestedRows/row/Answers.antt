use Rattle.srcp_rules.proofs.Names.{option_copied, ap, ◌∙◌, row_at, Kept}
use Rattle.srcp_rules.proofs.NestedLaws.{found_bus, row_at-bus, row_at-no_bus}
use Rattle.srcp_rules.proofs.nested.NestedRows.row.Goals as goal

pub row-requires : goal.row-requires
row-requires c = found_bus c.self.invariant c.in_ok-get.ensures.value

pub returns : goal.returns
returns c =
    let key = c.args.key.now in
    c.row.ensures
    ∙ row_at-bus c.self.invariant key c.in_ok-get.ensures.value
    ∙ ap (λ (kept : Kept). row_at key kept.state) c.self.view_is

pub returns-in_err-get : goal.returns-in_err-get
returns-in_err-get c =
    let key = c.args.key.now in
    ap option_copied c.from_residual.ensures
    ∙ row_at-no_bus c.self.invariant key c.in_err-get.ensures.value
    ∙ ap (λ (kept : Kept). row_at key kept.state) c.self.view_is
