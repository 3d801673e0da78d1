use Rattle.srcp_rules.proofs.Names
use Names.{IfSome, Option, Some, None, option_copied, ◌≡◌, sym, ap, subst, ◌∙◌, Row, Cursor, State, row_after, Kept}
use Names.cursor
use Rattle.std.proofs.Common.{Bor}
use Rattle.srcp_rules.specs.Nested.{group_rows}
use Rattle.srcp_rules.proofs.NestedLaws.{found_bus, row_after-own_bus}
use Rattle.srcp_rules.proofs.nested.Nested.row_after_in_own_group.Goals as goal

-- what is found among some rows is found among all
found : (cursor : Cursor) (some all : State) → ((row : Row) → Some row ≡ row_after cursor some → Some row ≡ row_after cursor all)
    → (o : Option (Bor Row)) → option_copied o ≡ row_after cursor some
    → IfSome o (λ row. Some row.now ≡ row_after cursor all)
found cursor some all h None e = tt
found cursor some all h (Some row) e = h row.now e

pub row_after_in_group-requires : goal.row_after_in_group-requires
row_after_in_group-requires c = found_bus c.self.invariant c.in_ok-rows.ensures.value

pub returns : goal.returns
returns c =
    let last = c.in-After.last in
    subst (λ (cursor : Cursor). IfSome c.row_after_in_group.result (λ row. Some row.now ≡ row_after cursor c.args.self.now.state))
    (sym c.in-After.is)
    (found (cursor.After last) (group_rows c.in_ok-rows.rows.now last.group) c.args.self.now.state
    (λ row h. row_after-own_bus c.self.invariant last c.in_ok-rows.ensures.value row h
    ∙ ap (λ (kept : Kept). row_after (cursor.After last) kept.state) c.self.view_is)
    c.row_after_in_group.result c.row_after_in_group.ensures)
