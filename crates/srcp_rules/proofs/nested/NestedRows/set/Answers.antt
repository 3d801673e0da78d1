use Rattle.srcp_rules.proofs.Names.{[], ◌∷◌, is_some, refl, sym, ap, subst, ◌∙◌, true≢false, has_row, put_row, Kept}
use Rattle.srcp_rules.proofs.NestedLaws.{Stays, changed-bus, found_bus, layout-set, puts_bus, row_at-bus, row_at-no_bus, stays-put_rows}
use Rattle.srcp_rules.proofs.nested.NestedRows.set.Goals as goal

pub set-requires-clause-bus : goal.set-requires-clause-bus
set-requires-clause-bus c = found_bus c.self.invariant c.in-Some.ensures.value

pub set-requires-clause-there : goal.set-requires-clause-there
set-requires-clause-there c =
    let key = c.args.row.shown.key in
    ap is_some (row_at-bus c.self.invariant key c.in-Some.ensures.value)
    ∙ ap (λ (kept : Kept). has_row key kept.state) c.self.view_is
    ∙ c.requires.there

pub invariant_of-self-2 : goal.invariant_of-self-2
invariant_of-self-2 c =
    let row = c.args.row in
    let held = c.get_mut.follows.holds c.set.new.self in
    layout-set c.self.invariant _ c.set.new.self c.in-Some.ensures.value held.0 held.4 c.set.ensures.bus
    (subst (Stays c.self.invariant)
    (sym (changed-bus c.self.invariant _ c.set.new.self c.in-Some.ensures.value held.0 held.4
    (puts_bus row.shown.key.bus (row ∷ []) (refl, tt)) c.set.ensures.rows))
    (stays-put_rows c.self.invariant (row ∷ [])))

pub returns-clause-rows : goal.returns-clause-rows
returns-clause-rows c =
    let row = c.args.row in
    let held = c.get_mut.follows.holds c.set.new.self in
    changed-bus c.self.invariant _ c.set.new.self c.in-Some.ensures.value held.0 held.4
    (puts_bus row.shown.key.bus (row ∷ []) (refl, tt)) c.set.ensures.rows
    ∙ ap (λ (kept : Kept). put_row row kept.state) c.self.view_is

-- the row is there, and so is its bus
pub returns-in_default-clause-rows : goal.returns-in_default-clause-rows
returns-in_default-clause-rows c =
    let key = c.args.row.shown.key in
    let there = ap (λ (kept : Kept). has_row key kept.state) c.self.view_is ∙ c.requires.there in
    absurd (true≢false (sym there ∙ sym (ap is_some (row_at-no_bus c.self.invariant key c.in_default.ensures.value))))
