use Rattle.srcp_rules.proofs.Names.{sym, subst, ◌∙◌, IsRising, Kept}
use Rattle.srcp_rules.proofs.NestedLaws.{rising-buses}
use Rattle.srcp_rules.proofs.CursorLaws.{fewer_beyond, passed_here, passed_later, passed_none}
use Rattle.srcp_rules.proofs.nested.Nested.first_after.Goals as goal

pub returns-then-passes : goal.returns-then-passes
returns-then-passes c =
    let state = c.args.self.now.state in
    let rising = subst (λ (kept : Kept). IsRising kept.state) c.self.view_is (rising-buses c.self.invariant) in
    let met = sym c.passes.ensures ∙ c.if-passes.true in
    sym (passed_here c.args.filter c.loop-row.at state rising c.in-Some.row.now (sym c.in-Some.ensures) met) ∙ c.loop-row.invariant

pub loop-row-smaller : goal.loop-row-smaller
loop-row-smaller c =
    let state = c.args.self.now.state in
    let rising = subst (λ (kept : Kept). IsRising kept.state) c.self.view_is (rising-buses c.self.invariant) in
    fewer_beyond c.loop-row.at state rising c.in-Some.row.now (sym c.in-Some.ensures)

pub loop-row-preserved : goal.loop-row-preserved
loop-row-preserved c =
    let state = c.args.self.now.state in
    let rising = subst (λ (kept : Kept). IsRising kept.state) c.self.view_is (rising-buses c.self.invariant) in
    let other = sym c.passes.ensures ∙ c.if-passes.false in
    passed_later c.args.filter c.loop-row.at state rising c.in-Some.row.now (sym c.in-Some.ensures) other ∙ c.loop-row.invariant

pub returns : goal.returns
returns c = sym (passed_none c.args.filter c.loop-row.at c.args.self.now.state (sym c.in_default.ensures)) ∙ c.loop-row.invariant
