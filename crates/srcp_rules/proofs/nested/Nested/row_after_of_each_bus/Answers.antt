use Rattle.srcp_rules.proofs.Names
use Names.{◌≡◌, sym, ap, subst, ◌∙◌, AllByRecursion, nat_cmp, entries_between, Included, Unbounded, row_after, Kept, AreRowsOfBus, bus_rows}
use Names.{listed}
use Rattle.srcp_rules.proofs.ListedLaws.{each-between, first_has, first_has_none}
use Rattle.srcp_rules.proofs.NestedLaws.{row_after-buses}
use Rattle.srcp_rules.proofs.nested.Nested.row_after_of_each_bus.Goals as goal

pub loop-number-init : goal.loop-number-init
loop-number-init c =
    let inside = c.self.inside in
    let es = inside.by_number.entries in
    let cursor = c.args.cursor in
    let from = c.first_bus.result in
    let lent = c.into_iter-number-iterator.result in
    let gives = c.into_iter-number-iterator.ensures.into_iter_gives in
    let between = c.range-number-items.ensures.between tt in
    let is : lent ≡ entries_between nat_cmp (Included from) Unbounded es = cc in
    record {
      can = tt;
      finite = tt;
      each =
          subst (AllByRecursion (λ e. AreRowsOfBus e.0 e.1)) (sym is)
          (each-between (λ e. AreRowsOfBus e.0 e.1) from es c.self.invariant.each);
      rest = sym (ap (λ (kept : Kept). row_after cursor kept.state) c.self.view_is)
          ∙ row_after-buses c.self.invariant cursor from c.first_bus.ensures
          ∙ ap (λ fs. row_after cursor (listed bus_rows fs)) (sym is);
    }

pub returns-in-Some-row_after : goal.returns-in-Some-row_after
returns-in-Some-row_after c =
    first_has (λ e. bus_rows e.1) c.args.cursor c.loop-number.number-iterator c.next.new.self
    (c.in-Some.number.now, c.in-Some.rows.now)
    c.in-Some.ensures.steps c.in-Some-row_after.row.now c.in-Some-row_after.ensures
    ∙ sym c.loop-number.invariant.rest

pub loop-number-preserved : goal.loop-number-preserved
loop-number-preserved c = record {
  can = tt;
  finite = tt;
  each = (subst (AllByRecursion (λ e. AreRowsOfBus e.0 e.1)) c.in-Some.ensures.steps c.loop-number.invariant.each).1;
  rest = c.loop-number.invariant.rest
      ∙ first_has_none (λ e. bus_rows e.1) c.args.cursor c.loop-number.number-iterator c.next.new.self
      (c.in-Some.number.now, c.in-Some.rows.now)
      c.in-Some.ensures.steps c.in_default.ensures;
}
