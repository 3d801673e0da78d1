use Rattle.srcp_core.proofs.Names.{arith, Bool, Ok, Err, refl, sym, true, false, ◌∙◌}
use Rattle.srcp_core.proofs.Agreement.PastIsLived.{lived_out, there_is, filled_there, lent_out, line_out}
use Rattle.srcp_core.proofs.logged.LoggedCore.outgoing.Goals as goal

pub invariant_of-self : goal.invariant_of-self
invariant_of-self g c = lived_out _ _ _ c.self.invariant c.args.conn _ _ c.fill.ensures.core c.note.ensures

pub invariant_of-self-in-Ok-false : goal.invariant_of-self-in-Ok-false
invariant_of-self-in-Ok-false g c = lived_out _ _ _ c.self.invariant c.args.conn _ _ c.fill.ensures.core c.note.ensures

pub invariant_of-self-in-Err-1 : goal.invariant_of-self-in-Err-1
invariant_of-self-in-Err-1 g c = lived_out _ _ _ c.self.invariant c.args.conn _ _ c.fill.ensures.core c.note.ensures

pub returns-in-Ok-true : goal.returns-in-Ok-true
returns-in-Ok-true g c =
    let l = c.self.invariant in
    let there = filled_there _ _ _ l c.args.conn (Ok true) c.in-Ok-true.ensures.absent tt in (
      (refl, (λ _. tt), rw (← c.self.view_is, c.note.ensures, c.fill.ensures.core) refl),
      record {
        ends = tt;
        says = rw (← c.self.view_is) (there_is _ _ _ l c.args.conn (Ok true) there);
        bytes = rw (← c.self.view_is) (c.unsent.ensures ∙ lent_out _ _ _ l c.args.conn _ there c.fill.ensures.core);
        one_line = rw (← c.self.view_is, c.unsent.ensures) (line_out _ _ _ l c.args.conn _ there c.fill.ensures.core);
      },
    )

pub returns-in-Ok-false : goal.returns-in-Ok-false
returns-in-Ok-false g c =
    let l = c.self.invariant in
    let there = filled_there _ _ _ l c.args.conn (Ok false) c.in-Ok-false.ensures.absent tt in
    let none = c.in-Ok-false.ensures.none c.in-Ok-false.field-0-test in (
      (refl, (λ _. tt), rw (← c.self.view_is, c.note.ensures, c.fill.ensures.core) refl),
      record {
        ends = tt;
        says = rw (← c.self.view_is) (there_is _ _ _ l c.args.conn (Ok false) there);
        bytes = rw (← c.self.view_is) (sym none ∙ lent_out _ _ _ l c.args.conn _ there c.fill.ensures.core);
        one_line = λ taken. omega arith;
      },
    )

pub returns-in-Err : goal.returns-in-Err
returns-in-Err g c =
    let l = c.self.invariant in
    let there = filled_there _ _ _ l c.args.conn (Err c.in-Err.fault) c.in-Err.ensures.absent c.in-Err.ensures.fault in (
      (refl, (λ _. tt), rw (← c.self.view_is, c.note.ensures, c.fill.ensures.core) refl),
      record {
        ends = tt;
        says = rw (← c.self.view_is) (there_is _ _ _ l {X = Bool} c.args.conn (Err c.in-Err.fault) there);
        bytes = tt;
        one_line = λ taken. tt;
      },
    )
