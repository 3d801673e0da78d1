use Rattle.srcp_core.proofs.Names.{ap, denied_by, sym, ◌∙◌, Bytes, giving, refl, []}
use Rattle.srcp_core.proofs.Agreement.PastIsLived.{lived_unread, read_is, read_counted, read_none, read_line, lived_read, fault_is}
use Rattle.srcp_core.proofs.logged.LoggedCore.receive.Goals as goal

pub invariant_of-self : goal.invariant_of-self
invariant_of-self g c =
    let fault = sym (fault_is _ _ _ c.self.invariant c.args.conn (giving c.args.piece.now)) ∙ sym c.bytes_fault.ensures ∙ c.in-Some.is in
    lived_unread _ _ _ c.self.invariant c.args.conn c.args.piece.now c.in-Some.fault _ fault c.note.ensures

pub returns-in-Some-clause-says : goal.returns-in-Some-clause-says
returns-in-Some-clause-says g c =
    rw (← c.self.view_is)
    (sym (fault_is _ _ _ c.self.invariant c.args.conn (giving c.args.piece.now)) ∙ sym c.bytes_fault.ensures ∙ c.in-Some.is)

pub loop-stop-init : goal.loop-stop-init
loop-stop-init g c lived = read_none _ _ _ lived c.args.conn c.args.piece.now (sym c.bytes_fault.ensures ∙ c.in_default.is)

pub answer_line-requires-clause-fits : goal.answer_line-requires-clause-fits
answer_line-requires-clause-fits g c = (c.loop-stop.invariant c.self.invariant).fits

pub loop-stop-preserved : goal.loop-stop-preserved
loop-stop-preserved g c lived =
    read_line _ _ _ lived c.args.conn c.args.piece.now _ _ _ _ _ _ _ c.in-Some-answer_line.ensures.line c.note-in-Some-answer_line.ensures
    (c.loop-stop.invariant lived)

pub invariant_of-self-2 : goal.invariant_of-self-2
invariant_of-self-2 g c =
    lived_read _ _ _ c.self.invariant c.args.conn c.args.piece.now _ _ _ _ _ c.in_default-answer_line.ensures.none
    (c.loop-stop.invariant c.self.invariant) c.note-2.ensures

pub returns-clause-says : goal.returns-clause-says
returns-clause-says g c =
    rw (← c.self.view_is)
    (sym (fault_is _ _ _ c.self.invariant c.args.conn (giving c.args.piece.now)) ∙ sym c.bytes_fault.ensures ∙ c.in_default.is)

pub returns-in-Some-clause-happened : goal.returns-in-Some-clause-happened
returns-in-Some-clause-happened g c =
    let l = c.self.invariant in
    let new = invariant_of-self g c in
    record {
      grants = [];
      is = rw (← c.self.view_is, c.note.ensures, l.read) refl;
      counted = rw (← c.self.view_is) (sym new.counted ∙ l.counted);
    }

pub returns-clause-happened : goal.returns-clause-happened
returns-clause-happened g c =
    let l = c.self.invariant in
    let i = c.loop-stop.invariant l in
    let none = c.in_default-answer_line.ensures.none in
    let new = invariant_of-self-2 g c in
    record {
      grants = c.loop-stop.self-inside.log.grants;
      is = rw (← c.self.view_is) (read_is _ _ _ l c.args.conn c.args.piece.now _ _ _ _ _ none i c.note-2.ensures);
      counted =
          rw (← c.self.view_is)
          (sym new.counted ∙ read_counted _ _ _ l c.args.conn c.args.piece.now _ _ _ _ _ none i c.note-2.ensures
          ∙ ap (λ d. denied_by d c.loop-stop.self-inside.log.grants) l.counted);
    }
