use Rattle.std.proofs.Common.{sym, ap, ◌∙◌}
use Rattle.srcp_rules.specs.State.{row_at}
use Rattle.srcp_rules.proofs.BusRowsLaws.{row_at-group, slice-option_to_list}
use Rattle.srcp_rules.proofs.nested.bus_rows.BusRows.row.Goals as goal

pub returns-in-Session : goal.returns-in-Session
returns-in-Session c =
    let key = c.args.key.now in
    c.row_in.ensures ∙ ap (row_at key) c.deref.ensures.value ∙ sym (row_at-group c.requires key c.in-Session.is)

pub returns-in-Power : goal.returns-in-Power
returns-in-Power c =
    let rows = c.args.self.now in
    let key = c.args.key.now in
    c.row_in-in-Power.ensures ∙ ap (row_at key) (slice-option_to_list rows.power c.as_slice.result.now c.as_slice.ensures)
    ∙ sym (row_at-group c.requires key c.in-Power.is)

pub returns-in-Fb : goal.returns-in-Fb
returns-in-Fb c =
    let key = c.args.key.now in
    c.row_in-in-Fb.ensures ∙ ap (row_at key) c.deref-in-Fb.ensures.value ∙ sym (row_at-group c.requires key c.in-Fb.is)

pub returns-in-Gl : goal.returns-in-Gl
returns-in-Gl c = c.row.ensures ∙ sym (row_at-group c.requires c.args.key.now c.in-Gl.is)

pub returns-in-Ga : goal.returns-in-Ga
returns-in-Ga c = c.row-in-Ga.ensures ∙ sym (row_at-group c.requires c.args.key.now c.in-Ga.is)

pub returns-in-LockGl : goal.returns-in-LockGl
returns-in-LockGl c = c.row-in-LockGl.ensures ∙ sym (row_at-group c.requires c.args.key.now c.in-LockGl.is)

pub returns-in-LockGa : goal.returns-in-LockGa
returns-in-LockGa c = c.row-in-LockGa.ensures ∙ sym (row_at-group c.requires c.args.key.now c.in-LockGa.is)
