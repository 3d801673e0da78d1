use Rattle.srcp_rules.proofs.Names.{slice_set, is_some, sym, ap, ◌∙◌, true≢false, State, row_at}
use Rattle.srcp_rules.proofs.RowIndexLaws.{set-put_row, row_at-gap}
use Rattle.srcp_rules.proofs.nested.device_rows.DeviceRows.set.Goals as goal

pub returns-in-Ok : goal.returns-in-Ok
returns-in-Ok g c =
    let index = c.in-Ok.index in
    let row = c.args.row.now in
    let at = rw c.as_slice.ensures at c.in-Ok.ensures.at in
    c.put.ensures
    ∙ ap (λ (state : State). slice_set state index row) c.self.view_is
    ∙ set-put_row c.args.self.now c.requires.rising row index at

-- the key is there, so it has a index
pub returns-in_default : goal.returns-in_default
returns-in_default g c =
    let key = c.args.row.now.shown.key in
    let none =
    ap (row_at key) (sym c.as_slice.ensures) ∙ row_at-gap c.as_slice.result.now key c.in_default.field-0 c.in_default.ensures.gap in
    absurd (true≢false (sym c.requires.there ∙ ap is_some none))
