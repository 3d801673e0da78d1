use Rattle.srcp_rules.proofs.Names.{is_some, sym, ap, ◌∙◌, true≢false, row_at}
use Rattle.srcp_rules.proofs.RowIndexLaws.{set-put_row, row_at-gap}
use Rattle.srcp_rules.proofs.sorted_rows.set_in.Goals as goal

pub returns-in-Ok : goal.returns-in-Ok
returns-in-Ok c =
    set-put_row c.args.rows.now.items c.requires.rising c.args.row c.in-Ok.index (rw c.deref.ensures.value at c.in-Ok.ensures.at)

-- the key is there, so it has a index
pub returns-in_default : goal.returns-in_default
returns-in_default c =
    let key = c.args.row.shown.key in
    let none =
    ap (row_at key) (sym c.deref.ensures.value) ∙ row_at-gap c.deref.result.now key c.in_default.field-0 c.in_default.ensures.gap in
    absurd (true≢false (sym c.requires.there ∙ ap is_some none))
