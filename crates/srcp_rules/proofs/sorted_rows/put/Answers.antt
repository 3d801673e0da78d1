use Rattle.srcp_rules.proofs.Names.{cond, ap, ◌∙◌, insert}
use Rattle.srcp_rules.proofs.RowIndexLaws.{set-put_row, insert-put_row}
use Rattle.srcp_rules.proofs.sorted_rows.put.Goals as goal

pub returns-in-Ok-clause-rows : goal.returns-in-Ok-clause-rows
returns-in-Ok-clause-rows c =
    set-put_row c.args.rows.now.items c.requires.rising c.args.row c.in-Ok.index (rw c.deref.ensures.value at c.in-Ok.ensures.at)

pub returns-in-Err-clause-rows : goal.returns-in-Err-clause-rows
returns-in-Err-clause-rows c =
    let items = c.args.rows.now.items in
    let index = c.in-Err.index in
    c.insert.ensures.items ∙ ap (λ b. cond b (insert items index c.args.row) items) (c.insert.ensures.succeeds c.requires.capacity)
    ∙ insert-put_row items c.args.row index (rw c.deref.ensures.value at c.in-Err.ensures.gap)
