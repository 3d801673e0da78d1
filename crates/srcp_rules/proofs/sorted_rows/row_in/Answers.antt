use Rattle.std.proofs.Common.{Some, sym, ap, ◌∙◌}
use Rattle.srcp_rules.proofs.RowIndexLaws.{row_at-here, row_at-gap}
use Rattle.srcp_rules.proofs.sorted_rows.row_in.Goals as goal

pub returns-in-Ok : goal.returns-in-Ok
returns-in-Ok c =
    ap Some c.index-rows-index.is
    ∙ sym (row_at-here c.args.rows.now c.requires c.args.key.now c.in-Ok.index c.in-Ok.ensures.at c.index-rows-index.result)

pub returns-in-Err : goal.returns-in-Err
returns-in-Err c = sym (row_at-gap c.args.rows.now c.args.key.now c.in-Err.field-0 c.in-Err.ensures.gap)
