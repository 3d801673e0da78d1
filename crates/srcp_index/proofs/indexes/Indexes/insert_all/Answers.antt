use Rattle.srcp_rules.proofs.Names.{sym, ◌∙◌, arith, holder_of}
use Rattle.std.proofs.lemmas.List.Sums.{fold_more}
use Rattle.srcp_index.specs.Indexed.{due_of, row_edited}
use Rattle.srcp_index.specs.Ordered.{insert_by}
use Rattle.srcp_index.proofs.RankLaws.{longer}
use Rattle.srcp_index.proofs.indexes.Indexes.insert_all.Goals as goal

pub loop-row-preserved : goal.loop-row-preserved
loop-row-preserved c =
    let row = c.row-item.result in
    let before = c.loop-row.self in
    let inv = c.loop-row.invariant in
    record {
      both = c.insert.ensures ∙ (λ i. row_edited insert_by (c.row-item.is i) (inv.both i))
          ∙ sym (fold_more (λ both other. row_edited insert_by other both) c.args.self.now c.args.rows.now c.loop-row.row-index row
          c.loop-row-test.true);
      moments = grind (arith, longer (due_of row) row.shown.key before.moments);
      sessions = grind (arith, longer (holder_of row) row.shown.key before.sessions);
    }
