use Rattle.srcp_rules.proofs.Names.{sym, subst, ◌∙◌, arith, rising_put, IsRising, put_row}
use Rattle.std.proofs.lemmas.List.Sums.{fold_more}
use Rattle.srcp_rules.proofs.StateLaws.{row_key}
use Rattle.srcp_rules.proofs.sorted_rows.add_all.Goals as goal

pub loop-row-preserved : goal.loop-row-preserved
loop-row-preserved c =
    let row = c.row-item.result in
    let before = c.loop-row.rows.items in
    record {
      rows = c.put.ensures.rows ∙ (λ i. put_row (c.row-item.is i) (c.loop-row.invariant.rows i))
          ∙ sym (fold_more (λ state other. put_row other state) c.reserve.new.self.items c.args.added.now c.loop-row.row-index row
          c.loop-row-test.true);
      rising = subst IsRising (sym c.put.ensures.rows) (rising_put row_key row before c.loop-row.invariant.rising);
      room = omega arith;
    }
