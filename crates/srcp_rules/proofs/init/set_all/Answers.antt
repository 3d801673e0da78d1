use Rattle.srcp_rules.proofs.Names.{◌≡◌, true, take, ap, ◌∙◌, Row, State, IsRowOf, has_row, each_at}
use Rattle.srcp_rules.proofs.PutRowsLaws.{has_row-put_rows}
use Rattle.srcp_rules.proofs.init.set_all.Goals as goal

pub set-requires-clause-there : goal.set-requires-clause-there
set-requires-clause-there g c =
    let row = c.row-item.result in
    let state = g.R.Rows.state c.args.rows.now in
    let here =
    each_at (λ (other : Row). IsRowOf (g.R.Rows.buses c.args.rows.now) other × (has_row other.shown.key state ≡ true)) c.args.fresh.now
    c.requires c.loop-row.row-index row c.loop-row-test.true in
    let there : has_row row.shown.key state ≡ true = ap (λ (other : Row). has_row other.shown.key state) c.row-item.is ∙ here.1 in
    ap (λ (s : State). has_row row.shown.key s) c.loop-row.invariant.rows
    ∙ has_row-put_rows row.shown.key (take c.loop-row.row-index c.args.fresh.now) state there
