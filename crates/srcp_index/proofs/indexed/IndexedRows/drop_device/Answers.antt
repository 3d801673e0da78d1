use Rattle.srcp_rules.proofs.Names.{option_copied, refl, sym, ap, ◌∙◌, arith}
use Rattle.srcp_index.proofs.DroppedDeviceLaws.{but_below-none, none_next, next_goes, dropped_next, dropped_all}
use Rattle.srcp_index.proofs.indexed.IndexedRows.drop_device.Goals.{in-Some, in_default}
use Rattle.srcp_index.proofs.indexed.IndexedRows.drop_device.Goals as goal

pub loop-port-init : goal.loop-port-init
loop-port-init g c =
    record { rows = refl; indexed = rw (but_below-none c.args.device (g.R.Rows.state c.self.inside.rows)) c.self.invariant }

pub overflow_sub-self : goal.overflow_sub-self
overflow_sub-self g c =
    let kept = c.loop-port.invariant in
    next_goes c.args.device c.loop-port.port (g.R.Rows.state c.self.inside.rows) _ _ kept.indexed c.requires c.in-Some.row.now
    (rw kept.rows at (sym c.in-Some.ensures))

pub loop-port-preserved : goal.loop-port-preserved
loop-port-preserved g c =
    let state = g.R.Rows.state c.self.inside.rows in
    let kept = c.loop-port.invariant in
    elim c.match-row.branch [
      | in-Some w ↦ record {
        rows = ap (λ inside. inside.rows) w.self-inside-is ∙ kept.rows;
        indexed = rw (w.self-inside-is, w.remove.ensures)
            (dropped_next c.args.device c.loop-port.port state _ _ kept.indexed c.requires w.in-Some.row.now
            (rw kept.rows at (sym w.in-Some.ensures)));
      }
      | in_default w ↦ record {
        rows = ap (λ inside. inside.rows) w.self-inside-is ∙ kept.rows;
        indexed = rw w.self-inside-is
            (none_next c.args.device c.loop-port.port state _ _ kept.indexed (let none = ap option_copied w.in_default.is in cc));
      }
    ]

pub invariant_of-self : goal.invariant_of-self
invariant_of-self g c =
    rw (c.drop_device.ensures.rows, c.loop-port.invariant.rows)
    (dropped_all c.args.device c.loop-port.port (g.R.Rows.state c.self.inside.rows) _ _ c.self.invariant.rows
    (omega (arith, c.loop-port-test.false, c.loop-port.auto.port-end, c.most_rows-port-end.ensures)) c.loop-port.invariant.indexed)

pub returns-clause-layout : goal.returns-clause-layout
returns-clause-layout g c = cc

pub returns-clause-rows : goal.returns-clause-rows
returns-clause-rows g c = cc
