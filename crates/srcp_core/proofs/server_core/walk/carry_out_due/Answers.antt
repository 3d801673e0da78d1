use Rattle.srcp_core.proofs.Names.{refl, sym, ap, ◌∙◌, map, due, updated_all, told_each}
use Rattle.srcp_core.proofs.Invariants.DueInOneWalk.{all_ahead, due_ahead, due_goes_on, due_stops}
use Rattle.srcp_core.proofs.Invariants.ChangesOneByOne.{change_in}
use Rattle.srcp_core.proofs.Invariants.PanelsStay.{panels_told}
use Rattle.srcp_core.proofs.server_core.walk.carry_out_due.Goals as goal

pub tell_all-requires-clause-change : goal.tell_all-requires-clause-change
tell_all-requires-clause-change g c =
    (due_goes_on _ _ c.ranges.moment.fits (g.R.Rows.state c.loop-change.rows) c.loop-change.at c.loop-change.invariant.ahead
    c.loop-change.invariant.whole _ _ c.loop-change.connections.slots
    (sym c.in-Some.is ∙ c.due_next.ensures.change) c.due_next.ensures.rows).told

pub loop-change-smaller : goal.loop-change-smaller
loop-change-smaller g c =
    (due_goes_on _ _ c.ranges.moment.fits (g.R.Rows.state c.loop-change.rows) c.loop-change.at c.loop-change.invariant.ahead
    c.loop-change.invariant.whole _ _ c.loop-change.connections.slots
    (sym c.in-Some.is ∙ c.due_next.ensures.change) c.due_next.ensures.rows).fewer

pub loop-change-init : goal.loop-change-init
loop-change-init g c = record {
  layout = refl;
  whole = c.requires.whole;
  ahead = all_ahead _;
  rows = refl;
  panels = c.requires.panels;
  slots = refl;
  capacity = refl;
}

pub loop-change-preserved : goal.loop-change-preserved
loop-change-preserved g c =
    let s =
    due_goes_on _ _ c.ranges.moment.fits
    (g.R.Rows.state c.loop-change.rows) c.loop-change.at c.loop-change.invariant.ahead c.loop-change.invariant.whole _ _ _
    (sym c.in-Some.is ∙ c.due_next.ensures.change) c.due_next.ensures.rows in
    record {
      layout = c.due_next.ensures.layout ∙ c.loop-change.invariant.layout;
      whole = s.whole;
      ahead = rw c.key.ensures
          (due_ahead (g.R.Rows.buses c.args.rows.now) c.args.moment c.ranges.moment.fits
          (g.R.Rows.state c.loop-change.rows) c.loop-change.at c.loop-change.invariant.ahead c.loop-change.invariant.whole
          _ (g.R.Rows.state c.due_next.new.rows) (sym c.in-Some.is ∙ c.due_next.ensures.change) c.due_next.ensures.rows);
      rows = s.rows ∙ c.loop-change.invariant.rows;
      panels = rw (c.tell_all.ensures.slots, panels_told) c.loop-change.invariant.panels;
      slots =
          ap (λ places. told_each (map change_in (due (g.R.Rows.state c.due_next.new.rows) c.args.moment)) places) c.tell_all.ensures.slots
          ∙ s.slots ∙ c.loop-change.invariant.slots;
      capacity = c.tell_all.ensures.capacity ∙ c.loop-change.invariant.capacity;
    }

pub returns-clause-rows : goal.returns-clause-rows
returns-clause-rows g c =
    let e =
    due_stops (g.R.Rows.buses c.args.rows.now) _ c.ranges.moment.fits _ _ c.loop-change.invariant.ahead
    _ (sym c.in_default.is ∙ c.due_next.ensures.change) c.due_next.ensures.rows in
    e.same ∙ ap (λ us. updated_all us (g.R.Rows.state c.loop-change.rows)) (sym e.nothing) ∙ c.loop-change.invariant.rows

pub returns-clause-slots : goal.returns-clause-slots
returns-clause-slots g c =
    let e =
    due_stops (g.R.Rows.buses c.args.rows.now) _ c.ranges.moment.fits (g.R.Rows.state c.loop-change.rows) c.loop-change.at
    c.loop-change.invariant.ahead (g.R.Rows.state c.due_next.new.rows)
    (sym c.in_default.is ∙ c.due_next.ensures.change) c.due_next.ensures.rows in
    ap (λ us. told_each (map change_in us) c.loop-change.connections.slots) (sym e.nothing) ∙ c.loop-change.invariant.slots
