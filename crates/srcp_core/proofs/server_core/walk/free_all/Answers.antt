use Rattle.srcp_core.proofs.Names.{sym, ap, ◌∙◌, map, freed, updated_all, freed_told, told_each}
use Rattle.srcp_rules.proofs.FreedStepLaws.{freed_later}
use Rattle.srcp_core.proofs.Invariants.ChangesOneByOne.{change_in, goes_on, stops}
use Rattle.srcp_core.proofs.Invariants.PanelsStay.{panels_told}
use Rattle.srcp_core.proofs.server_core.walk.free_all.Goals as goal

pub tell_all-requires-clause-change : goal.tell_all-requires-clause-change
tell_all-requires-clause-change g c =
    (goes_on (g.R.Rows.buses c.args.rows.now) (λ state. freed state c.args.session c.args.moment)
    (λ state whole. freed_later _ state whole _ _)
    (λ state whole. freed_told _ state whole _ c.ranges.moment.fits _)
    (g.R.Rows.state c.loop-change.rows) c.loop-change.invariant.whole _ _ c.loop-change.connections.slots
    (sym c.in-Some.is ∙ c.free_next.ensures.change) (c.free_next.ensures.rows)).told

pub loop-change-smaller : goal.loop-change-smaller
loop-change-smaller g c =
    (goes_on (g.R.Rows.buses c.args.rows.now) (λ state. freed state c.args.session c.args.moment)
    (λ state whole. freed_later _ state whole _ _)
    (λ state whole. freed_told _ state whole _ c.ranges.moment.fits _)
    (g.R.Rows.state c.loop-change.rows) c.loop-change.invariant.whole _ _ c.loop-change.connections.slots
    (sym c.in-Some.is ∙ c.free_next.ensures.change) (c.free_next.ensures.rows)).fewer

pub loop-change-preserved : goal.loop-change-preserved
loop-change-preserved g c =
    let s =
    goes_on _ (λ state. freed state c.args.session c.args.moment)
    (λ state whole. freed_later _ state whole _ _)
    (λ state whole. freed_told _ state whole _ c.ranges.moment.fits _)
    (g.R.Rows.state c.loop-change.rows) c.loop-change.invariant.whole _ _ c.loop-change.connections.slots
    (sym c.in-Some.is ∙ c.free_next.ensures.change) (c.free_next.ensures.rows) in
    record {
      layout = c.free_next.ensures.layout ∙ c.loop-change.invariant.layout;
      whole = s.whole;
      rows = s.rows ∙ c.loop-change.invariant.rows;
      panels = rw (c.tell_all.ensures.slots, panels_told) c.loop-change.invariant.panels;
      slots = cc (c.tell_all.ensures.slots, s.slots, c.loop-change.invariant.slots);
      capacity = c.tell_all.ensures.capacity ∙ c.loop-change.invariant.capacity;
    }

pub returns-clause-rows : goal.returns-clause-rows
returns-clause-rows g c =
    let e =
    stops (g.R.Rows.buses c.args.rows.now) (λ state. freed state c.args.session c.args.moment)
    (λ state whole. freed_later _ state whole _ _)
    (λ state whole. freed_told _ state whole _ c.ranges.moment.fits _) _ _ (sym c.in_default.is ∙ c.free_next.ensures.change)
    (c.free_next.ensures.rows) in
    e.same ∙ ap (λ us. updated_all us (g.R.Rows.state c.loop-change.rows)) (sym e.nothing) ∙ c.loop-change.invariant.rows

pub returns-clause-slots : goal.returns-clause-slots
returns-clause-slots g c =
    let e =
    stops (g.R.Rows.buses c.args.rows.now) (λ state. freed state c.args.session c.args.moment)
    (λ state whole. freed_later _ state whole _ _)
    (λ state whole. freed_told _ state whole _ c.ranges.moment.fits _)
    (g.R.Rows.state c.loop-change.rows) _ (sym c.in_default.is ∙ c.free_next.ensures.change) (c.free_next.ensures.rows) in
    ap (λ us. told_each (map change_in us) c.loop-change.connections.slots) (sym e.nothing) ∙ c.loop-change.invariant.slots
