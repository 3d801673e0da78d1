use Rattle.srcp_core.proofs.Names.{true, sym, ap, ◌∙◌, subst, option_copied_mut, freed, Place, IsSessionAt, is_panel, changed_at}
use Rattle.srcp_core.proofs.Invariants.CoreStaysSound.{left_of, sound_ended, sound_carried_as}
use Rattle.srcp_core.proofs.Invariants.PlacesCover.{set_as}
use Rattle.srcp_core.proofs.Invariants.PanelsStay.{panels_set, panels_told_each}
use Rattle.srcp_core.proofs.server_core.Core.end.Goals as goal

pub free_all-requires-clause-panels : goal.free_all-requires-clause-panels
free_all-requires-clause-panels g c =
    let there = sym c.get_mut.ensures.value ∙ ap option_copied_mut c.in-Some.is in
    c.as_slice.ensures.value ∙ c.self.invariant.3
    ∙ sym (panels_set _ c.args.conn _ c.end.new.self there (ap (λ (p : Place). is_panel p.panel) c.end.ensures))

pub invariant_of-self-2 : goal.invariant_of-self-2
invariant_of-self-2 g c =
    let held = left_of c.self.view_is in
    let here : IsSessionAt c.args.session c.args.conn held =
    subst (IsSessionAt c.args.session c.args.conn) (sym c.self.view_is) c.requires in
    let there = sym c.get_mut.ensures.value ∙ ap option_copied_mut c.in-Some.is in (
      sound_carried_as (changed_at c.args.conn (λ p. record p { ended = true }) held)
          (freed held.rows c.args.session held.moment) _ _ c.free_all.ensures.rows
          (cc (c.free_all.ensures.slots, set_as _ _ _ _ _ there c.end.ensures))
          (sound_ended c.args.conn c.args.session held c.self.invariant.0.moment here c.self.invariant.0),
      c.free_all.ensures.layout ∙ c.self.invariant.1,
      rw c.free_all.ensures.capacity c.self.invariant.2,
      rw (c.free_all.ensures.slots, panels_told_each)
          (c.self.invariant.3 ∙ sym (panels_set _ c.args.conn _ c.end.new.self there (ap (λ (p : Place). is_panel p.panel) c.end.ensures))),
    )
