use Rattle.srcp_core.proofs.Names.{refl, sym, ap, ◌∙◌, subst, option_copied_mut}
use Rattle.srcp_core.proofs.Invariants.PlacesCover.{IsMild}
use Rattle.srcp_core.proofs.Invariants.CoreStaysSound.{sound_place}
use Rattle.srcp_core.proofs.Invariants.PanelsStay.{panels_set}
use Rattle.srcp_core.proofs.server_core.Core.set_mode.Goals as goal

pub invariant_of-self-2 : goal.invariant_of-self-2
invariant_of-self-2 g c =
    let there = sym c.get_mut.ensures.value ∙ ap option_copied_mut c.in-Some.is in
    let mild =
    subst (IsMild c.in-Some.connection.now) (sym c.set_mode.ensures) (record { session = refl; ended = λ h. h; panel = refl }) in (
      sound_place _ _ _ _ there mild c.self.invariant.0,
      c.self.invariant.1,
      c.self.invariant.2,
      c.self.invariant.3 ∙ sym (panels_set _ c.args.conn _ c.set_mode.new.self there mild.panel),
    )
