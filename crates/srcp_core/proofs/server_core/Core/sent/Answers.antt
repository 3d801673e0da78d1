use Rattle.srcp_core.proofs.Names.{refl, sym, ◌∙◌, subst}
use Rattle.srcp_core.proofs.Invariants.PlacesCover.{IsMild}
use Rattle.srcp_core.proofs.Invariants.CoreStaysSound.{sound_place}
use Rattle.srcp_core.proofs.Invariants.PanelsStay.{panels_set}
use Rattle.srcp_core.proofs.server_core.Core.sent.Goals as goal

pub invariant_of-self : goal.invariant_of-self
invariant_of-self g c =
    let p = c.index_mut.result.now in
    let there = c.index_mut.ensures.value in
    let mild = subst (IsMild p) (sym c.consume.ensures) (record { session = refl; ended = λ h. h; panel = refl }) in (
      sound_place _ _ p _ there mild c.self.invariant.0,
      c.self.invariant.1,
      c.self.invariant.2,
      c.self.invariant.3 ∙ sym (panels_set _ c.args.conn _ c.consume.new.self there mild.panel),
    )
