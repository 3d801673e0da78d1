use Rattle.srcp_core.proofs.Names.{◌<◌, ◌^◌, ◌∙◌, due}
use Rattle.srcp_core.proofs.Invariants.CoreStaysSound.{left_of, sound_due, sound_moment, sound_carried_as}
use Rattle.srcp_core.proofs.Invariants.PanelsStay.{panels_told_each}
use Rattle.srcp_core.proofs.server_core.Core.advance.Goals as goal

pub invariant_of-self : goal.invariant_of-self
invariant_of-self g c =
    let held = left_of c.self.view_is in
    let now : c.max-self-inside.result < 2 ^ 64 = c.max-self-inside.type_inv in (
      sound_carried_as (record held { moment = c.max-self-inside.result })
          (due held.rows c.max-self-inside.result) _ _ c.carry_out_due.ensures.rows c.carry_out_due.ensures.slots
          (sound_due c.max-self-inside.result (record held { moment = c.max-self-inside.result }) now
          (sound_moment held c.max-self-inside.result now c.self.invariant.0)),
      c.carry_out_due.ensures.layout ∙ c.self.invariant.1,
      rw c.carry_out_due.ensures.capacity c.self.invariant.2,
      rw (c.carry_out_due.ensures.slots, panels_told_each) c.self.invariant.3,
    )
