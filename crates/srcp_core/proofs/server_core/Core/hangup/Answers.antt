use Rattle.srcp_core.proofs.Names.{◌≡◌, ◌≤◌, sym, ap, ◌∙◌, arith, is_some, count_by, Option, freed, Place, at, open_count, freed_place}
use Rattle.std.proofs.Common.{Some}
use Rattle.std.specs.Prelude.{List}
use Rattle.srcp_core.proofs.Invariants.CoreStaysSound.{left_of, live_session_is, sound_hung_up, sound_carried_as}
use Rattle.srcp_core.proofs.Invariants.PanelsStay.{panels_told_each}
use Rattle.srcp_core.proofs.server_core.Core.hangup.Goals as goal

pub invariant_of-self-in-Some-live_session : goal.invariant_of-self-in-Some-live_session
invariant_of-self-in-Some-live_session g c =
    let held = left_of c.self.view_is in
    let there : at held c.args.conn ≡ Some c.in-Some.connection = sym c.in-Some.ensures.value in
    let count : open_count (freed_place c.args.conn held) ≤ open_count held =
    let n = ap (λ (ps : List (Option Place)). count_by is_some ps) c.in-Some.ensures.slots in omega (arith, n, c.in-Some.ensures.len) in
    let session = c.in-Some-live_session.session in
    let live = live_session_is c.in-Some.connection session c.in-Some-live_session.ensures in (
      sound_carried_as (freed_place c.args.conn held) (freed held.rows session held.moment) _ _ c.free_all.ensures.rows
          (cc (c.free_all.ensures.slots, c.in-Some.ensures.slots))
          (sound_hung_up c.args.conn held c.in-Some.connection session there live.0 live.1 count c.self.invariant.0),
      c.free_all.ensures.layout ∙ c.self.invariant.1,
      rw (c.free_all.ensures.capacity ∙ c.in-Some.ensures.capacity) c.self.invariant.2,
      rw (c.free_all.ensures.slots, panels_told_each) c.panel_keys-self-inside.ensures,
    )
