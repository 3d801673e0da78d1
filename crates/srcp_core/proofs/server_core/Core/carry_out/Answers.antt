use Rattle.srcp_core.proofs.Names.{◌≡◌, true, length, List, sym, ap, ◌∙◌, subst, arith, IsCommandOf, effect, session_device, is_there, Held}
use Rattle.srcp_core.proofs.Names.{Place, place_at, unsent_at, unsent_of}
use Rattle.std.proofs.Common.{Option}
use Rattle.srcp_core.proofs.Invariants.RefusalsChangeNothing.{denied_same, given_took}
use Rattle.srcp_core.proofs.Invariants.CoreStaysSound.{left_of, sound_obeyed, sound_carried_as}
use Rattle.srcp_core.proofs.Invariants.PanelsStay.{panels_told_each}
use Rattle.srcp_core.proofs.Invariants.RepliesStayUnsent.{longest_most, told_each_shorter}
use Rattle.srcp_core.proofs.server_core.Core.carry_out.Goals as goal

pub reply-requires-clause-fits : goal.reply-requires-clause-fits
reply-requires-clause-fits g c =
    let places = c.self.inside.connections.slots in
    let is = ap (λ (ps : List (Option Place)). length (unsent_of (place_at ps c.args.conn))) c.tell_each.ensures.slots in
    let shorter = told_each_shorter c.as_slice-2.result.now places c.args.conn in
    let most = longest_most c.obey_into.new.obeyed.reply in
    let unsent = ap (λ (h : Held). length (unsent_at c.args.conn h)) c.self.view_is in
    omega (arith, is, shorter, most, unsent, c.requires.fits)

pub invariant_of-self-2 : goal.invariant_of-self-2
invariant_of-self-2 g c =
    let held = left_of c.self.view_is in
    let row : is_there (session_device c.args.session) held.rows ≡ true =
    ap (λ (h : Held). is_there (session_device c.args.session) h.rows) c.self.view_is ∙ c.requires.row in
    let of : IsCommandOf held.buses c.args.command.now =
    subst (λ (h : Held). IsCommandOf h.buses c.args.command.now) (sym c.self.view_is) c.requires.command in
    let did =
    given_took held.rows _ c.args.session held.moment c.args.command.now _ c.obey_into.ensures.obeyed
    (c.is_denied.ensures.given c.if-is_denied.false) in (
      sound_carried_as held (effect held.rows c.args.session held.moment c.args.command.now).updates _ _ did.rows
          (cc (c.tell_each.ensures.slots, c.as_slice-2.ensures.value, did.told.changes))
          (sound_obeyed c.args.session held.moment c.args.command.now held c.self.invariant.0.moment of row c.self.invariant.0),
      c.obey_into.ensures.layout ∙ c.self.invariant.1,
      rw c.tell_each.ensures.capacity c.self.invariant.2,
      rw (c.tell_each.ensures.slots, panels_told_each) c.self.invariant.3,
    )

pub invariant_of-self : goal.invariant_of-self
invariant_of-self g c =
    let held = left_of c.self.view_is in
    let same =
    denied_same _ _ c.args.session held.moment c.args.command.now _ c.obey_into.ensures.obeyed
    (c.is_denied.ensures.denied c.if-is_denied.true) in (
      rw same c.self.invariant.0,
      c.obey_into.ensures.layout ∙ c.self.invariant.1,
      c.self.invariant.2,
      c.self.invariant.3,
    )
