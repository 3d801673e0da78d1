use Rattle.srcp_core.proofs.Names.{◌≡◌, ◌+◌, sym, ap, ◌∙◌, subst, arith, count_by, is_some, option_copied_mut, Held, IsSound, session_begun}
use Rattle.srcp_core.proofs.Invariants.CoreStaysSound.{left_of, begun_is, sound_begun}
use Rattle.srcp_core.proofs.Invariants.EveryPlaceIsTold.{told_all_count}
use Rattle.srcp_core.proofs.Invariants.PlacesCover.{set_as, none_as, set_count}
use Rattle.srcp_core.proofs.Invariants.PanelsStay.{panels_told}
use Rattle.srcp_core.proofs.server_core.Core.begin.Goals as goal

pub panel_keys-self-inside-requires : goal.panel_keys-self-inside-requires
panel_keys-self-inside-requires g c =
    let there = sym c.get_mut.ensures.value ∙ ap option_copied_mut c.in-Some.is in
    let before = c.self.inside.connections.slots in
    let told = ap (count_by is_some) c.tell_all.ensures.slots ∙ told_all_count c.in_ok-change.change before in
    let set = set_count c.tell_all.new.connections.slots c.args.conn c.in-Some.connection.now c.begin_session-2.new.self there in
    omega (arith, c.self.invariant.0.few, told, set)

pub returns-clause-ok : goal.returns-clause-ok
returns-clause-ok g c =
    let held = left_of c.self.view_is in
    let there = sym c.get_mut.ensures.value ∙ ap option_copied_mut c.in-Some.is in
    begun_is held _ _ _ _ _ _ _ _ c.in_ok-panel.ensures c.in_ok-change.ensures.rows
    c.in_ok-change.ensures.change c.tell_all.ensures.slots
    (set_as _ _ _ _ _ there c.begin_session-2.ensures)
    ∙ ap (session_begun c.args.conn c.args.id c.args.mode) c.self.view_is

pub returns-in_default-clause-ok : goal.returns-in_default-clause-ok
returns-in_default-clause-ok g c =
    let held = left_of c.self.view_is in
    let none = sym c.get_mut.ensures.value ∙ ap option_copied_mut c.in_default.is in
    begun_is held _ _ _ _ _ _ _ _ c.in_ok-panel.ensures c.in_ok-change.ensures.rows
    c.in_ok-change.ensures.change c.tell_all.ensures.slots
    (none_as _ _ _ none)
    ∙ ap (session_begun c.args.conn c.args.id c.args.mode) c.self.view_is

pub invariant_of-self-2 : goal.invariant_of-self-2
invariant_of-self-2 g c =
    let held = left_of c.self.view_is in
    let last = ap (λ (h : Held). h.last_id) c.self.view_is in
    let next : c.args.id ≡ held.last_id + 1 = cc c.requires in
    let there = sym c.get_mut.ensures.value ∙ ap option_copied_mut c.in-Some.is in (
      subst IsSound
          (sym
          (begun_is held c.args.conn c.args.id c.args.mode _ _ _ _ _ c.in_ok-panel.ensures c.in_ok-change.ensures.rows
          c.in_ok-change.ensures.change c.tell_all.ensures.slots
          (set_as _ _ _ _ _ there c.begin_session-2.ensures)))
          (sound_begun c.args.conn c.args.id c.args.mode held c.self.invariant.0.moment next (omega arith) c.self.invariant.0),
      c.in_ok-change.ensures.layout ∙ c.self.invariant.1,
      rw c.tell_all.ensures.capacity c.self.invariant.2,
      c.panel_keys-self-inside.ensures,
    )

pub invariant_of-self-in_default : goal.invariant_of-self-in_default
invariant_of-self-in_default g c =
    let held = left_of c.self.view_is in
    let last = ap (λ (h : Held). h.last_id) c.self.view_is in
    let next : c.args.id ≡ held.last_id + 1 = cc c.requires in
    let none = sym c.get_mut.ensures.value ∙ ap option_copied_mut c.in_default.is in (
      subst IsSound
          (sym
          (begun_is held c.args.conn c.args.id c.args.mode _ _ _ _ _ c.in_ok-panel.ensures c.in_ok-change.ensures.rows
          c.in_ok-change.ensures.change c.tell_all.ensures.slots
          (none_as _ _ _ none)))
          (sound_begun c.args.conn c.args.id c.args.mode held c.self.invariant.0.moment next (omega arith) c.self.invariant.0),
      c.in_ok-change.ensures.layout ∙ c.self.invariant.1,
      rw c.tell_all.ensures.capacity c.self.invariant.2,
      rw (c.tell_all.ensures.slots, panels_told) c.self.invariant.3,
    )
