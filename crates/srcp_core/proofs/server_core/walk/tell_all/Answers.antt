use Rattle.srcp_core.proofs.Names.{◌≡◌, ap, sym, ◌∙◌, arith, length, take, option_copied_mut, eqb-true, nil_from_length, Slab, Change}
use Rattle.srcp_core.proofs.Names.{Place, told_place}
use Rattle.std.proofs.Math.ListN.{get_or}
use Rattle.std.proofs.Math.Seq.{take-length}
use Rattle.std.specs.Prelude.{fold}
use Rattle.std.proofs.lemmas.List.Sums.{fold_more}
use Rattle.srcp_core.proofs.Invariants.EveryPlaceIsTold.{told_key, told_panels}
use Rattle.srcp_core.proofs.Invariants.PlacesCover.{set_as, none_as}
use Rattle.srcp_core.proofs.server_core.walk.tell_all.Goals as goal
use Rattle.srcp_core.proofs.server_core.walk.tell_all.Goals.{in-Some, in_default}

pub loop-key-preserved : goal.loop-key-preserved
loop-key-preserved c =
    let change = c.args.change.now in
    let before = c.args.connections.now.slots in
    let more = fold_more (told_key change) before c.args.panels.now c.loop-key.key-index 0 c.loop-key-test.true in
    record {
      slots = elim c.match-get_mut.branch [
        | in-Some w ↦
            let there = sym c.get_mut.ensures.value ∙ ap option_copied_mut w.in-Some.is in
            ap (λ (s : Slab Place). s.slots) w.connections-is
            ∙ set_as _ _ _ _ _ there
            (w.tell.ensures ∙ ap (λ (c : Change). told_place c w.in-Some.connection.now) c.new-told.ensures)
            ∙ ap (λ slots. told_key change slots (get_or c.args.panels.now c.loop-key.key-index 0)) c.loop-key.invariant.slots ∙ sym more
        | in_default w ↦
            let none = sym c.get_mut.ensures.value ∙ ap option_copied_mut w.in_default.is in
            ap (λ (s : Slab Place). s.slots) w.connections-is ∙ none_as _ _ _ none
            ∙ ap (λ slots. told_key change slots (get_or c.args.panels.now c.loop-key.key-index 0)) c.loop-key.invariant.slots ∙ sym more
      ];
      capacity = elim c.match-get_mut.branch [
        | in-Some w ↦ cc (w.connections-is, c.loop-key.invariant.capacity)
        | in_default w ↦ cc (w.connections-is, c.loop-key.invariant.capacity)
      ];
    }

pub returns-clause-slots : goal.returns-clause-slots
returns-clause-slots c =
    let before = c.args.connections.now.slots in
    let end : c.loop-key.key-index ≡ length c.args.panels.now = omega (arith, c.loop-key.auto.key-index-end, c.loop-key-test.false) in
    let all = ap (λ n. take n c.args.panels.now) end ∙ take-length _ ∙ c.requires.panels in
    cc (c.loop-key.invariant.slots, told_panels c.args.change.now before)

pub returns-then-is_empty-clause-slots : goal.returns-then-is_empty-clause-slots
returns-then-is_empty-clause-slots c =
    let none = nil_from_length _ (eqb-true _ 0 (sym c.is_empty.ensures ∙ c.if-is_empty.true)) in
    ap (fold (told_key c.args.change.now) c.args.connections.now.slots) (sym none ∙ c.requires.panels)
    ∙ told_panels c.args.change.now _
