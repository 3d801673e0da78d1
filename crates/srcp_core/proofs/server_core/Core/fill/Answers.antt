use Rattle.srcp_core.proofs.Names.{sym, ap, ◌∙◌, subst, option_copied_mut}
use Rattle.srcp_core.proofs.Invariants.PlacesCover.{IsMild}
use Rattle.srcp_core.proofs.Invariants.CoreStaysSound.{filled_mild, sound_place}
use Rattle.srcp_core.proofs.Invariants.PanelsStay.{panels_set}
use Rattle.srcp_core.proofs.server_core.Core.fill.Goals as goal
use Rattle.srcp_core.proofs.Invariants.RowLists.{shown_tellable}

pub fill-requires : goal.fill-requires
fill-requires g c = shown_tellable c.self.inside.layout.now _ c.self.invariant.0.whole

pub invariant_of-self-2 : goal.invariant_of-self-2
invariant_of-self-2 g c =
    let p = c.in-Some.connection.now in
    let there = sym c.get_mut.ensures.value ∙ ap option_copied_mut c.in-Some.is in
    let mild = subst (IsMild p) (sym c.fill.ensures.place) (filled_mild _ p) in (
      sound_place _ _ p _ there mild c.self.invariant.0,
      c.self.invariant.1,
      c.self.invariant.2,
      c.self.invariant.3 ∙ sym (panels_set _ c.args.conn _ c.fill.new.self there mild.panel),
    )
