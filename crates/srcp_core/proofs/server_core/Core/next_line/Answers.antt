use Rattle.srcp_core.proofs.Names.{sym, ap, ◌∙◌, subst, option_copied_mut}
use Rattle.srcp_core.proofs.Invariants.PlacesCover.{IsMild}
use Rattle.srcp_core.proofs.Invariants.CoreStaysSound.{sound_place}
use Rattle.srcp_core.proofs.Invariants.LinesAreFound.{next_request_mild}
use Rattle.srcp_core.proofs.Invariants.PanelsStay.{panels_set}
use Rattle.srcp_core.proofs.server_core.Core.next_line.Goals as goal

pub invariant_of-self-2 : goal.invariant_of-self-2
invariant_of-self-2 g c =
    let p = c.in_ok-connection.connection.now in
    let there = sym c.get_mut.ensures.value ∙ ap option_copied_mut c.in_ok-connection.was in
    let mild =
    subst (IsMild p) (sym (ap (λ r. r.1) c.next_line.ensures))
    (next_request_mild c.self.inside.layout.now c.args.piece.now c.args.start p) in (
      sound_place _ _ p _ there mild c.self.invariant.0,
      c.self.invariant.1,
      c.self.invariant.2,
      c.self.invariant.3 ∙ sym (panels_set _ c.args.conn _ c.next_line.new.self there mild.panel),
    )

pub returns-clause-sound : goal.returns-clause-sound
returns-clause-sound g c = (invariant_of-self-2 g c).0
