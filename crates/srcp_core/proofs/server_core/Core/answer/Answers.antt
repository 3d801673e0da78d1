use Rattle.srcp_core.proofs.Names.{subst, sym, ◌∙◌, IsSound}
use Rattle.srcp_core.proofs.Invariants.LinesAsk.{asked_by}
use Rattle.srcp_core.proofs.Invariants.RepliesStayUnsent.{session_row}
use Rattle.srcp_core.proofs.server_core.Core.answer.Goals as goal

pub command-requires-clause-session : goal.command-requires-clause-session
command-requires-clause-session g c =
    let a = c.requires.request in
    let sound = subst IsSound c.self.view_is c.self.invariant.0 in
    let by =
    asked_by _ sound.whole.laid_out a.place a.mark _ _
    (sym c.in-Commands.is ∙ a.is) in
    record { place = a.place; here = a.here; own = by.own; live = by.live }

pub command-requires-clause-row : goal.command-requires-clause-row
command-requires-clause-row g c =
    session_row _ c.args.conn _ (subst IsSound c.self.view_is c.self.invariant.0)
    (command-requires-clause-session g c)

pub command-requires-clause-command : goal.command-requires-clause-command
command-requires-clause-command g c =
    let a = c.requires.request in
    let sound = subst IsSound c.self.view_is c.self.invariant.0 in
    (asked_by _ sound.whole.laid_out a.place a.mark _ _
    (sym c.in-Commands.is ∙ a.is)).of
