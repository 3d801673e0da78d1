use Rattle.srcp_core.proofs.Names.{sym, subst, effect, IsSessionAt}
use Rattle.srcp_core.proofs.Invariants.RepliesStayUnsent.{session_replied}
use Rattle.srcp_core.proofs.server_core.Core.obey.Goals as goal

pub end-requires : goal.end-requires
end-requires g c =
    let held = c.args.self.now in
    let did = effect held.rows c.args.session held.moment c.args.command.now in
    subst (IsSessionAt c.args.session c.args.conn) (sym c.in-Some.ensures.carried)
    (session_replied _ _ did.reply did.updates held c.requires.session)
