use Rattle.srcp_core.proofs.Names.{◌<◌, ◌≤◌, sym, subst, length, pos_of_ne-zero}
use Rattle.srcp_core.specs.Past.{Past, lent_at}
use Rattle.srcp_core.proofs.Agreement.PastIsLived.{lived_sent, lent_there, lent_open, lent_unsent}
use Rattle.srcp_core.proofs.logged.LoggedCore.sent.Goals as goal

pub sent-requires-clause-open : goal.sent-requires-clause-open
sent-requires-clause-open g c =
    let some : 0 < c.args.count = pos_of_ne-zero c.if-count-eq0.false in
    let few = subst (λ (p : Past). c.args.count ≤ length (lent_at c.args.conn p)) (sym c.self.view_is) c.requires in
    let l = c.self.invariant in lent_open _ _ _ l c.args.conn (lent_there _ _ _ l c.args.conn c.args.count some few)

pub sent-requires-clause-unsent : goal.sent-requires-clause-unsent
sent-requires-clause-unsent g c =
    let some : 0 < c.args.count = pos_of_ne-zero c.if-count-eq0.false in
    let few = subst (λ (p : Past). c.args.count ≤ length (lent_at c.args.conn p)) (sym c.self.view_is) c.requires in
    let l = c.self.invariant in rw (lent_unsent _ _ _ l c.args.conn (lent_there _ _ _ l c.args.conn c.args.count some few)) few

pub invariant_of-self : goal.invariant_of-self
invariant_of-self g c =
    let some : 0 < c.args.count = pos_of_ne-zero c.if-count-eq0.false in
    let few = subst (λ (p : Past). c.args.count ≤ length (lent_at c.args.conn p)) (sym c.self.view_is) c.requires in
    lived_sent _ _ _ c.self.invariant c.args.conn c.args.count _ _ some few c.sent.ensures c.note.ensures
