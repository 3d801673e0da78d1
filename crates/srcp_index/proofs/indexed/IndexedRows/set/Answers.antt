use Rattle.srcp_rules.proofs.Names.{sym, ap, ◌∙◌, option_copied, holder_of}
use Rattle.srcp_index.specs.Indexed.{due_of}
use Rattle.srcp_index.proofs.SetRowLaws.{reserved_for, passed_by, set_indexed}
use Rattle.srcp_index.proofs.indexed.IndexedRows.set.Goals as goal

pub insert-requires-clause-moments : goal.insert-requires-clause-moments
insert-requires-clause-moments g c =
    rw c.remove.ensures
    (reserved_for (g.R.Rows.buses c.args.self.now) _ _ _ c.self.invariant c.in-Some.old.now c.args.row
    (sym c.row.ensures ∙ ap option_copied c.in-Some.is) c.requires.fits due_of _ (λ row r. r.due) c.self.invariant.due)

pub insert-requires-clause-sessions : goal.insert-requires-clause-sessions
insert-requires-clause-sessions g c =
    rw c.remove.ensures
    (reserved_for (g.R.Rows.buses c.args.self.now) _ _ _ c.self.invariant c.in-Some.old.now c.args.row
    (sym c.row.ensures ∙ ap option_copied c.in-Some.is) c.requires.fits holder_of _ (λ row r. r.held) c.self.invariant.held)

pub invariant_of-self : goal.invariant_of-self
invariant_of-self g c =
    rw c.set.ensures.rows
    (passed_by (g.R.Rows.buses c.args.self.now) _ _ _ c.self.invariant c.args.row (rw c.self.view_is c.requires.there) c.requires.fits
    (sym c.may_rank.ensures ∙ c.if-not-may_rank.true))

pub invariant_of-self-2 : goal.invariant_of-self-2
invariant_of-self-2 g c =
    rw (c.set-2.ensures.rows, c.insert.ensures, c.remove.ensures)
    (set_indexed (g.R.Rows.buses c.args.self.now) _ _ _ c.self.invariant c.in-Some.old.now c.args.row
    (sym c.row.ensures ∙ ap option_copied c.in-Some.is) c.requires.fits)
