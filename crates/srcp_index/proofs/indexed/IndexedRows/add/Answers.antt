use Rattle.srcp_rules.proofs.Names.{holder_of, length, sym, ap, subst, arith, AreNewRowsOf}
use Rattle.std.proofs.lemmas.List.Sums.{count_by-le-length}
use Rattle.srcp_index.specs.Indexed.{due_of, is_removable}
use Rattle.srcp_index.proofs.AddedRowsLaws.{added_indexed}
use Rattle.srcp_index.proofs.IndexedLaws.{more_reserved}
use Rattle.srcp_index.proofs.RankLaws.{few}
use Rattle.srcp_index.proofs.indexed.IndexedRows.add.Goals as goal

pub insert_all-requires-clause-moments : goal.insert_all-requires-clause-moments
insert_all-requires-clause-moments g c =
    let most = few due_of (λ row r. r.due) _ _ _ c.self.invariant.rows c.self.invariant.due in
    omega (arith, most, c.self.invariant.counted, ap length c.reserve.ensures.moments, c.in-Some.ensures, c.in_ok-reserve.ensures)

pub insert_all-requires-clause-sessions : goal.insert_all-requires-clause-sessions
insert_all-requires-clause-sessions g c =
    let most = few holder_of (λ row r. r.held) _ _ _ c.self.invariant.rows c.self.invariant.held in
    omega (arith, most, c.self.invariant.counted, ap length c.reserve.ensures.sessions, c.in-Some.ensures, c.in_ok-reserve.ensures)

-- rows that come and go are no more than there are rows
pub overflow_add-self : goal.overflow_add-self
overflow_add-self g c =
    omega (arith, c.in-Some.ensures, count_by-le-length is_removable c.args.added.now, c.removable_rows.ensures)

pub invariant_of-self-2 : goal.invariant_of-self-2
invariant_of-self-2 g c =
    let fresh = subst (λ rows. AreNewRowsOf (g.R.Rows.buses rows) (g.R.Rows.state rows) c.requires.0 c.args.added.now)
    (sym c.self.view_is) c.requires.1 in
    let total = c.in-Some.ensures in
    let some = count_by-le-length is_removable c.args.added.now in
    let now = c.reserve.ensures in
    let memory = c.in_ok-reserve.ensures in
    let reserved = more_reserved _ _ c.reserve.new.self _ c.self.invariant now.moments now.moments_since now.sessions now.sessions_since
    (omega (arith, total, memory.moments_reserved)) (omega (arith, total, memory.sessions_reserved)) in
    rw (c.in_ok-add.ensures.ok, c.insert_all.ensures, c.removable_rows.ensures)
    (added_indexed (g.R.Rows.buses c.self.inside.rows) _ c.requires.0 c.args.added.now fresh c.reserve.new.self _
    (omega (arith, total, some, memory.moments_reserved)) (omega (arith, total, some, memory.sessions_reserved)) reserved)
