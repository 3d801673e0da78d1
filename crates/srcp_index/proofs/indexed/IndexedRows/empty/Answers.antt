use Rattle.srcp_index.proofs.IndexedLaws.{opening_indexed}
use Rattle.srcp_index.proofs.indexed.IndexedRows.empty.Goals as goal

pub invariant_of-result : goal.invariant_of-result
invariant_of-result g c =
    rw c.in_ok-rows.ensures.rows
    (opening_indexed c.args.layout.now c.buses.ensures.laid_out _ c.new.ensures.moments c.new.ensures.sessions c.new.ensures.since)
