use Rattle.srcp_rules.proofs.Names.{Some, None}
use Rattle.srcp_index.proofs.PairsOfRows.{held_row}
use Rattle.srcp_index.proofs.indexed.IndexedRows.first_held.Goals as goal

pub returns-in_err-pair : goal.returns-in_err-pair
returns-in_err-pair g c =
    let kept = c.self.invariant in
    let first = held_row _ c.self.inside.indexes.sessions c.from.result None kept.rising kept.held.pairs c.in_err-pair.ensures in
    cc

pub returns : goal.returns
returns g c =
    let kept = c.self.invariant in
    let first = held_row _ c.self.inside.indexes.sessions c.from.result (Some c.in_ok-pair.pair) kept.rising kept.held.pairs
    c.in_ok-pair.ensures in
    cc
