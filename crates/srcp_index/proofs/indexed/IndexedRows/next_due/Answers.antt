use Rattle.srcp_rules.proofs.Names.{rules, Some, None}
use Rattle.srcp_index.proofs.IndexedLaws.{settled}
use Rattle.srcp_index.proofs.PairsOfRows.{due_row}
use Rattle.srcp_index.proofs.indexed.IndexedRows.next_due.Goals as goal

pub invariant_of-self : goal.invariant_of-self
invariant_of-self g c = search (rules, settled)

pub invariant_of-self-2 : goal.invariant_of-self-2
invariant_of-self-2 g c = search (rules, settled)

pub returns-in_err-pair-clause-row : goal.returns-in_err-pair-clause-row
returns-in_err-pair-clause-row g c =
    let sorted = c.sort_for.ensures in
    let kept = settled _ _ _ c.args.moment c.sort_for.new.self c.self.invariant sorted.pairs sorted.since sorted.reserved in
    let first = due_row _ c.sort_for.new.self c.args.cursor None kept.rising kept.due.pairs c.in_err-pair.ensures in
    cc

pub returns-clause-row : goal.returns-clause-row
returns-clause-row g c =
    let sorted = c.sort_for.ensures in
    let kept = settled _ _ _ c.args.moment c.sort_for.new.self c.self.invariant sorted.pairs sorted.since sorted.reserved in
    let first = due_row _ c.sort_for.new.self c.args.cursor (Some c.in_ok-pair.pair) kept.rising kept.due.pairs c.in_ok-pair.ensures in
    cc
