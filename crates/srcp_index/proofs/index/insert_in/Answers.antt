use Rattle.std.proofs.Common.{arith}
use Rattle.srcp_index.specs.Pairs.{before}
use Rattle.srcp_index.proofs.Splits.{insert-insert_by}
use Rattle.srcp_index.proofs.index.insert_in.Goals as goal

pub returns-clause-pairs : goal.returns-clause-pairs
returns-clause-pairs c =
    let at = c.count_before-index in
    let put = insert-insert_by (before c.args.since) c.args.pair _ at.result (at.ensures.prefix, at.ensures.back) in
    grind (arith, put)
