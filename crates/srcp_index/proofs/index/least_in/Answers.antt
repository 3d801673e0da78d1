use Rattle.std.proofs.Common.{rules}
use Rattle.srcp_index.proofs.Least.{least_ranked}
use Rattle.srcp_index.proofs.index.least_in.Goals as goal

pub returns : goal.returns
returns c =
    rw c.least_due.ensures (least_ranked c.args.since c.in_ok-first.first.now _ (search rules) c.in_ok-first.ensures.lookup c.requires)
