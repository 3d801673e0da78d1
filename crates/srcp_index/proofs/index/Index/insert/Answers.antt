use Rattle.std.proofs.Common.{rules}
use Rattle.srcp_index.proofs.Ordered.{ranked_put}
use Rattle.srcp_index.proofs.Pairs.{before_weak}
use Rattle.srcp_index.proofs.index.Index.insert.Goals as goal

pub invariant_of-self : goal.invariant_of-self
invariant_of-self c =
    (rw c.insert_in.ensures.pairs (ranked_put _ (before_weak c.self.inside.since) c.args.pair _ c.self.invariant.0), search rules)
