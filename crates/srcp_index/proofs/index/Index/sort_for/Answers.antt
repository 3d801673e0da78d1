use Rattle.std.proofs.Common.{rules, refl}
use Rattle.srcp_index.proofs.Ordered.{ranked_is}
use Rattle.srcp_index.proofs.Pairs.{before_weak, is_order}
use Rattle.srcp_index.proofs.index.Index.sort_for.Goals as goal

pub invariant_of-self : goal.invariant_of-self
invariant_of-self c =
    (rw c.reorder_in.ensures.pairs (ranked_is _ (before_weak c.args.moment) c.self.inside.pairs.items), search rules)

pub returns-else-moment-self-clause-pairs : goal.returns-else-moment-self-clause-pairs
returns-else-moment-self-clause-pairs c =
    rw (← c.self.view_is, c.if-moment-self.false) (is_order c.self.inside.since _ c.self.inside.pairs.items c.self.invariant.0 (λ f. refl))
