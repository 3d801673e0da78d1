use Rattle.std.proofs.Common.{rules}
use Rattle.std.proofs.lemmas.Fn.{always_returns_same}
use Rattle.srcp_index.specs.Pairs.{before}
use Rattle.srcp_index.proofs.Pairs.{before_weak}
use Rattle.srcp_index.proofs.Splits.{from_sorted}
use Rattle.srcp_index.proofs.index.sort.Goals as goal

pub returns-clause-order : goal.returns-clause-order
returns-clause-order c =
    from_sorted (before c.args.moment) (before_weak c.args.moment) _ (c.sort_unstable_by.ensures.sorted (before c.args.moment)
    (before_weak c.args.moment) (always_returns_same _ _ _ (λ a r g called. search rules)))
