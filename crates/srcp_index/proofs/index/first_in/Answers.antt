use Rattle.srcp_rules.proofs.Names.{◌∙◌, rules, arith, nat_lt, ◌==◌, IsPartitionPoint-from_clause}
use Rattle.srcp_index.specs.declared.index.Pair.{Pair}
use Rattle.srcp_index.specs.Pairs.{before}
use Rattle.srcp_index.proofs.Splits.{found}
use Rattle.srcp_index.proofs.Pairs.{lower_first, rank_stops}
use Rattle.srcp_index.proofs.index.first_in.Goals as goal

pub returns-in_err-pair : goal.returns-in_err-pair
returns-in_err-pair c =
    let rank = c.args.rank in
    let p = λ (x : Pair). nat_lt x.rank rank in
    let first = found (before 0) p (λ x y. lower_first y.rank x.rank _ rank) _ c.requires _ (search rules)
    (λ split. IsPartitionPoint-from_clause p _ _ c.partition_point-index.ensures.partitioned split (λ a r f' called. search rules))
    (λ x. x.rank == rank) (λ x e. grind arith) (λ x y. rank_stops y.rank x.rank _ rank) in
    c.from_residual.ensures ∙ first.0 (search rules)

pub returns : goal.returns
returns c =
    let rank = c.args.rank in
    let p = λ (x : Pair). nat_lt x.rank rank in
    let first = found (before 0) p (λ x y. lower_first y.rank x.rank _ rank) _ c.requires _ (search rules)
    (λ split. IsPartitionPoint-from_clause p _ _ c.partition_point-index.ensures.partitioned split (λ a r f' called. search rules))
    (λ x. x.rank == rank) (λ x e. grind arith) (λ x y. rank_stops y.rank x.rank _ rank) in
    c.then_some.ensures ∙ first.1 c.in_ok-pair.field-0.now (search rules) c.in_ok-pair.ensures.lookup
