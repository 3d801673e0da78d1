use Rattle.srcp_rules.proofs.Names.{sym, ◌∙◌, true≢false, rules, IsPartitionPoint-from_clause}
use Rattle.std.proofs.lemmas.Bool.{true_from_ne_false}
use Rattle.srcp_index.specs.declared.index.Pair.{Pair}
use Rattle.srcp_index.specs.Pairs.{before}
use Rattle.srcp_index.proofs.Pairs.{before_weak}
use Rattle.srcp_index.proofs.Splits.{parted}
use Rattle.srcp_index.proofs.index.count_before.Goals as goal

pub returns : goal.returns
returns c =
    let lt = before c.args.since in
    let p = λ (x : Pair). lt x c.args.pair.now in
    let ends = parted lt p
    (λ x y e f. true_from_ne_false (p x) (λ g. true≢false (sym f ∙ (before_weak c.args.since).chain y x c.args.pair.now e g)))
    _ c.requires _ (search rules)
    (λ split. IsPartitionPoint-from_clause p _ _ c.partition_point.ensures.partitioned split (λ a r f' called. search rules)) in
    record { bound = search rules; prefix = ends.0; back = ends.1 }
