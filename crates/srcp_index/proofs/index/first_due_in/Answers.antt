use Rattle.srcp_rules.proofs.Names.{ap, ◌∙◌, rules, IsPartitionPoint-from_clause}
use Rattle.std.specs.Bool.{then_some}
use Rattle.srcp_index.specs.Pairs.{before, is_due_beyond}
use Rattle.srcp_index.proofs.Splits.{found}
use Rattle.srcp_index.proofs.Pairs.{is_passed, passed_first, passed_not_due, due_stops}
use Rattle.srcp_index.proofs.index.first_due_in.Goals as goal

pub returns-in_err-pair : goal.returns-in_err-pair
returns-in_err-pair c =
    let since = c.args.since in
    let p = is_passed since c.args.cursor in
    let first = found (before since) p (passed_first since c.args.cursor) _ c.requires _ (search rules)
    (λ split. IsPartitionPoint-from_clause p _ _ c.partition_point-index.ensures.partitioned split (λ a r f' called. search rules))
    (is_due_beyond since c.args.cursor) (passed_not_due since c.args.cursor) (λ x y. due_stops y.rank x.rank _ since _ _) in
    c.from_residual.ensures ∙ first.0 (search rules)

pub returns : goal.returns
returns c =
    let since = c.args.since in
    let p = is_passed since c.args.cursor in
    let pair = c.in_ok-pair.field-0.now in
    let first = found (before since) p (passed_first since c.args.cursor) _ c.requires _ (search rules)
    (λ split. IsPartitionPoint-from_clause p _ _ c.partition_point-index.ensures.partitioned split (λ a r f' called. search rules))
    (is_due_beyond since c.args.cursor) (passed_not_due since c.args.cursor) (λ x y. due_stops y.rank x.rank _ since _ _) in
    c.then_some.ensures ∙ ap (λ b. then_some b pair) c.is_due_beyond.ensures ∙ first.1 pair (search rules) c.in_ok-pair.ensures.lookup
