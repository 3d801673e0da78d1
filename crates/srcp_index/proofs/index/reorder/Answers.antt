use Rattle.srcp_rules.proofs.Names.{◌++◌, ◌≤◌, ap, ◌∙◌, subst, rules, arith, nat_le, IsPartitionPoint-from_clause}
use Rattle.std.specs.List.Sorted.{IsPermutation}
use Rattle.srcp_index.specs.declared.index.Pair.{Pair}
use Rattle.srcp_index.specs.Pairs.{before}
use Rattle.srcp_index.proofs.Splits.{parted}
use Rattle.srcp_index.proofs.Pairs.{arranged, come_first}
use Rattle.srcp_index.proofs.index.reorder.Goals as goal

pub returns : goal.returns
returns c =
    let since = c.args.since in
    let latest = c.max-latest.result in
    let pairs = c.args.pairs.now in
    let at = c.partition_point-count in
    let new = c.sort.new.pairs in
    let p = λ (x : Pair). nat_le x.rank latest in
    let late : since ≤ latest = omega (arith, c.max-latest.ensures) in
    let ends = parted (before since) p (λ x y. come_first y.rank x.rank _ since latest late) pairs c.requires at.result at.ensures.bound
    (λ split. IsPartitionPoint-from_clause p pairs at.result at.ensures.partitioned split (λ a r g called. search rules)) in
    ap (λ back. new ++ back) c.split_at_mut-front.ensures.back
    ∙ arranged since c.args.moment latest late (omega (arith, c.max-latest.ensures)) pairs at.result new c.requires ends
    (subst (λ front. IsPermutation front new) c.split_at_mut-front.ensures.front c.sort.ensures.permutation) c.sort.ensures.order
