-- A step of the loop is a step of the search.
use Rattle.std.proofs.Common.{◌≡◌, ◌∙◌, ℕ, suc, ◌+◌, ◌-◌, ◌<◌, List, ◌++◌, length, map, ap, sym, append_assoc, arith}
use Rattle.std.specs.List.{flat_map}
use Rattle.srcp_plan_file.specs.Searches.{Walked, arrived, onwards, walked, ways_from}
use Rattle.srcp_plan_file.specs.declared.element.Kind.{Kind}
use Rattle.srcp_plan_file.specs.declared.join.Join.{Join}
use Rattle.srcp_plan_file.proofs.search.add_ways.Goals as goal

goes_on : (joins : List Join) (kinds : List Kind) (to n i : ℕ) (all found more walks later : List Walked) → i < n
    → all ≡ found ++ ways_from joins kinds to (n - i) walks → more ≡ found ++ arrived to walks
    → later ≡ flat_map (onwards joins kinds to) walks → all ≡ more ++ ways_from joins kinds to (n - (i + 1)) later
goes_on joins kinds to n i all found more walks later lt are arrive onward =
    let one : n - i ≡ suc (n - (i + 1)) = omega (arith, lt) in
    are ∙ ap (λ (most : ℕ). found ++ ways_from joins kinds to most walks) one
    ∙ sym (append_assoc found (arrived to walks) (ways_from joins kinds to (n - (i + 1)) (flat_map (onwards joins kinds to) walks)))
    ∙ ap (λ (front : List Walked). front ++ ways_from joins kinds to (n - (i + 1)) (flat_map (onwards joins kinds to) walks)) (sym arrive)
    ∙ ap (λ (left : List Walked). more ++ ways_from joins kinds to (n - (i + 1)) left) (sym onward)

pub loop-passed-preserved : goal.loop-passed-preserved
loop-passed-preserved c =
    let lt : c.loop-passed._passed < length c.args.joins.now = omega arith in
    let arrive : map walked c.add_arrived.new.found.items
    ≡ map walked c.loop-passed.found.items ++ arrived c.args.goal (map walked c.loop-passed.walks.items) =
    rw c.deref.ensures.value at c.in_ok-add_arrived.ensures in
    let onward : map walked c.in_ok-walks-2.walks.items
    ≡ flat_map (onwards c.args.joins.now c.args.kinds.now c.args.goal) (map walked c.loop-passed.walks.items) =
    rw c.deref-in-loop-passed.ensures.value at c.in_ok-walks-2.ensures in
    goes_on c.args.joins.now c.args.kinds.now c.args.goal (length c.args.joins.now) c.loop-passed._passed _
    (map walked c.loop-passed.found.items) (map walked c.add_arrived.new.found.items) (map walked c.loop-passed.walks.items)
    (map walked c.in_ok-walks-2.walks.items) lt c.loop-passed.invariant arrive onward
