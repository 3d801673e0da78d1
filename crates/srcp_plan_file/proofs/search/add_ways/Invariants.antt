-- The ways that were found so far, and those that are found by the joins that are left, are all.
use Rattle.std.proofs.Common.{◌≡◌, ◌++◌, ◌-◌, length, map}
use Rattle.srcp_plan_file.specs.Searches.{walked, ways_from, ways_over}
use Rattle.srcp_plan_file.proofs.search.add_ways.Given as goal

abbrev pub invariant-loop-passed : goal.invariant-loop-passed
invariant-loop-passed l =
    map walked l.fn.found.items ++ ways_over l.joins l.kinds l.begin l.goal
    ≡ map walked l.found.items
    ++ ways_from l.joins l.kinds l.goal (length l.joins - l._passed) (map walked l.walks.items)
