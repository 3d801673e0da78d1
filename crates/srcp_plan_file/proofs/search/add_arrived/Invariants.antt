use Rattle.std.proofs.Common.{◌≡◌, ◌++◌, drop, map}
use Rattle.srcp_plan_file.specs.Searches.{arrived, walked}
use Rattle.srcp_plan_file.proofs.search.add_arrived.Given as goal

abbrev pub invariant-loop-walk : goal.invariant-loop-walk
invariant-loop-walk l =
    map walked l.fn.found.items ++ arrived l.goal (map walked l.walks)
    ≡ map walked l.found.items ++ arrived l.goal (map walked (drop l.walk-index l.walks))
