use Rattle.std.proofs.Common.{◌≡◌, ◌++◌, drop, map}
use Rattle.std.specs.List.{flat_map}
use Rattle.srcp_plan_file.specs.Searches.{onwards, walked}
use Rattle.srcp_plan_file.proofs.search.go_on.Given as goal

abbrev pub invariant-loop-walk : goal.invariant-loop-walk
invariant-loop-walk l =
    flat_map (onwards l.joins l.kinds l.goal) (map walked l.walks)
    ≡ map walked l.ways.items ++ flat_map (onwards l.joins l.kinds l.goal) (map walked (drop l.walk-index l.walks))
