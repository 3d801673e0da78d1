use Rattle.std.proofs.Common.{◌≡◌, ℕ, ◌+◌, ◌≤◌, List, ◌++◌, length}
use Rattle.srcp_tool.specs.Mirroring.{HasTaken}
use Rattle.srcp_tool.proofs.stream.lines.MirroredLines.take.Given as goal

abbrev pub invariant-loop-behind : goal.invariant-loop-behind
invariant-loop-behind l =
    (done : List ℕ)
    × (l.piece ≡ done ++ l.rest)
    × ((input : List ℕ) → HasTaken l.fn.self input → HasTaken l.self (input ++ done))
    × (l.self.count + length l.rest ≤ l.fn.self.count + length l.piece)

abbrev pub decreases-loop-behind : goal.decreases-loop-behind
decreases-loop-behind l = length l.rest
