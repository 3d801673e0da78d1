use Rattle.std.proofs.Common.{◌≡◌, ℕ, ◌≤◌, List, length}
use Rattle.std.specs.Io.KnownBytes.{Consumes}
use Rattle.srcp_tool.specs.Mirroring.{IsAt}
use Rattle.srcp_tool.proofs.stream.read_lines.Given as goal

abbrev pub invariant-loop : goal.invariant-loop
invariant-loop g l =
    (taken : List ℕ)
    × Consumes (g.R.Read.remaining l.fn.reader) (g.R.Read.remaining l.reader) taken
    × (l.total ≡ length taken)
    × (l.total ≤ 16777216)
    × (l.counter ≤ l.total)
    × (l.lines.count ≤ l.total)
    × IsAt l.lines l.refused taken
