use Rattle.std.proofs.Common.{◌≤◌, ℕ, List, length}
use Rattle.std.specs.Io.KnownBytes.{Consumes}
use Rattle.srcp_text.specs.Reading.{nothing_read}
use Rattle.srcp_interlock.specs.Boxes.{box_of}
use Rattle.srcp_tool.specs.Moving.{TakesAll}
use Rattle.srcp_tool.proofs.interlocking.interlock.Given as goal

abbrev pub invariant-loop : goal.invariant-loop
invariant-loop g l =
    (taken : List ℕ)
    × Consumes (g.R.Read.remaining l.fn.reader) (g.R.Read.remaining l.reader) taken
    × (l.counter ≤ length taken)
    × TakesAll nothing_read (box_of l.fn.own l.fn.routes.items) taken l.lines l.signal_box (g.W.Write.contents l.fn.writer)
    (g.W.Write.contents l.writer)
