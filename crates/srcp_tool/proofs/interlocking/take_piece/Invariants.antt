use Rattle.std.proofs.Common.{◌-◌, ◌≤◌, length, take}
use Rattle.srcp_tool.specs.Moving.{TakesAll}
use Rattle.srcp_tool.proofs.interlocking.take_piece.Given as goal

abbrev pub invariant-loop-stop : goal.invariant-loop-stop
invariant-loop-stop g l = record {
  within : l.start ≤ length l.piece;
  taken :
      TakesAll l.fn.lines l.fn.signal_box (take l.start l.piece) l.lines l.signal_box (g.W.Write.contents l.fn.writer)
      (g.W.Write.contents l.writer);
}

abbrev pub decreases-loop-stop : goal.decreases-loop-stop
decreases-loop-stop g l = length l.piece - l.start
