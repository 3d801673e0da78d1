-- What is read so far, and what follows, is the drawing.
use Rattle.std.proofs.Common.{◌≡◌, ◌+◌, ◌≤◌, ◌++◌, drop}
use Rattle.srcp_plan_file.specs.Drawing.{drawing, drawn}
use Rattle.srcp_plan_file.proofs.drawing.draw.Given as goal

abbrev pub invariant-loop-at : goal.invariant-loop-at
invariant-loop-at l = record {
  read : l.pieces.items ++ drawn l.pen l.at (drop l.at l.text) ≡ drawing l.text;
  row : l.pen.row ≤ l.at + 1;
  column : l.pen.column ≤ l.at + 1;
}
