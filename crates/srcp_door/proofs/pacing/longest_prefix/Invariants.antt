use Rattle.std.proofs.Common.{◌≡◌, ◌≤◌, ◌-◌, [], length, take}
use Rattle.srcp_door.specs.Pacing.{lines, seen_of}
use Rattle.srcp_door.proofs.pacing.longest_prefix.Given as goal

abbrev pub invariant-lines : goal.invariant-lines
invariant-lines l = record {
  within : l.prefix.count ≤ length l.piece;
  seen : record { line = l.line; text = []; weight = l.weight } ≡ seen_of l.fn.line (take l.prefix.count l.piece);
  few : l.weight ≤ l.most;
  lines : l.prefix.lines ≡ lines (take l.prefix.count l.piece);
  most : l.prefix.lines ≤ l.prefix.count;
}

abbrev pub decreases-lines : goal.decreases-lines
decreases-lines l = length l.piece - l.prefix.count
