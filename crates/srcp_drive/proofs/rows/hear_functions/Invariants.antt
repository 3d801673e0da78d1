-- what is left is taken in behind what was taken in so far
use Rattle.std.proofs.Common.{◌≡◌, ◌+◌, drop}
use Rattle.srcp_drive.specs.Desks.{functions_heard}
use Rattle.srcp_drive.proofs.rows.hear_functions.Given as goal

abbrev pub invariant-loop-on : goal.invariant-loop-on
invariant-loop-on l = (l.place ≡ l.first + l.on-index)
    × (functions_heard l.board l.place (drop l.on-index l.bits) ≡ functions_heard l.initial.board l.first l.bits)
