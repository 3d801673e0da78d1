use Rattle.std.proofs.Common.{◌≡◌, drop}
use Rattle.std.specs.List.{find}
use Rattle.srcp_routes.specs.Conflicts.{has_piece}
use Rattle.srcp_plan_file.proofs.print.shared.first_shared.Given as goal

abbrev pub invariant-loop-piece : goal.invariant-loop-piece
invariant-loop-piece l =
    find (λ n. has_piece l.other n) (drop l.piece-index l.route.pieces.items) ≡ find (λ n. has_piece l.other n) l.route.pieces.items
