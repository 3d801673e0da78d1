use Rattle.std.proofs.Common.{◌≡◌, not, length}
use Rattle.std.specs.List.{filter}
use Rattle.srcp_info.specs.Key.{owns}
use Rattle.srcp_info.proofs.mirror.drop_device.Given as goal

abbrev pub invariant-loop : goal.invariant-loop
invariant-loop l =
    filter (λ entry. not (owns l.device entry.0)) l.by_key.entries
    ≡ filter (λ entry. not (owns l.device entry.0)) l.initial.by_key.entries

abbrev pub decreases-loop : goal.decreases-loop
decreases-loop l = length l.by_key.entries
