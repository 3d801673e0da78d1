-- As far as the loop has come, a second of each delay is counted.
use Rattle.std.proofs.Common.{◌≡◌, ◌++◌, take, drop}
use Rattle.std.specs.Prelude.{map}
use Rattle.srcp_routes.specs.Steps.{less}
use Rattle.srcp_routes.proofs.delay.count_second.Given as goal

abbrev pub invariant-loop-delay : goal.invariant-loop-delay
invariant-loop-delay l =
    l.delays ≡ map less (take l.delay-index l.initial.delays) ++ drop l.delay-index l.initial.delays
