-- As far as the loop has come, each has changed.
use Rattle.std.proofs.Common.{◌≡◌, ◌++◌, take, drop}
use Rattle.std.specs.Prelude.{map}
use Rattle.srcp_driver.specs.Switches.{switch_kept}
use Rattle.srcp_driver.proofs.switches.keep_all.Given as goal

abbrev pub invariant-loop-switch : goal.invariant-loop-switch
invariant-loop-switch l =
    l.switches ≡ map switch_kept (take l.switch-index l.initial.switches) ++ drop l.switch-index l.initial.switches
