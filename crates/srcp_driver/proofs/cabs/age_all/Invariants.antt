-- As far as the loop has come, each locomotive has changed.
use Rattle.std.proofs.Common.{◌≡◌, ◌++◌, take, drop}
use Rattle.std.specs.Prelude.{map}
use Rattle.srcp_driver.specs.Cabs.{aged}
use Rattle.srcp_driver.proofs.cabs.age_all.Given as goal

abbrev pub invariant-loop-cab : goal.invariant-loop-cab
invariant-loop-cab l = l.cabs ≡ map (aged l.now) (take l.cab-index l.initial.cabs) ++ drop l.cab-index l.initial.cabs
