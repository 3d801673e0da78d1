use Rattle.srcp_core.proofs.Names.{◌-◌, length}
use Rattle.srcp_core.proofs.Agreement.PastIsLived.{IsReadTo}
use Rattle.srcp_core.specs.Lived.{HasLived}
use Rattle.srcp_core.proofs.logged.LoggedCore.receive.Given as goal

abbrev pub invariant-loop-stop : goal.invariant-loop-stop
invariant-loop-stop g l =
    (lived : HasLived l.initial.self-inside.core.buses l.initial.self-inside.core l.initial.self-inside.log)
    → IsReadTo l.initial.self-inside.core.buses l.initial.self-inside.core l.initial.self-inside.log lived l.conn l.piece l.start
    l.self-inside.core l.self-inside.log

abbrev pub decreases-loop-stop : goal.decreases-loop-stop
decreases-loop-stop g l = length l.piece - l.start
