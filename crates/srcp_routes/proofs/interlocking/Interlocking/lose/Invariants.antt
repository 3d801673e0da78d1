-- The stages so far are written, and all else is as it was.
use Rattle.std.proofs.Common.{◌≡◌, ◌++◌, take, drop}
use Rattle.std.specs.Prelude.{map}
use Rattle.srcp_routes.specs.Stages.{lost_stage}
use Rattle.srcp_routes.proofs.interlocking.Interlocking.lose.Given as goal

abbrev pub invariant-loop-n : goal.invariant-loop-n
invariant-loop-n l =
    (l.self-inside.stages.items
    ≡ map lost_stage (take l.n l.self-inside.routes.items) ++ drop l.n l.initial.self-inside.stages.items)
    × (l.self-inside.routes ≡ l.initial.self-inside.routes)
    × (l.self-inside.wanted ≡ l.initial.self-inside.wanted)
    × (l.self-inside.again ≡ l.initial.self-inside.again)
    × (l.self-inside.trains ≡ l.initial.self-inside.trains)
    × (l.self-inside.delays ≡ l.initial.self-inside.delays)
    × (l.self-inside.sensors ≡ l.initial.self-inside.sensors)
    × (l.self-inside.waiting ≡ l.initial.self-inside.waiting)
