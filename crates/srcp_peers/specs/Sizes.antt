-- How many bytes a call of the system moves.
use Rattle.std.specs.Prelude.{⊤, ◌≤◌, List, length}
use Rattle.std.specs.List.{AllByRecursion, AllByRecursion-prop}
use Rattle.std.proofs.Props.{props}
use Rattle.srcp_peers.specs.Limits.{most_incoming, most_outgoing}
use Rattle.srcp_peers.specs.Steps.{Step, Accepts, Answers, Clocks, Closes, Reads, Shuts, Waits, Writes}

-- a read has space for no more than is read ahead of a peer, and a write offers no more than is queued for one
abbrev pub IsSmall : Step → Type 0
IsSmall (Reads who buffer answer) = length buffer ≤ most_incoming
IsSmall (Writes who bytes answer) = length bytes ≤ most_outgoing
IsSmall other = ⊤

-- each call is so small
abbrev pub AreSmall : List Step → Type 0
AreSmall log = AllByRecursion IsSmall log

IsSmall-prop : (step : Step) → IsProp (IsSmall step)
IsSmall-prop (Accepts number answer) = hlevel props
IsSmall-prop (Reads who buffer answer) = hlevel props
IsSmall-prop (Writes who bytes answer) = hlevel props
IsSmall-prop (Waits most count ready) = hlevel props
IsSmall-prop (Shuts who) = hlevel props
IsSmall-prop (Closes who) = hlevel props
IsSmall-prop (Clocks answer) = hlevel props
IsSmall-prop (Answers call) = hlevel props

pub AreSmall-prop : (log : List Step) → IsProp (AreSmall log)
AreSmall-prop log = AllByRecursion-prop IsSmall IsSmall-prop log
