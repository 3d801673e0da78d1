-- The bytes that the steps carried to and from each socket of a door.
use Rattle.std.specs.Prelude.{ℕ, ◌==◌, List, [], take, flat_map, if◌then◌else◌}
use Rattle.std.specs.Prelude.{Ok}
use Rattle.srcp_door.specs.declared.door.Got.TheVariants as got
use Rattle.srcp_door.specs.Calls.{Call, ReadCall, WriteCall}
use Rattle.srcp_peers.specs.Steps.{Step, Reads, Writes, calls}

-- what a call of the door said it took for a peer
abbrev pub taken_in : ℕ → Call → List ℕ
taken_in peer (WriteCall who bytes (Ok count)) = if who == peer then take count bytes else []
taken_in peer other = []

-- what it handed out of a peer
abbrev pub handed_in : ℕ → Call → List ℕ
handed_in peer (ReadCall who (Ok (got.Bytes count)) buffer) = if who == peer then take count buffer else []
handed_in peer other = []

-- what a socket took in a call of the system
abbrev pub took_in : ℕ → Step → List ℕ
took_in socket (Writes who bytes (Ok count)) = if who == socket then take count bytes else []
took_in socket other = []

-- what it gave
abbrev pub gave_in : ℕ → Step → List ℕ
gave_in socket (Reads who buffer (Ok count)) = if who == socket then take count buffer else []
gave_in socket other = []

-- the same of all calls, joined
abbrev pub taken : ℕ → List Step → List ℕ
taken peer log = flat_map (taken_in peer) (calls log)

abbrev pub handed : ℕ → List Step → List ℕ
handed peer log = flat_map (handed_in peer) (calls log)

abbrev pub took : ℕ → List Step → List ℕ
took socket log = flat_map (took_in socket) log

abbrev pub gave : ℕ → List Step → List ℕ
gave socket log = flat_map (gave_in socket) log
