-- When the end of a peer may be reported.
use Rattle.std.specs.Prelude.{◌+◌, ◌&&◌, nat_lt, Bool, cond}
use Rattle.srcp_door.specs.Limits.{most_writes}
use Rattle.srcp_peers.specs.declared.ending.Ending.{Ending}
use Rattle.srcp_peers.specs.declared.ending.Ending.TheVariants.{Open, Settling, Settled}

-- the state after a visit's begin, if `ended` says whether the peer's input is over and none of it held: a visit in
-- which fewer writes than the most were made, and none was cut, had no more for the peer
abbrev pub begun : Ending → (ended : Bool) → Ending
begun Open ended = cond ended (Settling 0) Open
begun (Settling writes) ended = cond (nat_lt writes most_writes) Settled (Settling 0)
begun Settled ended = Settled

-- the state after a write, of which all was taken or not
abbrev pub written : Ending → (all : Bool) → Ending
written Open all = Open
written (Settling writes) all = Settling (cond (all && nat_lt writes most_writes) (writes + 1) most_writes)
written Settled all = Settled
