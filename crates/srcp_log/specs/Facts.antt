-- What a door is has one proof at most.
use Rattle.std.specs.Prelude.{ℕ, Bool, List}
use Rattle.std.proofs.Props.{props}
use Rattle.srcp_peers.specs.declared.peer.Peer.{Peer}
use Rattle.srcp_peers.specs.declared.readiness.Input.{Input}
use Rattle.srcp_peers.specs.declared.readiness.Input.TheVariants as input
use Rattle.srcp_peers.specs.declared.readiness.Output.{Output}
use Rattle.srcp_peers.specs.declared.readiness.Output.TheVariants as output
use Rattle.srcp_peers.specs.declared.stay.Stay.{Stay}
use Rattle.srcp_peers.specs.declared.stay.Stay.TheVariants as stay
use Rattle.srcp_peers.specs.declared.turn.Listening.{Listening}
use Rattle.srcp_peers.specs.Steps.{Step}
use Rattle.srcp_peers.specs.Accounts.{Lingering, Received, Sent}
use Rattle.srcp_peers.specs.Peers.{ComesAs, FindsAs, StaysAs, WritesAs}
use Rattle.srcp_log.specs.Doors.{Stands}

FindsAs-prop : (received : Received) (state : Input) → IsProp (FindsAs received state)
FindsAs-prop received input.Ready = hlevel props
FindsAs-prop received input.Emptying = hlevel props
FindsAs-prop received input.Quiet = hlevel props
FindsAs-prop received input.Ended = hlevel props
FindsAs-prop received input.Failed = hlevel props

WritesAs-prop : (sent : Sent) (outgoing : List ℕ) (state : Output) → IsProp (WritesAs sent outgoing state)
WritesAs-prop sent outgoing output.Open = hlevel props
WritesAs-prop sent outgoing output.Full = hlevel props
WritesAs-prop sent outgoing output.Lost = hlevel props

ComesAs-prop : (received : Received) (incoming : List ℕ) (state : Input) (here : Stay) → IsProp
    (ComesAs received incoming state here)
ComesAs-prop received incoming state stay.Here = hlevel (props, FindsAs-prop)
ComesAs-prop received incoming state (stay.Draining since) = hlevel (props, FindsAs-prop)
ComesAs-prop received incoming state (stay.Shut since) = hlevel (props, FindsAs-prop)

StaysAs-prop : (watched : Bool) (lingering : Lingering) (outgoing : List ℕ) (here : Stay) → IsProp
    (StaysAs watched lingering outgoing here)
StaysAs-prop watched lingering outgoing stay.Here = hlevel props
StaysAs-prop watched lingering outgoing (stay.Draining since) = hlevel props
StaysAs-prop watched lingering outgoing (stay.Shut since) = hlevel props

pub Stands-prop : (log : List Step) (peers : List Peer) (l : Listening) (last : ℕ) → IsProp (Stands log peers l last)
Stands-prop log peers l last = hlevel (props, ComesAs-prop, StaysAs-prop, WritesAs-prop)
