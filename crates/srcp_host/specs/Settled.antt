-- To be believed: what a settled panel holds of what its socket took.
use Rattle.std.specs.Prelude.{◌≡◌, ℕ, true, false, List, slice_get, Some}
use Rattle.srcp_info.specs.WellFormed.{IsMoment}
use Rattle.srcp_grammar.specs.Layout.{IsLayout}
use Rattle.srcp_grammar.specs.declared.layout.Bus.{Bus}
use Rattle.srcp_core.specs.Connection.{Connection, sent}
use Rattle.srcp_core.specs.Course.{World, course, rows}
use Rattle.srcp_core.specs.Laws.{HoldsRegistry, settled_in}
use Rattle.srcp_core.specs.Past.{Past, course_of}
use Rattle.srcp_serve.specs.Serving.{events_of, stand_after}
use Rattle.srcp_peers.specs.Accounts.{account, is_owed}
use Rattle.srcp_peers.specs.Steps.{Step}
use Rattle.srcp_peers.specs.Streams.{took}
use Rattle.srcp_host.specs.Follows.{IsFollowed}

-- the bytes are all that the connection was sent; a client that applies the lines in them holds exactly the registry,
-- which is that of the core
pub record HoldTheRegistry (buses : List Bus) (w : World) (core : Past) (conn : Connection)
    (bytes : List ℕ) : Type 0 where
  pub all : bytes ≡ sent conn
  pub client : HoldsRegistry buses w conn
  pub registry : rows buses w ≡ rows core.buses (course_of core)

-- a core was served, and its moment has 64 bits: so it is with the bytes that a socket took, if the information session
-- of its connection is settled and the socket took all that was taken for its peer
abbrev pub SettledPanelsHold : Type 0
SettledPanelsHold = (buses : List Bus) (count opens : ℕ) (log : List Step) (old core : Past) → IsLayout buses
    → IsMoment (course_of core).moment → (served : IsFollowed buses count opens log old core)
    → let w = course buses (events_of buses served.given.calls) in
    (k : ℕ) (conn : Connection) (socket : ℕ) → slice_get w.connections k ≡ Some conn
    → slice_get (stand_after buses served.given.calls).connected k ≡ Some socket → settled_in buses w conn ≡ true
    → is_owed (account socket log).sent ≡ false → HoldTheRegistry buses w core conn (took socket log)
