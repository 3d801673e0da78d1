-- What the sockets took of what the course sends their peers, and what it is fed of what they gave.
use Rattle.std.specs.Prelude.{◌≡◌, ℕ, ◌<◌, List, [], length, slice_index_or}
use Rattle.std.specs.Io.{StartsWith}
use Rattle.srcp_grammar.specs.declared.layout.Bus.{Bus}
use Rattle.srcp_core.specs.Connection.{Connection, sent}
use Rattle.srcp_core.specs.Course.{course}
use Rattle.srcp_core.specs.Past.{Past, no_past}
use Rattle.srcp_serve.specs.Serving.{events_of, stand_after}
use Rattle.srcp_serve.specs.Slots.{IsOfGiven}
use Rattle.srcp_peers.specs.Streams.{gave, took}
use Rattle.srcp_peers.specs.Steps.{Step, calls}

-- the door's calls are those of the course, by answers of memory that the core counted; the socket of each peer took
-- a prefix of what the course sends it, and the connection of that peer was fed a prefix of what the socket gave
pub record IsFollowed (buses : List Bus) (count opens : ℕ) (log : List Step) (old new : Past) : Type 0 where
  pub given : IsOfGiven buses count opens (calls log) old new
  pub sockets : (k : ℕ) (conn : Connection) (peer : ℕ)
      → k < length (course buses (events_of buses given.calls)).connections
      → StartsWith (sent (slice_index_or (course buses (events_of buses given.calls)).connections k conn))
      (took (slice_index_or (stand_after buses given.calls).connected k peer) log)
  pub fed : (k : ℕ) (conn : Connection) (peer : ℕ)
      → k < length (course buses (events_of buses given.calls)).connections
      → StartsWith (gave (slice_index_or (stand_after buses given.calls).connected k peer) log)
      (slice_index_or (course buses (events_of buses given.calls)).connections k conn).fed

-- so it is for a core to which nothing has happened, and a door whose log was empty
abbrev pub Follows : (count opens : ℕ) (old : Past) (log_old : List Step) (new : Past) (log_new : List Step) → Type 0
Follows count opens old log_old new log_new =
    (buses : List Bus) → old ≡ no_past buses → log_old ≡ [] → IsFollowed buses count opens log_new old new
