-- The limits of a door over sockets, each a number here and a name elsewhere.
use Rattle.std.specs.Prelude.{ℕ}

-- the most peers at once: 64 are connected, a 65th is turned away, and 64 linger
abbrev pub most_peers : ℕ
most_peers = 129

-- the most of them that linger, and the most sockets that are closed in a turn
abbrev pub most_lingering : ℕ
most_lingering = 64

-- the most sockets that a wait finds ready
abbrev pub most_ready : ℕ
most_ready = 128

-- the most waits in which a door delivers at its end
abbrev pub most_last_waits : ℕ
most_last_waits = 1000000

-- so many milliseconds the system rests after a wait that failed or ended early
abbrev pub failed_wait : ℕ
failed_wait = 8
