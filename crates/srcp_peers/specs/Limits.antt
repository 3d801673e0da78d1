-- The limits of a door's peers, each a number here and a name elsewhere.
use Rattle.std.specs.Prelude.{ℕ}

-- the milliseconds by which the monotonic clock goes on at least
abbrev pub tick : ℕ
tick = 1

-- the milliseconds after which a call of the system is made again, at most
abbrev pub retry_delay : ℕ
retry_delay = 8

-- the milliseconds for which a peer lingers, at most
abbrev pub linger : ℕ
linger = 10000

-- the bytes that are queued for a peer, at most
abbrev pub most_outgoing : ℕ
most_outgoing = 40960

-- the bytes that are read ahead of a peer, at most
abbrev pub most_incoming : ℕ
most_incoming = 4096

-- the bytes queued beyond which a peer is written to at once, so that the lines of a visit fit behind them
abbrev pub flush_threshold : ℕ
flush_threshold = 3160

-- the milliseconds of the clock that a turn behind a late one counts twice, at most
abbrev pub most_twice : ℕ
most_twice = 500

-- the part by which a wait for what falls due ends early: a 128th
abbrev pub early_part : ℕ
early_part = 128

-- the milliseconds of a wait for what falls due, at most
abbrev pub longest_sleep : ℕ
longest_sleep = 3600000

-- the reads of all sockets that linger in a turn, at most, if they are no more
abbrev pub most_drained : ℕ
most_drained = 64
