-- The limits of a door, each a number here and a name elsewhere.
use Rattle.std.specs.Prelude.{ℕ}

-- the most writes to a peer in a visit
abbrev pub most_writes : ℕ
most_writes = 300

-- the changes of a turn that are reserved for moments and the ends of sessions
abbrev pub reserve : ℕ
reserve = 160

-- the locks with which a session may end, so that no panel loses a line for it
abbrev pub most_locks : ℕ
most_locks = 150
