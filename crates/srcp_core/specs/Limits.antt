-- To be believed: the limit of a core, a number here and a name elsewhere.
use Rattle.std.specs.Prelude.{ℕ}

-- the most connections that are open at once
abbrev pub most_connections : ℕ
most_connections = 64
