-- The limits of lines, each a number here and a name elsewhere.
use Rattle.std.specs.Prelude.{ℕ}

-- the most bytes of a line to be read, the CR counted
abbrev pub longest_read : ℕ
longest_read = 1000

-- the most bytes of a written line
abbrev pub longest_written : ℕ
longest_written = 256
