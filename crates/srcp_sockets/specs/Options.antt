-- The values of the sockets' options.
use Rattle.std.specs.Prelude.{ℕ, List, ◌++◌, replicate}
use Rattle.std.specs.Int.{to_le_bytes, w32}

-- a number as the system reads it: four bytes, the lowest first, before twelve that are 0
abbrev pub option_value : ℕ → List ℕ
option_value number = to_le_bytes w32 number ++ replicate 12 0
