-- The limits of a configuration, each a number here and a name elsewhere.
use Rattle.std.specs.Prelude.{ℕ}

-- the greatest port to listen on
abbrev pub greatest_port : ℕ
greatest_port = 65535

-- the port to listen on if a configuration names none
abbrev pub default_port : ℕ
default_port = 4303
