-- Which waits of the machine end early.
use Rattle.std.specs.Prelude.{ℕ, ◌-◌, nat_lt, Bool, true, false, Option, Some, None}

-- one that found no socket ready, if the clock showed `shown` before it and then that, or could not be read: one with
-- no limit, and one of more milliseconds than passed
abbrev pub is_early : (shown : ℕ) (now most : Option ℕ) → Bool
is_early shown now None = true
is_early shown None (Some most) = false
is_early shown (Some now) (Some most) = nat_lt (now - shown) most
