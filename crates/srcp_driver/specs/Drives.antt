-- How a locomotive drives, and which of two drives is more urgent.
use Rattle.std.specs.Prelude.{ℕ, ◌==◌, Bool, true, false, not, ◌&&◌, ◌||◌, Option, if◌then◌else◌}
use Rattle.std.specs.Option.{option_map_or}
use Rattle.srcp_driver.specs.declared.drive.Drive.{Drive}
use Rattle.srcp_driver.specs.declared.drive.Speed.{Speed}
use Rattle.srcp_driver.specs.declared.drive.Speed.TheVariants as speed

abbrev pub is_step : Speed → Bool
is_step (speed.Step n) = true
is_step other = false

-- a locomotive moves then
abbrev pub drives : Drive → Bool
drives drive = is_step drive.speed

-- the same, but at rest: what drives stands, and an emergency stop stays
abbrev pub rest : Drive → Drive
rest drive = if drives drive then record drive { speed = speed.Stand } else drive

abbrev pub is_same_speed : Speed → Speed → Bool
is_same_speed speed.Halt speed.Halt = true
is_same_speed speed.Stand speed.Stand = true
is_same_speed (speed.Step x) (speed.Step y) = x == y
is_same_speed a b = false

abbrev pub is_same_way : Bool → Bool → Bool
is_same_way true b = b
is_same_way false b = not b

abbrev pub is_same : Drive → Drive → Bool
is_same a b = is_same_speed a.speed b.speed && is_same_way a.is_forward b.is_forward

-- two locomotives do the same, or both rest: what stands and makes an emergency stop still stands
abbrev pub is_alike : Drive → Drive → Bool
is_alike a b = is_same a b || (not (drives a) && not (drives b) && is_same_way a.is_forward b.is_forward)

-- there is a value, and it is this one
abbrev pub is_value : Option Drive → Drive → Bool
is_value value drive = option_map_or (λ other. is_same other drive) value false

-- how urgent a speed is
abbrev pub rank : Speed → ℕ
rank (speed.Step n) = 0
rank speed.Stand = 1
rank speed.Halt = 2
