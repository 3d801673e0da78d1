-- What the power is to be, and what rows, reports, losses, moments and orders make of it.
use Rattle.std.specs.Prelude.{ℕ, Bool, true, false, not, ◌&&◌, ◌||◌, Option, Some, None, if◌then◌else◌, is_none}
use Rattle.std.specs.Prelude.{is_some}
use Rattle.std.specs.Option.{option_map_or}
use Rattle.srcp_driver.specs.Cabs.{confirms, has_passed}
use Rattle.srcp_driver.specs.Drives.{is_same_way}
use Rattle.srcp_driver.specs.declared.power.Power.{Power}

-- before any event
abbrev pub dark : Power
dark = record {
  row = false;
  is_on = false;
  on_at = 0;
  asked = None;
  told = None;
  awaited = None;
  is_late = false;
  told_at = 0;
}

-- there is a value, and it is this one
abbrev pub is_told : Option Bool → Bool → Bool
is_told value on = option_map_or (λ last. is_same_way last on) value false

-- ---- what is to be told, and put

-- the station is to be told that the power is off: it may be told so though it has not confirmed that it is on
abbrev pub is_to_cut : Power → Bool
is_to_cut power = not power.is_on && not (is_told power.told false)
    && option_map_or (λ on. power.is_late || on) power.awaited true

-- the station is to be told that the power is on
abbrev pub is_to_switch_on : Power → Bool
is_to_switch_on power =
    power.is_on && not (is_told power.told true) && option_map_or (λ on. power.is_late) power.awaited true

-- the registry is to be asked to set the row
abbrev pub is_power_to_put : Power → Bool
is_power_to_put power = not (is_same_way power.row power.is_on) && is_none power.asked

-- ---- what changes it

-- its row is this: a row that answers an order of the driver is no command, nor is an old one
abbrev pub power_row : Bool → Bool → ℕ → Power → Power
power_row on old now power = record power {
  row = on;
  is_on = if on && is_told power.asked true then power.is_on else on && not old;
  on_at = if on then now else power.on_at;
  asked = if is_told power.asked on then None else power.asked;
}

-- something was lost: it is off until somebody switches it on, and the station is told so
abbrev pub power_held : Power → Power
power_held power = record power { is_on = false; told = None }

-- the station has begun anew, or is gone
abbrev pub power_forgotten : Power → Power
power_forgotten power = record power { is_on = false; told = None; awaited = None; is_late = false }

-- a hand has switched it off: the station was told last that it is on, whether or not it has confirmed that
abbrev pub is_cut : Bool → Power → Bool
is_cut on power = not on && (is_told power.awaited true || (is_none power.awaited && is_told power.told true))

-- the station reports that it is on, or off, and no hand has switched it off: what it was told, or, if it has confirmed
-- what it was told, a hand's doing
abbrev pub power_heard : Bool → Power → Power
power_heard on power = option_map_or
    (λ told. if is_same_way told on then record power { awaited = None; is_late = false } else power) power.awaited
    (option_map_or (λ told. record power { is_on = if is_same_way told on then power.is_on else on; told = Some on })
    power.told power)

abbrev pub power_reported : Bool → Power → Power
power_reported on power = if is_cut on power
    then record power { is_on = false; told = Some false; awaited = None; is_late = false }
    else power_heard on power

-- a moment comes: what the station was told may be lost
abbrev pub power_aged : ℕ → Power → Power
power_aged now power = if is_some power.awaited && has_passed confirms power.told_at now
    then record power { told = None; is_late = true }
    else power

-- the station is told this
abbrev pub power_told : Bool → ℕ → Power → Power
power_told on now power =
    record power { told = Some on; awaited = Some on; is_late = false; told_at = now }

-- the registry is asked to set the row to this
abbrev pub power_asked : Bool → Power → Power
power_asked on power = record power { asked = Some on }

-- a session with the registry has begun
abbrev pub power_joined : Power → Power
power_joined power = record power { asked = None }
