-- What one function or turnout is to be, and what rows, reports, moments and orders make of it.
use Rattle.std.specs.Prelude.{ℕ, Bool, true, false, not, ◌&&◌, ◌||◌, Some, None, if◌then◌else◌, is_none}
use Rattle.std.specs.Prelude.{is_some}
use Rattle.std.specs.Option.{option_map_or}
use Rattle.srcp_driver.specs.Cabs.{confirms, has_passed}
use Rattle.srcp_driver.specs.Drives.{is_same_way}
use Rattle.srcp_driver.specs.Powers.{is_told}
use Rattle.srcp_driver.specs.declared.switch.Switch.{Switch}

-- before any event
abbrev pub unknown : Switch
unknown = record {
  row = false;
  command = None;
  asked = None;
  told = None;
  awaited = None;
  is_late = false;
  told_at = 0;
}

-- the station is to be told what is commanded: it was told something else, and has confirmed that, or not in time
abbrev pub is_to_tell : Switch → Bool
is_to_tell s = option_map_or (λ on. not (is_told s.told on) && (is_none s.awaited || s.is_late)) s.command false

-- the registry is to be asked to set its row
abbrev pub is_switch_to_put : Switch → Bool
is_switch_to_put s = option_map_or (λ on. not (is_same_way s.row on) && is_none s.asked) s.command false

-- its row is this: a row that answers an order of the driver is no command
abbrev pub switch_row : Bool → Switch → Switch
switch_row on s = if is_told s.asked on
    then record s { row = on; asked = None }
    else record s { row = on; command = Some on }

-- the station has begun anew and knows of nothing
abbrev pub switch_forgotten : Switch → Switch
switch_forgotten s = record s { told = None; awaited = None; is_late = false }

-- the station has begun anew and kept what it has confirmed
abbrev pub switch_kept : Switch → Switch
switch_kept s = if is_some s.awaited then switch_forgotten s else s

-- the station reports that it is on, or off: what it was told, or, if it has confirmed what it was told, a hand's doing
abbrev pub switch_reported : Bool → Switch → Switch
switch_reported on s =
    if is_some s.awaited
    then (if is_told s.awaited on then record s { awaited = None; is_late = false } else s)
    else if is_told s.told on || (is_none s.told && is_some s.command)
    then s
    else record s { command = Some on; told = Some on }

-- the station had time to confirm what it was told, and has not
abbrev pub is_due : ℕ → Switch → Bool
is_due now s = is_some s.awaited && has_passed confirms s.told_at now

-- a moment comes: what the station was told may be lost
abbrev pub switch_aged : ℕ → Switch → Switch
switch_aged now s = if is_due now s then record s { told = None; is_late = true } else s

-- the station is told this, which it confirms, or does not
abbrev pub switch_told : Bool → Bool → ℕ → Switch → Switch
switch_told on confirms now s =
    record s { told = Some on; awaited = if confirms then Some on else None; is_late = false; told_at = now }

-- the registry is asked to set the row to this
abbrev pub switch_asked : Bool → Switch → Switch
switch_asked on s = record s { asked = Some on }

-- the registry has refused to set the row: it is put back
abbrev pub switch_refused : Switch → Switch
switch_refused s = record s { command = Some s.row; asked = None }

-- a session with the registry has begun
abbrev pub switch_joined : Switch → Switch
switch_joined s = record s { asked = None }
