-- The locomotives of a bus: which place each has, and how fast it drives by its row.
use Rattle.std.specs.Prelude.{ℕ, ◌+◌, ◌*◌, ◌-◌, ◌/◌, ◌==◌, Bool, true, false, ◌&&◌, List, Option, Some, None}
use Rattle.std.specs.Prelude.{if◌then◌else◌, nat_le, nat_lt, not, slice_get, slice_set}
use Rattle.std.specs.List.{position}
use Rattle.std.specs.Option.{option_and_then, option_map_or, option_or, unwrap_or}
use Rattle.srcp_driver.specs.declared.drive.Drive.{Drive}
use Rattle.srcp_driver.specs.declared.drive.Speed.{Speed}
use Rattle.srcp_driver.specs.declared.drive.Speed.TheVariants as speed
use Rattle.srcp_driver.specs.declared.event.Put.{Put}
use Rattle.srcp_driver.specs.declared.event.Put.TheVariants as put
use Rattle.srcp_info.specs.declared.value.Letter.{Letter}
use Rattle.srcp_info.specs.declared.value.Letter.TheVariants as letter
use Rattle.srcp_stations.specs.Limits.{greatest_cab, greatest_step}
use Rattle.srcp_drive.specs.declared.engine.Engine.{Engine}
use Rattle.srcp_drive.specs.declared.engine.State.{State}

-- the most locomotives
abbrev pub most_cabs : ℕ
most_cabs = 128

-- a place that is free
abbrev pub free : Engine
free = record { address = 0; steps = 0; is_forward = true; halts = None }

-- the address is one of a locomotive
abbrev pub is_cab : ℕ → Bool
is_cab address = nat_le 1 address && nat_le address greatest_cab

-- the address of the locomotive at a place, if there is one
abbrev pub cab_at : List Engine → ℕ → Option ℕ
cab_at engines n = option_and_then
    (λ (engine : Engine). if is_cab engine.address then Some engine.address else None) (slice_get engines n)

-- a place of the table
abbrev pub place_in : ℕ → Option ℕ
place_in n = if nat_lt n most_cabs then Some n else None

-- the place of an address, and that of a locomotive that is made
abbrev pub place_of : List Engine → ℕ → Option ℕ
place_of engines address = option_and_then place_in (position (λ (engine : Engine). engine.address == address) engines)

abbrev pub place_for : List Engine → ℕ → Option ℕ
place_for engines address = option_or (place_of engines address) (place_of engines 0)

-- decoders of DCC are driven, and those whose protocol the server chooses
abbrev pub is_driven : Letter → Bool
is_driven letter.N = true
is_driven letter.P = true
is_driven other = false

-- a locomotive is made: it has a place from then on, unless none is free
abbrev pub made : List Engine → ℕ → Letter → ℕ → List Engine
made engines address letter steps = if is_cab address
    then option_map_or (λ n. slice_set engines n (record {
      address = address;
      steps = if is_driven letter then steps else 0;
      is_forward = true;
      halts = None;
    })) (place_for engines address) engines
    else engines

abbrev pub is_halt : Speed → Bool
is_halt speed.Halt = true
is_halt other = false

-- its row has it do this
abbrev pub kept : List Engine → ℕ → Drive → List Engine
kept engines n drive = option_map_or
    (λ (engine : Engine). slice_set engines n (record engine {
      is_forward = drive.is_forward;
      halts = if is_halt drive.speed then None else engine.halts;
    })) (slice_get engines n) engines

-- the registry is asked to have it make an emergency stop: the row of such a stop does not say the direction
abbrev pub halted : List Engine → ℕ → Bool → List Engine
halted engines n forward = option_map_or
    (λ (engine : Engine). slice_set engines n (record engine { halts = Some forward })) (slice_get engines n) engines

abbrev pub turned : List Engine → Option Put → List Engine
turned engines (Some (put.Cab n drive)) = if is_halt drive.speed then halted engines n drive.is_forward else engines
turned engines other = engines

-- the greatest speed of a row: that of the row, or else the steps of the decoder
abbrev pub top_of : Engine → ℕ → ℕ
top_of engine vmax = if not (vmax == 0) then vmax else (if not (engine.steps == 0) then engine.steps else 1)

-- the step of a speed, rounded up
abbrev pub step_of : ℕ → ℕ → ℕ
step_of v top = (v * greatest_step + (top - 1)) / top

abbrev pub scaled : Engine → ℕ → ℕ → ℕ
scaled engine v vmax =
    if nat_lt (step_of v (top_of engine vmax)) greatest_step then step_of v (top_of engine vmax) else greatest_step

-- the mode of an emergency stop, and that of a drive forward
abbrev pub stop_mode : ℕ
stop_mode = 2

abbrev pub forward_mode : ℕ
forward_mode = 1

-- how fast a row has it drive
abbrev pub speed_of : Engine → ℕ → ℕ → ℕ → Speed
speed_of engine mode v vmax =
    if mode == stop_mode then speed.Halt else (if v == 0 then speed.Stand else speed.Step (scaled engine v vmax))

-- what a row has it do: an emergency stop is in the direction asked for, or else keeps its own
abbrev pub drive_of : Engine → State → Drive
drive_of engine state = record {
  speed = speed_of engine state.mode state.v state.vmax;
  is_forward = if state.mode == stop_mode then unwrap_or engine.halts engine.is_forward else state.mode == forward_mode;
}

-- .. of the locomotive at a place, if that is driven
abbrev pub drive_at : List Engine → ℕ → State → Option Drive
drive_at engines n state = option_and_then
    (λ (engine : Engine). if engine.steps == 0 then None else Some (drive_of engine state)) (slice_get engines n)
