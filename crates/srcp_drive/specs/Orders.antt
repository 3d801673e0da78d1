-- The lines in which orders are written.
use Rattle.std.specs.Prelude.{ℕ, ◌+◌, ◌/◌, ◌%◌, ◌==◌, Bool, List, [], ◌∷◌, ◌++◌, Option, Some, None, codes, decimal}
use Rattle.std.specs.Prelude.{if◌then◌else◌, nat_lt}
use Rattle.std.specs.Option.{option_map_or}
use Rattle.srcp_driver.specs.declared.drive.Drive.{Drive}
use Rattle.srcp_driver.specs.declared.drive.Speed.{Speed}
use Rattle.srcp_driver.specs.declared.drive.Speed.TheVariants as speed
use Rattle.srcp_driver.specs.declared.event.Put.{Put}
use Rattle.srcp_driver.specs.declared.event.Put.TheVariants as put
use Rattle.srcp_driver.specs.declared.event.Tell.{Tell}
use Rattle.srcp_driver.specs.declared.event.Tell.TheVariants as tell
use Rattle.srcp_driver.specs.declared.settings.Setting.{Setting}
use Rattle.srcp_info.specs.Limits.{most_functions}
use Rattle.srcp_stations.specs.Limits.{greatest_step, greatest_turnout}
use Rattle.srcp_stations.specs.Tell.{tell_line}
use Rattle.srcp_stations.specs.declared.drive.Drive.{Drive as StationDrive}
use Rattle.srcp_stations.specs.declared.drive.Speed.{Speed as StationSpeed}
use Rattle.srcp_stations.specs.declared.drive.Speed.TheVariants as station_speed_of
use Rattle.srcp_stations.specs.declared.tell.Tell.{Tell as StationTell}
use Rattle.srcp_stations.specs.declared.tell.Tell.TheVariants as station
use Rattle.srcp_drive.specs.Engines.{cab_at}
use Rattle.srcp_drive.specs.declared.engine.Engine.{Engine}

-- the most bytes of a line that tells the station something, and of the two that tell of a locomotive
abbrev pub longest_told : ℕ
longest_told = 21

abbrev pub longest_tells : ℕ
longest_tells = 42

-- of a line to the registry; of its words up to a number, and with the numbers; of the mode and the speed of a row; and
-- of the words for the power, and for a locomotive that is silent
abbrev pub longest_put : ℕ
longest_put = 50

abbrev pub longest_heads : ℕ
longest_heads = 20

abbrev pub longest_headed : ℕ
longest_headed = 33

abbrev pub longest_drive : ℕ
longest_drive = 6

abbrev pub longest_power_word : ℕ
longest_power_word = 11

abbrev pub longest_name_word : ℕ
longest_name_word = 9

-- ---- to the station

abbrev pub told : StationTell → List ℕ
told tell = codes "tell " ++ tell_line tell

-- a step that a station has not is the nearest one that it has
abbrev pub station_speed : Speed → StationSpeed
station_speed speed.Halt = station_speed_of.Halt
station_speed speed.Stand = station_speed_of.Stand
station_speed (speed.Step step) = station_speed_of.Step
    (if step == 0 then 1 else (if nat_lt greatest_step step then greatest_step else step))

abbrev pub station_drive : Drive → StationDrive
station_drive drive = record { speed = station_speed drive.speed; is_forward = drive.is_forward }

-- an order of the driver: the station is asked of a locomotive too, since it reports changes alone
abbrev pub tell_text : List Engine → Option Tell → List ℕ
tell_text engines (Some tell.StopAll) = told station.StopAll
tell_text engines (Some (tell.Power on)) = told (station.Power on)
tell_text engines (Some (tell.Cab n drive)) = option_map_or
    (λ cab. told (station.Cab cab (station_drive drive)) ++ told (station.Ask cab)) (cab_at engines n) []
tell_text engines None = []

-- a function: those of one locomotive stand behind each other
abbrev pub function_text : List Engine → Option Setting → List ℕ
function_text engines (Some setting) = option_map_or
    (λ cab. told (station.Function cab (setting.place % most_functions) setting.is_on))
    (cab_at engines (setting.place / most_functions)) []
function_text engines None = []

-- a turnout: address 1 is at place 0
abbrev pub turnout_text : Option Setting → List ℕ
turnout_text (Some setting) =
    if nat_lt setting.place greatest_turnout then told (station.Turnout (setting.place + 1) setting.is_on) else []
turnout_text None = []

-- ---- to the registry

abbrev pub power_word : Bool → List ℕ
power_word on = if on then codes " POWER ON\n" else codes " POWER OFF\n"

abbrev pub power_text : ℕ → Bool → List ℕ
power_text bus on = codes "put SET " ++ decimal bus ++ power_word on

abbrev pub way_text : Bool → List ℕ
way_text is_forward = if is_forward then codes " 1" else codes " 0"

-- the mode and the speed of a row
abbrev pub drive_text : Bool → Speed → List ℕ
drive_text is_forward speed.Halt = codes " 2 0"
drive_text is_forward speed.Stand = way_text is_forward ++ codes " 0"
drive_text is_forward (speed.Step step) = way_text is_forward ++ 32 ∷ decimal step

-- a row of 126 steps
abbrev pub set_text : ℕ → ℕ → Drive → List ℕ
set_text bus cab drive = codes "put SET " ++ decimal bus ++ codes " GL " ++ decimal cab
    ++ drive_text drive.is_forward drive.speed ++ codes " 126\n"

-- a locomotive is silent, or confirms again: for who tells people
abbrev pub name_word : Bool → List ℕ
name_word is_silent = if is_silent then codes "silent " else codes "confirms "

abbrev pub name_text : ℕ → Bool → List ℕ
name_text cab is_silent = name_word is_silent ++ decimal cab ++ codes "\n"

abbrev pub put_text : ℕ → List Engine → Option Put → List ℕ
put_text bus engines (Some (put.Power on)) = power_text bus on
put_text bus engines (Some (put.Cab n drive)) = option_map_or (λ cab. set_text bus cab drive) (cab_at engines n) []
put_text bus engines (Some (put.Silent n is_silent)) =
    option_map_or (λ cab. name_text cab is_silent) (cab_at engines n) []
put_text bus engines None = []

-- a sensor is on, or off
abbrev pub sense_text : ℕ → ℕ → Bool → List ℕ
sense_text bus number on = codes "sense SET " ++ decimal bus ++ codes " FB " ++ decimal number
    ++ (if on then codes " 1\n" else codes " 0\n")
