-- The commands in which a DCC-EX is told what it is told.
use Rattle.std.specs.Prelude.{ℕ, ◌≤◌, ⊤, Bool, List, [], ◌∷◌, ◌++◌, if◌then◌else◌}
use Rattle.std.specs.Fmt.{decimal}
use lib.Chars.{codes}
use Rattle.srcp_stations.specs.Limits.{greatest_cv, greatest_function, greatest_turnout, greatest_value}
use Rattle.srcp_stations.specs.declared.drive.Speed.{Speed}
use Rattle.srcp_stations.specs.declared.drive.Speed.TheVariants.{Halt, Stand, Step}
use Rattle.srcp_stations.specs.declared.tell.Tell.{Tell}
use Rattle.srcp_stations.specs.declared.tell.Tell.TheVariants.{StopAll, Power, Cab, Function, Turnout, Forget, Ask}
use Rattle.srcp_stations.specs.declared.tell.Tell.TheVariants.{Hello, Alive, Sensors, ReadCv, WriteCv}
use Rattle.srcp_stations.specs.Said.{IsCab, IsDrive, bracketed}

-- the numbers are within their limits
abbrev pub IsTell : Tell → Type 0
IsTell (Cab cab drive) = IsCab cab × IsDrive drive
IsTell (Function cab number on) = IsCab cab × (number ≤ greatest_function)
IsTell (Turnout address thrown) = (1 ≤ address) × (address ≤ greatest_turnout)
IsTell (Forget cab) = IsCab cab
IsTell (Ask cab) = IsCab cab
IsTell (ReadCv cv) = (1 ≤ cv) × (cv ≤ greatest_cv)
IsTell (WriteCv cv value) = (1 ≤ cv) × (cv ≤ greatest_cv) × (value ≤ greatest_value)
IsTell other = ⊤

-- on is 1, and off is 0
abbrev pub bit_word : Bool → List ℕ
bit_word on = if on then codes "1" else codes "0"

-- an emergency stop is -1, and 0 stands
abbrev pub speed_word : Speed → List ℕ
speed_word Halt = codes "-1"
speed_word Stand = codes "0"
speed_word (Step step) = decimal step

-- the words of a command
abbrev pub tell_words : Tell → List (List ℕ)
tell_words StopAll = codes "!" ∷ []
tell_words (Power on) = bit_word on ∷ []
tell_words (Cab cab drive) = codes "t" ∷ decimal cab ∷ speed_word drive.speed ∷ bit_word drive.is_forward ∷ []
tell_words (Function cab number on) = codes "F" ∷ decimal cab ∷ decimal number ∷ bit_word on ∷ []
tell_words (Turnout address thrown) = codes "a" ∷ decimal address ∷ bit_word thrown ∷ []
tell_words (Forget cab) = codes "-" ∷ decimal cab ∷ []
tell_words (Ask cab) = codes "t" ∷ decimal cab ∷ []
tell_words Hello = codes "s" ∷ []
tell_words Alive = codes "#" ∷ []
tell_words Sensors = codes "Q" ∷ []
tell_words (ReadCv cv) = codes "R" ∷ decimal cv ∷ []
tell_words (WriteCv cv value) = codes "W" ∷ decimal cv ∷ decimal value ∷ []

-- the command, with LF behind it
abbrev pub tell_line : Tell → List ℕ
tell_line tell = bracketed (tell_words tell) ++ codes "\n"
