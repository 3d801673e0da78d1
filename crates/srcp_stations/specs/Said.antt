-- The messages in which a DCC-EX says what it says.
use Rattle.std.specs.Prelude.{◌≡◌, ℕ, ◌+◌, ◌-◌, ◌^◌, ◌≤◌, ◌<◌, ⊤, List, [], ◌∷◌, ◌++◌, nat_lt}
use Rattle.std.specs.Prelude.{if◌then◌else◌, Option, Some, None}
use Rattle.std.specs.Prelude.{IfSome, IsTrue, MatchOption}
use Rattle.std.specs.List.{join_with_byte}
use Rattle.std.specs.Fmt.{decimal}
use lib.Chars.{codes}
use Rattle.srcp_stations.specs.Limits.{first_letter, forward_bit, greatest_cab, greatest_count, greatest_cv}
use Rattle.srcp_stations.specs.Limits.{greatest_number, greatest_step, greatest_value, most_tracks}
use Rattle.srcp_stations.specs.Text.{is_banner, is_overload, message_in}
use Rattle.srcp_stations.specs.declared.drive.Drive.{Drive}
use Rattle.srcp_stations.specs.declared.drive.Speed.{Speed}
use Rattle.srcp_stations.specs.declared.drive.Speed.TheVariants.{Halt, Stand, Step}
use Rattle.srcp_stations.specs.declared.said.Report.{Report}
use Rattle.srcp_stations.specs.declared.said.Track.{Track}
use Rattle.srcp_stations.specs.declared.said.Track.TheVariants as track
use Rattle.srcp_stations.specs.declared.said.Said.{Said}
use Rattle.srcp_stations.specs.declared.said.Said.TheVariants.{Banner, Overload, Sensor, Slots, Power, Locomotive}
use Rattle.srcp_stations.specs.declared.said.Said.TheVariants.{Refused, Cv}
use Rattle.srcp_stations.specs.declared.said.CvValue.{CvValue}
use Rattle.srcp_stations.specs.declared.said.CvValue.TheVariants.{Is, Nobody, CannotMeasure, NoTrack}

-- ---- what a station can say

-- a step is one of 126
abbrev pub IsSpeed : Speed → Type 0
IsSpeed Halt = ⊤
IsSpeed Stand = ⊤
IsSpeed (Step step) = (1 ≤ step) × (step ≤ greatest_step)

abbrev pub IsDrive : Drive → Type 0
IsDrive drive = IsSpeed drive.speed

-- the address is one of a locomotive
abbrev pub IsCab : ℕ → Type 0
IsCab cab = (1 ≤ cab) × (cab ≤ greatest_cab)

abbrev pub IsCv : ℕ → Type 0
IsCv cv = (1 ≤ cv) × (cv ≤ greatest_cv)

-- a number of five digits at most, or none
abbrev pub IsSlot : Option ℕ → Type 0
IsSlot slot = IfSome slot (λ number. number ≤ greatest_number)

-- a locomotive as a station tells it, with a bit for each of 32 functions
pub record IsReport (report : Report) : Type 0 where
  pub cab : IsCab report.cab
  pub slot : IsSlot report.slot
  pub drive : IsDrive report.drive
  pub functions : report.functions ≤ 2 ^ 32 - 1

-- the numbers are within their limits
abbrev pub IsSaid : Said → Type 0
IsSaid (Sensor number on) = number ≤ greatest_number
IsSaid (Slots count) = count ≤ greatest_count
IsSaid (Power (track.Letter place) on) = place < most_tracks
IsSaid (Locomotive report) = IsReport report
IsSaid (Cv checked cv (Is value)) = IsCv cv × (value ≤ greatest_value)
IsSaid (Cv checked cv other) = IsCv cv
IsSaid other = ⊤

-- ---- how it says that

-- what stands between `<` and `>`: words with one space between each two
abbrev pub bracketed : List (List ℕ) → List ℕ
bracketed words = 60 ∷ join_with_byte 32 words ++ codes ">"

-- the code of a speed: 0 stands, 1 is an emergency stop, and step 1 has code 2
abbrev pub speed_code : Speed → ℕ
speed_code Stand = 0
speed_code Halt = 1
speed_code (Step step) = step + 1

-- and that of a drive: forward has the highest of eight bits
abbrev pub drive_code : Drive → ℕ
drive_code drive = (if drive.is_forward then forward_bit else 0) + speed_code drive.speed

-- no slot is -1
abbrev pub slot_word : Option ℕ → List ℕ
slot_word None = codes "-1"
slot_word (Some slot) = decimal slot

-- 32 bits as a number with a sign, as stations print them: below 0 if the highest bit is on
abbrev pub bits_word : ℕ → List ℕ
bits_word bits = if nat_lt bits (2 ^ 31) then decimal bits else 45 ∷ decimal (2 ^ 32 - bits)

-- the power of all tracks names none
abbrev pub track_words : Track → List (List ℕ)
track_words track.All = []
track_words track.Main = codes "MAIN" ∷ []
track_words track.Join = codes "JOIN" ∷ []
track_words track.Prog = codes "PROG" ∷ []
track_words (track.Letter place) = ((first_letter + place) ∷ []) ∷ []

-- what is said of a CV has its value, or a number below 0
abbrev pub value_word : CvValue → List ℕ
value_word (Is value) = decimal value
value_word Nobody = codes "-1"
value_word CannotMeasure = codes "-2"
value_word NoTrack = codes "-3"

-- the words of a message
abbrev pub said_words : Said → List (List ℕ)
said_words (Sensor number on) = (if on then codes "Q" else codes "q") ∷ decimal number ∷ []
said_words (Slots count) = codes "#" ∷ decimal count ∷ []
said_words (Power track on) = (if on then codes "p1" else codes "p0") ∷ track_words track
said_words (Locomotive report) =
    codes "l" ∷ decimal report.cab ∷ slot_word report.slot ∷ decimal (drive_code report.drive)
    ∷ bits_word report.functions ∷ []
said_words Refused = codes "X" ∷ []
said_words (Cv checked cv value) = (if checked then codes "v" else codes "r") ∷ decimal cv ∷ value_word value ∷ []
said_words Banner = codes "iDCC" ∷ []
said_words Overload = codes "*FAULT" ∷ []

-- the message; a banner and what is said of an overload have more text
abbrev pub said_line : Said → List ℕ
said_line said = bracketed (said_words said)

-- ---- what it means to read a message

-- any text may stand in a banner, and in what is said of an overload
abbrev pub IsMessage : List ℕ → Said → Type 0
IsMessage message Banner = IsTrue (is_banner message)
IsMessage message Overload = IsTrue (is_overload message)
IsMessage message other = message ≡ said_line other

-- a station can say that, and these bytes say it: before the last `<` stands what a line has damaged
pub record Says (bytes : List ℕ) (said : Said) : Type 0 where
  pub valid : IsSaid said
  pub same : IsMessage (message_in bytes) said

-- what was read is what the bytes say, and if nothing was read the bytes say nothing
abbrev pub Reads : List ℕ → Option Said → Type 0
Reads bytes result = MatchOption result ((said : Said) → Says bytes said → ⊥) (λ said. Says bytes said)
