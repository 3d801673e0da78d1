-- How a message is read: its first word says of what it speaks.
use Rattle.std.specs.Prelude.{ℕ, Bool, List, [], ◌∷◌, ◌==◌, if◌then◌else◌}
use Rattle.std.specs.Fmt.{decimal}
use lib.Chars.{codes}
use Rattle.srcp_stations.specs.declared.said.Said.{Said}
use Rattle.srcp_stations.specs.declared.said.Said.TheVariants as said
use Rattle.srcp_stations.specs.declared.read.Head.{Head}
use Rattle.srcp_stations.specs.declared.read.Head.TheVariants.{Sensor, Slots, Power, Locomotive, Refused, Cv, Other}
use Rattle.srcp_stations.specs.Said.{bits_word, drive_code, slot_word, track_words, value_word}

-- a space parts words
abbrev pub is_space : ℕ → Bool
is_space byte = byte == 32

-- the first word of a message
abbrev pub head_word : Head → List ℕ
head_word (Sensor on) = if on then codes "Q" else codes "q"
head_word Slots = codes "#"
head_word (Power on) = if on then codes "p1" else codes "p0"
head_word Locomotive = codes "l"
head_word Refused = codes "X"
head_word (Cv checked) = if checked then codes "v" else codes "r"
head_word Other = []

-- what the first word tells of what is said
abbrev pub head_of : Said → Head
head_of (said.Sensor number on) = Sensor on
head_of (said.Slots count) = Slots
head_of (said.Power track on) = Power on
head_of (said.Locomotive report) = Locomotive
head_of said.Refused = Refused
head_of (said.Cv checked cv value) = Cv checked
head_of other = Other

-- the words behind it
abbrev pub more_words : Said → List (List ℕ)
more_words (said.Sensor number on) = decimal number ∷ []
more_words (said.Slots count) = decimal count ∷ []
more_words (said.Power track on) = track_words track
more_words (said.Locomotive report) =
    decimal report.cab ∷ slot_word report.slot ∷ decimal (drive_code report.drive) ∷ bits_word report.functions ∷ []
more_words (said.Cv checked cv value) = decimal cv ∷ value_word value ∷ []
more_words other = []
