-- Which event a note names.
use Rattle.std.specs.Prelude.{◌∷◌, [], ◌++◌, true, Some}
use Rattle.srcp_core.specs.Past.{number_in}
use Rattle.srcp_core.specs.Recording.{without_key}
use Rattle.srcp_core.specs.Under.{Open, Bytes, Room, At, Shut}
use Rattle.srcp_core.specs.declared.log.Log.{Log}
use Rattle.srcp_core.specs.declared.log.Note.{Note}
use Rattle.srcp_core.specs.declared.log.Note.TheVariants as note

-- a log without an event
abbrev pub no_log : Log
no_log = record { events = []; keys = []; grants = [] }

-- the log with the event that the note names
abbrev pub noted : Note → Log → Log
noted (note.At moment) log = record log { events = log.events ++ At moment ∷ [] }
noted (note.Opened key) log =
    record log { events = log.events ++ Open true ∷ []; keys = log.keys ++ Some key ∷ [] }
noted (note.NotOpened granted) log = record log { events = log.events ++ Open granted ∷ [] }
noted (note.Granted granted) log = record log { grants = log.grants ++ granted ∷ [] }
noted (note.Bytes key piece) log = record log {
  events = log.events ++ Bytes (number_in key log.keys) (record { bytes = piece.now; grants = log.grants }) ∷ [];
  grants = [];
}
noted (note.Room key count) log = record log { events = log.events ++ Room (number_in key log.keys) count ∷ [] }
noted (note.Shut key) log = record log {
  events = log.events ++ Shut (number_in key log.keys) ∷ [];
  keys = without_key (number_in key log.keys) log.keys;
}
