-- What holds of all messages and of all commands.
use Rattle.std.specs.Prelude.{◌≡◌, ◌≤◌, List, [], ◌∷◌, ◌++◌, ℕ, length, Option, Some}
use Rattle.srcp_stations.specs.declared.said.Said.{Said}
use Rattle.srcp_stations.specs.declared.tell.Tell.{Tell}
use Rattle.srcp_stations.specs.Limits.{longest_tell, most_in_command, xbus_header}
use Rattle.srcp_stations.specs.Dataset.{Begins, check, xbus}
use Rattle.srcp_stations.specs.Said.{IsSaid, Reads, Says, said_line}
use Rattle.srcp_stations.specs.Tell.{IsTell, tell_line}

-- what was written is what is read, whatever stands before it
abbrev pub MessagesReadAgain : Type 0
MessagesReadAgain = (noise : List ℕ) (said : Said) (result : Option Said) → IsSaid said
    → Reads (noise ++ said_line said) result → result ≡ Some said

-- no bytes say two things
abbrev pub MessagesDiffer : Type 0
MessagesDiffer = (bytes : List ℕ) (a b : Said) → Says bytes a → Says bytes b → a ≡ b

-- no command tells two things
abbrev pub CommandsDiffer : Type 0
CommandsDiffer = (a b : Tell) → IsTell a → IsTell b → tell_line a ≡ tell_line b → a ≡ b

-- no command has more bytes than the longest
abbrev pub CommandsAreShort : Type 0
CommandsAreShort = (tell : Tell) → IsTell tell → length (tell_line tell) ≤ longest_tell

-- a datagram begins with one dataset at most
abbrev pub DatasetsDiffer : Type 0
DatasetsDiffer = (bytes : List ℕ) (header header' : ℕ) (body body' rest rest' : List ℕ) → Begins bytes header body rest
    → Begins bytes header' body' rest' → (header ≡ header') × (body ≡ body') × (rest ≡ rest')

-- the dataset of a command is one, whatever follows
abbrev pub CommandsAreChecked : Type 0
CommandsAreChecked = (body rest : List ℕ) → length body ≤ most_in_command
    → Begins (xbus body ++ rest) xbus_header (body ++ check body ∷ []) rest
