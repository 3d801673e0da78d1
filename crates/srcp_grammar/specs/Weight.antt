-- How many changes a line of a command session can bring at most, by the line's words alone.
use Rattle.std.specs.Prelude.{ℕ, Bool, false, codes, ◌&&◌, if◌then◌else◌, List, [], ◌∷◌}
use Rattle.std.specs.Option.{unwrap_or}
use Rattle.std.specs.Str.{bytes_eq}
use Rattle.srcp_text.specs.Words.{words_of, is_keyword}
use Rattle.srcp_grammar.specs.Grammar.{named_in}

-- the most changes of a command: a lock and a device go, and an accessory gets a row, and a row for each port
abbrev pub most_changes : ℕ
most_changes = 11

-- by the first word: GET and CHECK change no row, SET changes a row, and GO adds the row of a session
abbrev pub weights : List (List ℕ × ℕ)
weights = (codes "SET", 1) ∷ (codes "GET", 0) ∷ (codes "CHECK", 0) ∷ (codes "GO", 1) ∷ []

-- the words begin with 0 SESSION
abbrev pub names_session : List (List ℕ) → Bool
names_session (bus ∷ group ∷ words) = bytes_eq bus (codes "0") && is_keyword (codes "SESSION") group
names_session words = false

-- a line without words weighs 0, and so does TERM 0 SESSION: the changes of a session's end are not the line's;
-- any other first word may bring the most changes
abbrev pub weight_of : List (List ℕ) → ℕ
weight_of [] = 0
weight_of (word ∷ words) =
    if is_keyword (codes "TERM") word && names_session words then 0 else unwrap_or (named_in weights word) most_changes

-- the weight of a line
abbrev pub weight : List ℕ → ℕ
weight line = weight_of (words_of line)
