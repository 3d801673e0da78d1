-- The text of a message that has no words of its own.
use Rattle.std.specs.Prelude.{ℕ, Bool, false, ◌&&◌, ◌||◌, List, [], ◌∷◌, ◌==◌, if◌then◌else◌, nat_eq}
use Rattle.std.specs.List.{ends_with, list_any, starts_with}
use lib.Chars.{codes}

-- `<` opens a message
abbrev pub is_open : ℕ → Bool
is_open byte = byte == 60

-- what stands from the last `<` on, and all if there is none
abbrev pub message_in : List ℕ → List ℕ
message_in [] = []
message_in (b ∷ bytes) = if list_any is_open bytes then message_in bytes else b ∷ bytes

-- a word stands somewhere in a text
abbrev pub has_word : List ℕ → List ℕ → Bool
has_word word [] = false
has_word word (b ∷ bytes) = starts_with nat_eq (b ∷ bytes) word || has_word word bytes

-- the text begins and ends so
abbrev pub is_framed : List ℕ → List ℕ → List ℕ → Bool
is_framed first last text = starts_with nat_eq text first && ends_with nat_eq text last

-- a banner names the kind of the station
abbrev pub is_banner : List ℕ → Bool
is_banner message = is_framed (codes "<iDCC") (codes ">") message

-- what is said of an overload has one of three words
abbrev pub is_overload : List ℕ → Bool
is_overload message =
    is_framed (codes "<*") (codes ">") message
    && (has_word (codes "OVERLOAD") message || has_word (codes "FAULT") message || has_word (codes "ALERT") message)
