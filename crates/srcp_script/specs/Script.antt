-- What a script says: from its bytes to its events, or to the first fault.
use Rattle.std.specs.Prelude.{ℕ, ◌+◌, ◌*◌, Bool, not, ◌&&◌, ◌||◌, ◌==◌, nat_lt, if◌then◌else◌, List, [], ◌∷◌, ◌++◌}
use Rattle.std.specs.Prelude.{filter, slice_index, Option, Some, None, option_map, option_and_then, Result, Ok, Err}
use Rattle.std.specs.Prelude.{codes}
use Rattle.std.specs.Char.{is_digit, digit_value}
use Rattle.std.specs.List.{enumerate_from, slice_split, join_with_byte}
use Rattle.std.specs.Str.{bytes_eq}
use Rattle.srcp_info.specs.Limits.{greatest_u64}
use Rattle.srcp_text.specs.Marks.{is_lf}
use Rattle.srcp_text.specs.Words.{is_empty, number_of}
use Rattle.srcp_core.specs.declared.event.Event.{Event}
use Rattle.srcp_core.specs.declared.event.Event.TheVariants.{Open, Bytes, Room, At, Shut}
use Rattle.srcp_script.specs.declared.script.Cause.{Cause}
use Rattle.srcp_script.specs.declared.script.Cause.TheVariants.{Word, Number, Escape}
use Rattle.srcp_script.specs.declared.script.ScriptFault.{ScriptFault}

infixl 10 ◌>>=◌
-- what comes after an answer, if it is no error
abbrev pub ◌>>=◌ : {A B E : Type 0} → Result A E → (A → Result B E) → Result B E
(Ok x) >>= f = f x
(Err e) >>= f = Err e

-- ---- texts

-- two hexadecimal digits write a byte
abbrev pub hex_byte : List ℕ → Option (List ℕ)
hex_byte [] = None
hex_byte (high ∷ []) = None
hex_byte (high ∷ low ∷ plain) =
    if is_digit high 16 && is_digit low 16 then Some ((digit_value high * 16 + digit_value low) ∷ plain) else None

-- what a backslash and this byte write, and then what follows them
abbrev pub escape : ℕ → List ℕ → Option (List ℕ)
escape byte plain =
    if byte == 110 then Some (10 ∷ plain)  -- n
    else (if byte == 114 then Some (13 ∷ plain)  -- r
    else (if byte == 116 then Some (9 ∷ plain)  -- t
    else (if byte == 120 then hex_byte plain  -- x
    else None)))

-- the byte before what is read
abbrev pub after : ℕ → Option (List ℕ) → Option (List ℕ)
after byte more = option_map (λ bytes. byte ∷ bytes) more

-- both texts, if both can be read
abbrev pub joined : Option (List ℕ) → Option (List ℕ) → Option (List ℕ)
joined first second = option_and_then (λ front. option_map (λ back. front ++ back) second) first

-- the parts of a text that each follow a backslash; after an empty part a second backslash stood
abbrev pub escapes : List (List ℕ) → Option (List ℕ)
escapes [] = Some []
escapes ([] ∷ []) = None
escapes ([] ∷ plain ∷ parts) = joined (Some (92 ∷ plain)) (escapes parts)
escapes ((byte ∷ plain) ∷ parts) = joined (escape byte plain) (escapes parts)

-- the part before the first backslash, and then the others
abbrev pub plain_and : List (List ℕ) → Option (List ℕ)
plain_and [] = Some []
plain_and (plain ∷ parts) = joined (Some plain) (escapes parts)

-- the bytes that a text writes, if each backslash is followed rightly
abbrev pub unescaped : List ℕ → Option (List ℕ)
unescaped text = plain_and (slice_split (λ byte. byte == 92) text)

-- ---- lines

-- what can be read, or the cause why it can not
abbrev pub or_fault : {A : Type 0} → Cause → Option A → Result A Cause
or_fault cause None = Err cause
or_fault cause (Some a) = Ok a

-- the greatest number of 32 bits
abbrev pub greatest_u32 : ℕ
greatest_u32 = 4294967295

-- a number within its limits
abbrev pub number_from : (least most : ℕ) → List ℕ → Result ℕ Cause
number_from least most part =
    or_fault Number (number_of most part) >>= (λ n. if nat_lt n least then Err Number else Ok n)

-- the number of a connection, counted from 1
abbrev pub connection : List ℕ → Result ℕ Cause
connection part = number_from 1 greatest_u32 part

-- a number of bytes
abbrev pub size : List ℕ → Result ℕ Cause
size part = number_from 0 greatest_u32 part

-- a moment in milliseconds
abbrev pub moment : List ℕ → Result ℕ Cause
moment part = number_from 0 greatest_u64 part

-- the parts of what follows such a byte, if there is one
abbrev pub parts_behind : (byte : ℕ) → Option (List ℕ) → List (List ℕ)
parts_behind byte None = []
parts_behind byte (Some text) = slice_split (λ b. b == byte) text

-- nothing follows `open`
abbrev pub open_line : List (List ℕ) → Result Event Cause
open_line [] = Ok Open
open_line parts = Err Number

-- a connection and a text follow `bytes`: the text is all behind the space after the number, its spaces too
abbrev pub bytes_line : List (List ℕ) → Result Event Cause
bytes_line (conn ∷ part ∷ parts) = do
  n ← connection conn
  piece ← or_fault Escape (unescaped (join_with_byte 32 (part ∷ parts)))
  Ok (Bytes n piece)
bytes_line parts = Err Number

-- a connection and a number of bytes follow `room`
abbrev pub room_line : List (List ℕ) → Result Event Cause
room_line (conn ∷ bytes ∷ []) = do
  n ← connection conn
  count ← size bytes
  Ok (Room n count)
room_line parts = Err Number

-- a moment follows `at`
abbrev pub at_line : List (List ℕ) → Result Event Cause
at_line (at ∷ []) = do
  m ← moment at
  Ok (At m)
at_line parts = Err Number

-- a connection follows `shut`
abbrev pub shut_line : List (List ℕ) → Result Event Cause
shut_line (conn ∷ []) = do
  n ← connection conn
  Ok (Shut n)
shut_line parts = Err Number

-- the first part says which event it is
abbrev pub parts_line : List (List ℕ) → Result Event Cause
parts_line [] = Err Word
parts_line (word ∷ parts) =
    if bytes_eq word (codes "open") then open_line parts
    else (if bytes_eq word (codes "bytes") then bytes_line parts
    else (if bytes_eq word (codes "room") then room_line parts
    else (if bytes_eq word (codes "at") then at_line parts
    else (if bytes_eq word (codes "shut") then shut_line parts
    else Err Word))))

-- the event of a line, whose parts are separated by one space each
abbrev pub event_of : List ℕ → Result Event Cause
event_of line = parts_line (slice_split (λ byte. byte == 32) line)

-- ---- scripts

-- an empty line, or one that begins with #
abbrev pub is_skipped : List ℕ → Bool
is_skipped line = is_empty line || (slice_index line 0 == 35)

-- the lines that count, with their numbers from 1
abbrev pub lines : List ℕ → List (ℕ × List ℕ)
lines bytes = filter (λ line. not (is_skipped line.1)) (enumerate_from 1 (slice_split is_lf bytes))

-- a cause is told with its line
abbrev pub at_fault : {A : Type 0} → (line : ℕ) → Result A Cause → Result A ScriptFault
at_fault line (Ok a) = Ok a
at_fault line (Err cause) = Err (record { line = line; cause = cause })

-- the events of these lines
abbrev pub events_in : List (ℕ × List ℕ) → Result (List Event) ScriptFault
events_in [] = Ok []
events_in (line ∷ lines) = do
  event ← at_fault line.0 (event_of line.1)
  events ← events_in lines
  Ok (event ∷ events)

-- what the bytes of a script say
abbrev pub script : List ℕ → Result (List Event) ScriptFault
script bytes = events_in (lines bytes)
