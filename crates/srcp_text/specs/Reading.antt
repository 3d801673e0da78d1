-- The knowledge of a reader of lines about the bytes fed so far.
use Rattle.std.specs.Prelude.{◌≡◌, ℕ, List, [], ◌++◌, length, nat_lt, if◌then◌else◌, Option, Some, None}
use Rattle.srcp_text.specs.Limits.{longest_read}
use Rattle.srcp_text.specs.Marks.{rest, without_cr}

-- the begun line, none once the line is too long, and the line found last
pub record Reading : Type 0 where
  pub begun : Option (List ℕ)
  pub line : List ℕ

-- the known bytes of a begun line, none if the bytes are more than a line may have
abbrev pub known : List ℕ → Option (List ℕ)
known bytes = if nat_lt longest_read (length bytes) then None else Some bytes

-- the known bytes of a begun line, with more bytes
abbrev pub extended : Option (List ℕ) → List ℕ → Option (List ℕ)
extended None more = None
extended (Some bytes) more = known (bytes ++ more)

-- no line has begun, and none was found
abbrev pub nothing_read : Reading
nothing_read = record { begun = Some []; line = [] }

-- the reading once the begun line has ended
abbrev pub after_lf : Option (List ℕ) → Reading
after_lf None = nothing_read
after_lf (Some bytes) = record { begun = Some []; line = without_cr bytes }

-- the begun line is the rest of the bytes, or none if the rest is longer than a line may be
abbrev pub StandsAt : List ℕ → Reading → Type 0
StandsAt bytes reading = reading.begun ≡ known (rest bytes)
