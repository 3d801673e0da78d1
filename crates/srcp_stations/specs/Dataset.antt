-- The datasets of a datagram of a Z21.
use Rattle.std.specs.Prelude.{◌≡◌, ℕ, ◌+◌, ◌*◌, ◌/◌, ◌%◌, ◌<◌, Bool, true, not, ◌&&◌, ◌||◌, List, [], ◌∷◌, ◌++◌}
use Rattle.std.specs.Prelude.{length, ◌==◌}
use Rattle.std.specs.Int.Bits.{bit_xor}
use Rattle.srcp_text.specs.Words.{is_empty}
use Rattle.srcp_stations.specs.Limits.{byte_values, head_length, xbus_header}

-- the bytes joined by exclusive or, to what was joined before
abbrev pub joined : ℕ → List ℕ → ℕ
joined before [] = before
joined before (b ∷ bytes) = joined (bit_xor before b) bytes

-- the byte that makes a command of the X-BUS whole; 0 if it is
abbrev pub check : List ℕ → ℕ
check bytes = joined 0 bytes

-- a number of two bytes, the low one first
abbrev pub two_bytes : ℕ → List ℕ
two_bytes n = n % byte_values ∷ n / byte_values ∷ []

-- its length, with the length and the header counted; its header; and its body
abbrev pub dataset : ℕ → List ℕ → List ℕ
dataset header body = two_bytes (head_length + length body) ++ two_bytes header ++ body

-- a command of the X-BUS has a check byte behind it
abbrev pub xbus : List ℕ → List ℕ
xbus body = dataset xbus_header (body ++ check body ∷ [])

-- body under the header of the X-BUS has a byte or more, and its check byte is right
abbrev pub is_checked : ℕ → List ℕ → Bool
is_checked header body = not (header == xbus_header) || (not (is_empty body) && (check body == 0))

-- a datagram begins with this dataset, and the rest follows
pub record Begins (bytes : List ℕ) (header : ℕ) (body rest : List ℕ) : Type 0 where
  pub header_fits : header < byte_values * byte_values
  pub data_fits : head_length + length body < byte_values * byte_values
  pub checked : is_checked header body ≡ true
  pub same : bytes ≡ dataset header body ++ rest
