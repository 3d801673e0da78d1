-- Laws of all lines, and of all rows of a client.
use Rattle.std.specs.Prelude.{◌≡◌, ℕ, ◌≤◌, false, List, [], ◌∷◌, ◌++◌, length, Option, Some}
use Rattle.std.specs.List.{list_any}
use lib.Chars.{codes}
use Rattle.srcp_text.specs.Marks.{is_lf}
use Rattle.srcp_info.specs.declared.change.Change.{Change}
use Rattle.srcp_info.specs.declared.change.Reply.{Reply}
use Rattle.srcp_info.specs.Limits.{longest_line}
use Rattle.srcp_info.specs.Line.{line, reply_line}
use Rattle.srcp_info.specs.WellFormed.{IsWellFormed, IsWellFormedReply, IsMoment}
use Rattle.srcp_info.specs.Client.{IsRisingBy, changed, client, HoldsLines}
use Rattle.srcp_info.specs.Read.{Reads}

-- no more bytes than a line may have, of which the last is LF and no other
pub record IsLine (bytes : List ℕ) : Type 0 where
  pub text : List ℕ
  pub ends : bytes ≡ text ++ codes "\n"
  pub no_more : list_any is_lf text ≡ false
  pub short : length bytes ≤ longest_line

-- each change has a line
abbrev pub ChangesHaveLines : Type 0
ChangesHaveLines = (change : Change) → IsWellFormed change → IsLine (line change)

-- and each reply
abbrev pub RepliesHaveLines : Type 0
RepliesHaveLines =
    (moment : ℕ) (reply : Reply) → IsMoment moment → IsWellFormedReply reply → IsLine (reply_line moment reply)

-- no two changes share a line
abbrev pub LinesDiffer : Type 0
LinesDiffer = (c d : Change) → IsWellFormed c → IsWellFormed d → line c ≡ line d → c ≡ d

-- a line is read as the change that was written
abbrev pub LinesReadAgain : Type 0
LinesReadAgain = (change : Change) (text : List ℕ) (result : Option Change) → IsWellFormed change
    → line change ≡ text ++ codes "\n" → Reads text result → result ≡ Some change

-- bytes are the lines of at most one list of changes
abbrev pub BytesHoldOnce : Type 0
BytesHoldOnce = (bytes : List ℕ) (xs ys : List Change) (begun rest : List ℕ) → HoldsLines bytes xs begun
    → HoldsLines bytes ys rest → (xs ≡ ys) × (begun ≡ rest)

-- a client's rows go by rising key
abbrev pub ClientRises : Type 0
ClientRises = (changes : List Change) → IsRisingBy (λ row. row.key) (client changes)

-- and each further change changes the client's rows
abbrev pub ClientFollows : Type 0
ClientFollows =
    (changes : List Change) (change : Change) → client (changes ++ change ∷ []) ≡ changed change (client changes)
