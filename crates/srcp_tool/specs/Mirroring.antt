-- How far the lines of a stream were applied.
use Rattle.std.specs.Prelude.{◌≡◌, ℕ, ◌<◌, List, length, Option, Some, None}
use Rattle.std.specs.Bool.{MatchBool}
use Rattle.srcp_info.specs.Limits.{longest_line}
use Rattle.srcp_info.specs.Client.{client, HoldsLines}
use Rattle.srcp_info.specs.declared.change.Change.{Change}
use Rattle.srcp_tool.specs.Output.{RefusesLine}
use Rattle.srcp_tool.specs.declared.stream.begun.BegunLine.{BegunLine}
use Rattle.srcp_tool.specs.declared.stream.lines.MirroredLines.{MirroredLines}

-- the line that has begun is this text, or it is known that the text is longer than any line of a change
abbrev pub IsBegun : BegunLine → (text : List ℕ) → Type 0
IsBegun begun text = MatchBool begun.too_long (longest_line < length text) (begun.bytes.items ≡ text)

-- the whole lines of the input were applied, and the rest has begun
pub record HasTaken (taken : MirroredLines) (input : List ℕ) : Type 0 where
  pub changes : List Change
  pub text : List ℕ
  pub holds : HoldsLines input changes text
  pub rows : taken.mirror ≡ client changes
  pub count : taken.count ≡ length changes
  pub begun : IsBegun taken.begun text

-- if no line was refused the whole lines were applied; else this is the first that no change has
abbrev pub IsAt : MirroredLines → Option ℕ → (input : List ℕ) → Type 0
IsAt lines None input = HasTaken lines input
IsAt lines (Some n) input = RefusesLine input n
