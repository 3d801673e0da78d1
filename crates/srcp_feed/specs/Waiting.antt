-- The model of the code: what a change that waits is held as.
use Rattle.std.specs.Prelude.{◌≡◌, ◌≤◌, ◌-◌, ℕ, List, take, length}
use Rattle.srcp_text.specs.Words.{words_of}
use Rattle.srcp_info.specs.Line.{line}
use Rattle.srcp_info.specs.WellFormed.{IsWellFormed}
use Rattle.srcp_info.specs.declared.change.Change.{Change}
use Rattle.srcp_info.specs.declared.write.TheConstants.{LINE_CAPACITY}
use Rattle.srcp_info.proofs.ReadLaws.{change_from}
use Rattle.srcp_feed.specs.declared.change_line.Held.{Held}
use Rattle.srcp_feed.specs.declared.change_line.Held.TheVariants as held

-- the change that a line tells without its LF
abbrev pub told_by : List ℕ → Change
told_by text = change_from (words_of (take (length text - 1) text))

-- the change of the line, or the one that is kept
abbrev pub change_of : Held → Change
change_of (held.Line len bytes) = told_by (take len bytes)
change_of (held.Change change) = change

-- a line is that of its change, which is well-formed
abbrev pub IsLine : Held → Type 0
IsLine (held.Line len bytes) =
    (take len bytes ≡ line (told_by (take len bytes))) × IsWellFormed (told_by (take len bytes)) × (len ≤ LINE_CAPACITY)
IsLine (held.Change change) = Unit {0}
