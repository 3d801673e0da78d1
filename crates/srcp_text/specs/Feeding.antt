-- The marks that a feed of a piece finds, from an offset on.
use Rattle.std.specs.Prelude.{ℕ, Bool, true, false, ◌+◌, List, [], ◌∷◌, take, drop, position, slice_range, Option, Some}
use Rattle.std.specs.Prelude.{None}
use Rattle.srcp_text.specs.Marks.{Mark, Line, TooLong, is_lf}
use Rattle.srcp_text.specs.Reading.{Reading, extended, after_lf}
use Rattle.srcp_text.specs.declared.reader.Fed.{Fed}
use Rattle.srcp_text.specs.declared.reader.Fed.TheVariants.{Line as FoundLine, TooLong as FoundTooLong, More}

-- the offset after the LF at which the feed stopped, if there was an LF
abbrev pub stop_of : Fed → Option ℕ
stop_of (FoundLine stop) = Some stop
stop_of (FoundTooLong stop) = Some stop
stop_of More = None

-- the feed found a line
abbrev pub is_line : Fed → Bool
is_line (FoundLine stop) = true
is_line (FoundTooLong stop) = false
is_line More = false

-- the offset after the LF at this distance behind `start`
abbrev pub place_after : ℕ → Option ℕ → Option ℕ
place_after start None = None
place_after start (Some len) = Some (start + len + 1)

-- the offset after the first LF from `start` on
abbrev pub next_stop : List ℕ → ℕ → Option ℕ
next_stop piece start = place_after start (position is_lf (drop start piece))

-- the bytes of the piece taken by the feed
abbrev pub consumed : List ℕ → ℕ → Fed → List ℕ
consumed piece start (FoundLine stop) = slice_range piece start stop
consumed piece start (FoundTooLong stop) = slice_range piece start stop
consumed piece start More = drop start piece

-- the marks found by the feed; `line` is the line lent by the reader then
abbrev pub new_marks : Fed → List ℕ → List Mark
new_marks (FoundLine stop) line = Line line ∷ []
new_marks (FoundTooLong stop) line = TooLong ∷ []
new_marks More line = []

-- the answer of a feed at the end of a line, by the line's known bytes
abbrev pub fed_at : Option (List ℕ) → ℕ → Fed
fed_at None stop = FoundTooLong stop
fed_at (Some bytes) stop = FoundLine stop

-- the answer of a feed, and the reading after the feed, by the distance of the first LF, if any
abbrev pub feed_at : Option (List ℕ) → ℕ → List ℕ → Option ℕ → Fed × Reading
feed_at begun start left None = (More, record { begun = extended begun left; line = [] })
feed_at begun start left (Some len) =
    (fed_at (extended begun (take len left)) (start + len + 1), after_lf (extended begun (take len left)))

-- the answer of a feed, and the reading after the feed, by the reading before
abbrev pub feed_of : Reading → List ℕ → ℕ → Fed × Reading
feed_of reading piece start = feed_at reading.begun start (drop start piece) (position is_lf (drop start piece))
