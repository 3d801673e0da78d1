-- A stream of bytes, fed to a reader in pieces.
use Rattle.std.specs.Prelude.{◌≡◌, ℕ, List, [], ◌∷◌, MatchOption}
use Rattle.std.specs.List.{concat, flat_map}
use Rattle.srcp_text.specs.Marks.{Mark, marks}
use Rattle.srcp_text.specs.Reading.{Reading, StandsAt, nothing_read}
use Rattle.srcp_text.specs.Feeding.{feed_of, new_marks, stop_of}
use Rattle.srcp_text.specs.declared.reader.Fed.{Fed}

-- a feed: the answer, and the reading after the feed
pub record Step : Type 0 where
  pub result : Fed
  pub reading : Reading

-- the feeds of a piece from an offset on: each goes on where the feed before stopped, and the last met no LF
abbrev pub FeedsPiece : List ℕ → ℕ → Reading → List Step → Reading → Type 0
FeedsPiece piece start old [] new = ⊥
FeedsPiece piece start old (step ∷ steps) new =
    ((step.result, step.reading) ≡ feed_of old piece start)
    × MatchOption (stop_of step.result) ((steps ≡ []) × (step.reading ≡ new))
    (λ stop. FeedsPiece piece stop step.reading steps new)

-- the feeds of piece after piece
abbrev pub FeedsPieces : List (List ℕ) → Reading → List (List Step) → Reading → Type 0
FeedsPieces [] old [] new = old ≡ new
FeedsPieces [] old (steps ∷ later) new = ⊥
FeedsPieces (piece ∷ pieces) old [] new = ⊥
FeedsPieces (piece ∷ pieces) old (steps ∷ later) new =
    (between : Reading) × FeedsPiece piece 0 old steps between × FeedsPieces pieces between later new

-- the marks found by the feeds
abbrev pub found : List Step → List Mark
found steps = flat_map (λ step. new_marks step.result step.reading.line) steps

-- however a stream is cut into pieces: the pieces can be fed, the feeds find the marks of the stream, and the reader
-- then stands where the rest of the stream says
abbrev pub FindsMarks : Type 0
FindsMarks = (pieces : List (List ℕ)) →
    ((steps : List (List Step)) × (new : Reading) × FeedsPieces pieces nothing_read steps new)
    × ((steps : List (List Step)) (new : Reading) → FeedsPieces pieces nothing_read steps new
    → (flat_map found steps ≡ marks (concat pieces)) × StandsAt (concat pieces) new)
