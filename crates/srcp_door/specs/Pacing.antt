-- How much lines weigh, and what is let through.
use Rattle.std.specs.Prelude.{◌≡◌, ◌≢◌, ℕ, ◌+◌, ◌-◌, ◌<◌, ◌≤◌, ◌==◌, Bool, ◌&&◌, ◌||◌, cond}
use Rattle.std.specs.Prelude.{true, nat_le, nat_lt, Option, List, [], ◌∷◌, ◌++◌, length, take, fold, count_by}
use Rattle.std.specs.Option.{unwrap_or}
use Rattle.srcp_info.specs.Limits.{most_waiting}
use Rattle.srcp_grammar.specs.Weight.{most_changes, weight}
use Rattle.srcp_door.specs.Limits.{reserve}
use Rattle.srcp_door.specs.declared.pacing.LineBoundary.{LineBoundary}
use Rattle.srcp_door.specs.declared.pacing.LineBoundary.TheVariants.{At, Inside}
use Rattle.srcp_door.specs.declared.pacing.Pace.{Pace}
use Rattle.srcp_door.specs.declared.pacing.Pace.TheVariants.{Paced, OneLine}
use Rattle.srcp_door.specs.declared.pacing.Share.{Share}

-- how many lines end in bytes
abbrev pub lines : List ℕ → ℕ
lines bytes = count_by (λ byte. byte == 10) bytes

-- ---- the weight of lines

-- the changes that a line brings at most: what its bytes say, or the most if it began in an earlier piece, whose
-- bytes are gone
abbrev pub line_weight : LineBoundary → (text : List ℕ) → ℕ
line_weight At text = weight text
line_weight Inside text = most_changes

-- what is seen of bytes: those of the line that has not ended, whether it began in an earlier piece, and how much the
-- lines weigh that ended
pub record Seen : Type 0 where
  pub line : LineBoundary
  pub text : List ℕ
  pub weight : ℕ

-- the same after one more byte
abbrev pub seen_after : Seen → ℕ → Seen
seen_after seen byte = cond (byte == 10)
    (record { line = At; text = []; weight = seen.weight + line_weight seen.line seen.text })
    (record { line = seen.line; text = seen.text ++ byte ∷ []; weight = seen.weight })

-- what is seen of bytes that follow a line
abbrev pub seen_of : LineBoundary → List ℕ → Seen
seen_of line bytes = fold seen_after (record { line = line; text = []; weight = 0 }) bytes

-- how much the lines weigh that end in bytes that follow a line
abbrev pub weight_of : LineBoundary → List ℕ → ℕ
weight_of line bytes = (seen_of line bytes).weight

-- the line after its bytes so far
abbrev pub with_text : LineBoundary → (text : List ℕ) → LineBoundary
with_text line [] = line
with_text line (byte ∷ text) = Inside

-- the line after bytes that follow it
abbrev pub line_after : LineBoundary → List ℕ → LineBoundary
line_after line bytes = let seen = seen_of line bytes in with_text seen.line seen.text

-- ---- what is let through

-- the prefix of a piece that may go if its lines may weigh so much: all of a piece in which no line ends, and else
-- whole lines, as many as weigh no more
pub record IsLongest (line : LineBoundary) (most : ℕ) (piece : List ℕ) (count : ℕ) : Type 0 where
  pub within : count ≤ length piece
  pub few : weight_of line (take count piece) ≤ most
  pub longest : (n : ℕ) → n ≤ length piece → lines (take count piece) < lines (take n piece)
      → most < weight_of line (take n piece)
  pub whole : lines piece ≢ 0 → (seen_of line (take count piece)).text ≡ []
  pub begun : lines piece ≡ 0 → count ≡ length piece

-- how much the first line of a piece weighs that weighs something: that is the weight of a prefix of which all shorter
-- prefixes with fewer lines weigh nothing; 0 if no line weighs something
pub record IsFirstWeight (line : LineBoundary) (piece : List ℕ) (first : ℕ) : Type 0 where
  pub count : ℕ
  pub within : count ≤ length piece
  pub is : weight_of line (take count piece) ≡ first
  pub before : (k : ℕ) → k ≤ length piece → lines (take k piece) < lines (take count piece)
      → weight_of line (take k piece) ≡ 0
  pub none : first ≡ 0 → weight_of line piece ≡ 0

-- the prefix of a piece that may go of a peer whose share is the first `rest` bytes of it, if lines may weigh so much:
-- of its share the longest that weighs no more, and lines behind that weigh nothing
pub record IsShare (line : LineBoundary) (most rest : ℕ) (piece : List ℕ) (count : ℕ) : Type 0 where
  pub own : ℕ
  pub is_own : IsLongest line most (take rest piece) own
  pub longest : IsLongest line (weight_of line (take own (take rest piece))) piece count

-- the same, if one line that weighs something may go
pub record IsOneLine (line : LineBoundary) (rest : ℕ) (piece : List ℕ) (count : ℕ) : Type 0 where
  pub first : ℕ
  pub is_first : IsFirstWeight line (take rest piece) first
  pub share : IsShare line first rest piece count

-- how much may be let through in a turn: what the slack of the panels leaves beside the reserve for moments and ends of
-- sessions; the slack is as many as may wait for a panel if none is there, since one may begin; if that leaves less
-- than any line can weigh, one line at each tick of the clock
abbrev pub pace_of : (slack : Option ℕ) (tick : Bool) → Pace
pace_of slack tick =
    let left = unwrap_or slack most_waiting - reserve in cond (tick && nat_lt left most_changes) OneLine (Paced left)

-- not every line may go
abbrev pub is_short_pace : Pace → Bool
is_short_pace (Paced left) = nat_lt left most_changes
is_short_pace OneLine = true

-- how many bytes of a peer's piece may go, if their lines weigh something: what is left of its share, or the whole
-- piece while not every line may go
abbrev pub rest_at : Pace → Share → (piece : List ℕ) → ℕ
rest_at pace share piece = cond (is_short_pace pace) (length piece) share.rest

-- the prefix of a peer's piece that may go in a turn; while every line may go, a peer that had its share gets no line
-- that weighs something
abbrev pub Allows : Pace → Share → (piece : List ℕ) (count : ℕ) → Type 0
Allows (Paced left) share piece count = IsShare share.line left (rest_at (Paced left) share piece) piece count
Allows OneLine share piece count = IsOneLine share.line (rest_at OneLine share piece) piece count

-- lines that weigh so much may be let through
abbrev pub fits : Pace → (weight : ℕ) → Bool
fits (Paced left) weight = nat_le weight left
fits OneLine weight = nat_le weight most_changes

-- how much may be let through after lines that weigh so much
abbrev pub spent : Pace → (weight : ℕ) → Pace
spent (Paced left) weight = Paced (left - weight)
spent OneLine weight = cond (weight == 0) OneLine (Paced 0)

-- a peer's share after bytes of it were handed out at a pace: they are taken from it if every line might go, and a line
-- that weighs something ended in them
abbrev pub share_after : Pace → Share → (handed : List ℕ) → Share
share_after pace share handed = record {
  line = line_after share.line handed;
  rest = cond (is_short_pace pace || weight_of share.line handed == 0) share.rest (share.rest - length handed);
}
