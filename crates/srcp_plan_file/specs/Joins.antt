-- The joins of a drawing: which piece of track is joined to which, and on which side.
use Rattle.std.specs.Prelude.{ℕ, ◌+◌, ◌-◌, ◌==◌, Bool, true, false, ◌&&◌, ◌||◌, List, [], ◌∷◌, ◌++◌, Option, None}
use Rattle.std.specs.Prelude.{if◌then◌else◌, nat_le, nat_lt, option_map, option_to_list}
use Rattle.std.specs.List.{list_any, position}
use Rattle.std.specs.Option.{option_or}
use Rattle.srcp_plan_file.specs.Drawing.{is_flat}
use Rattle.srcp_plan_file.specs.declared.drawing.Piece.{Piece}
use Rattle.srcp_plan_file.specs.declared.drawing.Shape.{Shape}
use Rattle.srcp_plan_file.specs.declared.drawing.Shape.TheVariants as shape
use Rattle.srcp_plan_file.specs.declared.join.Join.{Join}
use Rattle.srcp_plan_file.specs.declared.join.Slope.{Slope}
use Rattle.srcp_plan_file.specs.declared.join.Slope.TheVariants as slope

-- ---- slopes

-- straight track that enters at this slope leaves at that one
abbrev pub opposite : Slope → Slope
opposite slope.Up = slope.Down
opposite slope.Level = slope.Level
opposite slope.Down = slope.Up

abbrev pub is_up : Slope → Bool
is_up slope.Up = true
is_up other = false

abbrev pub is_opposite : Slope → Slope → Bool
is_opposite slope.Up slope.Down = true
is_opposite slope.Level slope.Level = true
is_opposite slope.Down slope.Up = true
is_opposite one other = false

-- a join as a train passes over it the other way
abbrev pub back_of : Join → Join
back_of join = record { from = join.to; leaves = join.enters; to = join.from; enters = join.leaves }

-- ---- where pieces lie

-- two diagonals lie in one direction
abbrev pub is_like : Shape → Shape → Bool
is_like shape.Rising shape.Rising = true
is_like shape.Falling shape.Falling = true
is_like one other = false

-- the second piece is in the row below the first
abbrev pub is_below : Piece → Piece → Bool
is_below upper lower = (lower.row - upper.row) == 1

-- the column behind the first piece is one of the second
abbrev pub lies_right : Piece → Piece → Bool
lies_right piece other = nat_le other.left piece.right && nat_lt piece.right other.right

-- the column before the first piece is one of the second
abbrev pub lies_left : Piece → Piece → Bool
lies_left piece other = nat_lt other.left piece.left && nat_le piece.left other.right

-- where a train leaves a piece to the right
abbrev pub rise_of : Shape → Slope
rise_of shape.Rising = slope.Up
rise_of shape.Falling = slope.Down
rise_of other = slope.Level

-- in which row what the right end of a diagonal points to lies
abbrev pub in_right_row : Shape → Piece → Piece → Bool
in_right_row shape.Rising piece other = is_below other piece
in_right_row shape.Falling piece other = is_below piece other
in_right_row level piece other = false

abbrev pub in_left_row : Shape → Piece → Piece → Bool
in_left_row shape.Rising piece other = is_below piece other
in_left_row shape.Falling piece other = is_below other piece
in_left_row level piece other = false

-- the right end of the first piece, a diagonal, points to the second
abbrev pub beyond_right : Piece → Piece → Bool
beyond_right piece other = in_right_row piece.shape piece other && lies_right piece other

-- the left end of the first piece, a diagonal, points to the second
abbrev pub beyond_left : Piece → Piece → Bool
beyond_left piece other = in_left_row piece.shape piece other && lies_left piece other

-- the second piece is no diagonal, and stands to the right of the first in the same row
abbrev pub flat_right : Piece → Piece → Bool
flat_right piece other = is_flat other.shape && ((other.row == piece.row) && lies_right piece other)

abbrev pub flat_left : Piece → Piece → Bool
flat_left piece other = is_flat other.shape && ((other.row == piece.row) && lies_left piece other)

-- ---- joins

-- a join to the right of this slope
abbrev pub rightwards : (n : ℕ) → Shape → Slope → ℕ → Join
rightwards n kind enters m = record { from = n; leaves = rise_of kind; to = m; enters = enters }

-- a join to the left end of a diagonal
abbrev pub leftwards : (n : ℕ) → Shape → Slope → ℕ → Join
leftwards n kind leaves m = record { from = m; leaves = leaves; to = n; enters = opposite (rise_of kind) }

-- what the right end of a piece points to
abbrev pub ends_right : List Piece → Piece → Option ℕ
ends_right pieces piece = position
    (λ (other : Piece). (is_flat other.shape || is_like piece.shape other.shape) && beyond_right piece other) pieces

-- what the left end of a diagonal points to, if it is no diagonal
abbrev pub ends_left : List Piece → Piece → Option ℕ
ends_left pieces piece = position (λ (other : Piece). is_flat other.shape && beyond_left piece other) pieces

-- what stands beside a piece
abbrev pub beside_right : List Piece → Piece → Option ℕ
beside_right pieces piece = position (λ other. flat_right piece other) pieces

abbrev pub beside_left : List Piece → Piece → Option ℕ
beside_left pieces piece = position (λ other. flat_left piece other) pieces

-- to the right: to what the end of the piece points to, else to what stands beside it
abbrev pub right_join : List Piece → (n : ℕ) → Piece → Option Join
right_join pieces n piece = option_or
    (option_map (rightwards n piece.shape (opposite (rise_of piece.shape))) (ends_right pieces piece))
    (option_map (rightwards n piece.shape slope.Level) (beside_right pieces piece))

-- a diagonal of the same direction stands where the left end of this one points to: that one has the join
abbrev pub joins_back : List Piece → Piece → Bool
joins_back pieces piece =
    list_any (λ (other : Piece). is_like piece.shape other.shape && beyond_left piece other) pieces

-- to the left end of a diagonal, unless it is that of another diagonal
abbrev pub left_join : List Piece → (n : ℕ) → Piece → Option Join
left_join pieces n piece = if is_flat piece.shape || joins_back pieces piece then None
    else option_or (option_map (leftwards n piece.shape (rise_of piece.shape)) (ends_left pieces piece))
    (option_map (leftwards n piece.shape slope.Level) (beside_left pieces piece))

-- the joins of one piece
abbrev pub joins_at : List Piece → (n : ℕ) → Piece → List Join
joins_at pieces n piece = option_to_list (right_join pieces n piece) ++ option_to_list (left_join pieces n piece)

-- those of these pieces, which are numbered from here on
abbrev pub joins_from : (all : List Piece) → (n : ℕ) → List Piece → List Join
joins_from all n [] = []
joins_from all n (piece ∷ pieces) = joins_at all n piece ++ joins_from all (n + 1) pieces

-- the joins of a drawing, each as a train passes over it to the right
abbrev pub joins_of : List Piece → List Join
joins_of pieces = joins_from pieces 0 pieces
