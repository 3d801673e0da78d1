-- The drawing of a plan as pieces of track: what stands in which row and in which columns.
use Rattle.std.specs.Prelude.{ℕ, ◌+◌, ◌==◌, Bool, true, false, ◌&&◌, ◌||◌, List, [], ◌∷◌, ◌++◌, Option, Some, None}
use Rattle.std.specs.Prelude.{if◌then◌else◌, length, nat_le, nat_lt, option_map, option_to_list, slice_range}
use Rattle.std.specs.Option.{option_map_or}
use Rattle.srcp_plan_file.specs.declared.drawing.Open.{Open}
use Rattle.srcp_plan_file.specs.declared.drawing.Pen.{Pen}
use Rattle.srcp_plan_file.specs.declared.drawing.Piece.{Piece}
use Rattle.srcp_plan_file.specs.declared.drawing.Shape.{Shape}
use Rattle.srcp_plan_file.specs.declared.drawing.Shape.TheVariants as shape

-- a piece of this shape is no diagonal
abbrev pub is_flat : Shape → Bool
is_flat shape.Rising = false
is_flat shape.Falling = false
is_flat other = true

-- a piece of this shape is the name of an element
abbrev pub is_name : Shape → Bool
is_name shape.Name = true
is_name other = false

-- what a byte draws: nothing if it is a blank or the end of a line
abbrev pub shape_of : ℕ → Option Shape
shape_of byte =
    if (byte == 32) || ((byte == 13) || (byte == 10)) then None
    else (if byte == 61 then Some shape.Track
    else (if byte == 47 then Some shape.Rising
    else (if byte == 92 then Some shape.Falling
    else (if byte == 43 then Some shape.Crossing
    else Some shape.Name))))

-- a piece goes on with what comes next
abbrev pub goes_on : Shape → Option Shape → Bool
goes_on shape.Track (Some shape.Track) = true
goes_on shape.Name (Some shape.Name) = true
goes_on other next = false

-- a byte begins a character
abbrev pub takes_column : ℕ → Bool
takes_column byte = nat_lt byte 128 || nat_le 192 byte

-- the piece that has not ended, as if it ended at this place
abbrev pub finished : Pen → ℕ → Option Piece
finished pen at = option_map (λ (part : Open). record {
  shape = part.shape;
  row = pen.row;
  left = part.left;
  right = pen.column;
  begin = part.begin;
  end = at;
}) pen.begun

-- it goes on with this byte
abbrev pub goes_on_with : Pen → ℕ → Bool
goes_on_with pen byte = option_map_or (λ (piece : Open). goes_on piece.shape (shape_of byte)) pen.begun false

-- the piece that ends before this byte
abbrev pub ended : Pen → (at byte : ℕ) → Option Piece
ended pen at byte = if goes_on_with pen byte then None else finished pen at

-- the piece that has not ended behind this byte
abbrev pub opened : Pen → (at byte : ℕ) → Option Open
opened pen at byte = if goes_on_with pen byte then pen.begun
    else option_map (λ (kind : Shape). record { shape = kind; left = pen.column; begin = at }) (shape_of byte)

-- how far the drawing is read behind this byte
abbrev pub moved : Pen → (at byte : ℕ) → Pen
moved pen at byte = record {
  row = if byte == 10 then pen.row + 1 else pen.row;
  column = if byte == 10 then 1 else (if takes_column byte then pen.column + 1 else pen.column);
  begun = opened pen at byte;
}

-- the pieces that end from this place on
abbrev pub drawn : Pen → (at : ℕ) → List ℕ → List Piece
drawn pen at [] = option_to_list (finished pen at)
drawn pen at (byte ∷ bytes) = option_to_list (ended pen at byte) ++ drawn (moved pen at byte) (at + 1) bytes

-- the pieces of a drawing, from the first row to the last, and from left to right
abbrev pub drawing : List ℕ → List Piece
drawing text = drawn (record { row = 1; column = 1; begun = None }) 0 text

-- the characters of a piece
abbrev pub name_of : List ℕ → Piece → List ℕ
name_of text piece =
    if nat_le piece.begin piece.end && nat_le piece.end (length text) then slice_range text piece.begin piece.end
    else []
