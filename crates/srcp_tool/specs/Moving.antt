-- How far a box has come over the pieces of a stream.
use Rattle.std.specs.Prelude.{◌≡◌, ℕ, List, [], ◌++◌, Option, Result, Ok, Err, unwrap_or}
use Rattle.std.specs.List.{fold}
use Rattle.std.specs.Io.KnownBytes.{Appends}
use Rattle.srcp_text.specs.Marks.{Mark, marks}
use Rattle.srcp_text.specs.Reading.{Reading, StandsAt}
use Rattle.srcp_routes.specs.declared.interlocking.Event.{Event}
use Rattle.srcp_interlock.specs.Boxes.{Box, TakesIn, box_after}
use Rattle.srcp_tool.specs.Interlocking.{AppendsFront, AreHeard, SendsText, sends_over}
use Rattle.srcp_tool.specs.declared.fault.ToolFault.{ToolFault}
use Rattle.srcp_tool.specs.declared.fault.ToolFault.TheVariants as fault

-- a box after all that it was told of
abbrev pub box_over : Box → List (Option Event) → Box
box_over b events = fold box_after b events

-- a reader and a box go on by these bytes, and the box sends this text
pub record Moves (reading : Reading) (b : Box) (bytes : List ℕ) (on : Reading) (after : Box) (text : List ℕ)
    : Type 0 where
  pub found : List Mark
  pub finds : (fed : List ℕ) → StandsAt fed reading → marks (fed ++ bytes) ≡ marks fed ++ found
  pub stands : (fed : List ℕ) → StandsAt fed reading → StandsAt (fed ++ bytes) on
  pub heard : List (Option Event)
  pub each : AreHeard b.own b.numbers found heard
  pub box : after ≡ box_over b heard
  pub same : text ≡ sends_over b heard

-- a box takes in a line, and what it sends is written, or a front of that
pub record AnswersLine (b : Box) (line : List ℕ) (after : Box) (result : Result Unit ToolFault)
    (old new : Option (List ℕ)) : Type 0 where
  pub sent : Option (List ℕ)
  pub takes : TakesIn b line after sent
  pub sends : SendsText (unwrap_or sent []) result old new

-- all of a piece is taken in, and what the box sends is written
pub record TakesAll (reading : Reading) (b : Box) (piece : List ℕ) (on : Reading) (after : Box)
    (old new : Option (List ℕ)) : Type 0 where
  pub text : List ℕ
  pub moves : Moves reading b piece on after text
  pub appends : Appends old new text

-- a front of a piece is taken in, and a front of what the box sends is written
pub record TakesFront (reading : Reading) (b : Box) (piece : List ℕ) (old new : Option (List ℕ)) : Type 0 where
  pub front : List ℕ
  pub behind : List ℕ
  pub parts : piece ≡ front ++ behind
  pub on : Reading
  pub after : Box
  pub text : List ℕ
  pub moves : Moves reading b front on after text
  pub appends : AppendsFront old new text

abbrev pub TakesPiece : Reading → Box → (piece : List ℕ) → Reading → Box → Result Unit ToolFault
    → (old new : Option (List ℕ)) → Type 0
TakesPiece reading b piece on after (Ok done) old new = TakesAll reading b piece on after old new
TakesPiece reading b piece on after (Err why) old new = (why ≡ fault.Output) × TakesFront reading b piece old new
