-- To be believed: what memory answers in each event, and what of that the course of the events takes in.
use Rattle.std.specs.Prelude.{ℕ, ◌+◌, min, fold, Bool, true, if◌then◌else◌, List, [], ◌∷◌, drop}
use Rattle.srcp_info.specs.Limits.{greatest_u64}
use Rattle.srcp_rules.specs.Steps.{Step, Obeyed, Began, Moment, Ended}
use Rattle.srcp_text.specs.Marks.{Mark}
use Rattle.srcp_core.specs.declared.event.Event.{Event as PlainEvent}
use Rattle.srcp_core.specs.declared.event.Event.TheVariants as plain
use Rattle.srcp_core.specs.declared.record.Step.{Step as PlainStep}
use Rattle.srcp_core.specs.declared.record.Step.TheVariants as recorded

-- ---- events

-- bytes that come in at once, and what memory answers to each line that ends in them, in turn; it gives to the lines
-- beyond the answers
pub record Piece : Type 0 where
  pub bytes : List ℕ
  pub grants : List Bool

-- an event, with what memory answers in it
pub data Event : Type 0 where
  Open : (granted : Bool) → Event
  Bytes : (conn : ℕ) (piece : Piece) → Event
  Room : (conn bytes : ℕ) → Event
  At : (moment : ℕ) → Event
  Shut : (conn : ℕ) → Event

-- bytes to whose lines memory gives
abbrev pub giving : List ℕ → Piece
giving bytes = record { bytes = bytes; grants = [] }

-- the first answer, and that it gives if there is none
abbrev pub first_of : List Bool → Bool
first_of [] = true
first_of (granted ∷ _) = granted

-- how many allocations were refused, after these answers too; the count stops at the greatest u64
abbrev pub denied_by : ℕ → List Bool → ℕ
denied_by denied grants =
    fold (λ count granted. if granted then count else min (count + 1) greatest_u64) denied grants

-- the event, with these answers
abbrev pub under : List Bool → PlainEvent → Event
under grants plain.Open = Open (first_of grants)
under grants (plain.Bytes conn piece) = Bytes conn (record { bytes = piece; grants = grants })
under _ (plain.Room conn bytes) = Room conn bytes
under _ (plain.At moment) = At moment
under _ (plain.Shut conn) = Shut conn

-- the events, with the answers in each in turn; beyond them it gives all
abbrev pub all_under : List (List Bool) → List PlainEvent → List Event
all_under _ [] = []
all_under [] (event ∷ events) = under [] event ∷ all_under [] events
all_under (granted ∷ grants) (event ∷ events) = under granted event ∷ all_under grants events

-- ---- lines

-- a line, and what memory answers to it
pub record Heard : Type 0 where
  pub mark : Mark
  pub granted : Bool

-- each line with its answer
abbrev pub lines_under : List Bool → List Mark → List Heard
lines_under _ [] = []
lines_under grants (mark ∷ marks) =
    record { mark = mark; granted = first_of grants } ∷ lines_under (drop 1 grants) marks

-- ---- what is recorded

-- what is recorded of a step: a command is recorded whatever came of it
abbrev pub recorded_step : Step → PlainStep
recorded_step (Obeyed session moment order) = recorded.Obeyed session moment order.command
recorded_step (Began session moment mode) = recorded.Began session moment mode
recorded_step (Moment moment) = recorded.Moment moment
recorded_step (Ended session moment) = recorded.Ended session moment
