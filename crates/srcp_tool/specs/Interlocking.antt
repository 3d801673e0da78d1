-- What `interlock` writes.
use Rattle.std.specs.Prelude.{◌≡◌, ℕ, ◌≤◌, List, [], ◌∷◌, ◌++◌, Option, None, Result, Ok, Err, IfSome}
use Rattle.std.specs.Prelude.{length, unwrap_or, ⊤}
use Rattle.std.specs.Io.KnownBytes.{Appends}
use Rattle.srcp_info.specs.Limits.{greatest_u64}
use Rattle.srcp_text.specs.Marks.{Mark, Line, TooLong, marks}
use Rattle.srcp_routes.specs.declared.interlocking.Event.{Event}
use Rattle.srcp_routes.specs.declared.route.Route.{Route}
use Rattle.srcp_interlock.specs.Boxes.{Box, box_after, box_of, box_sends}
use Rattle.srcp_interlock.specs.Hearing.{Hears}
use Rattle.srcp_tool.specs.declared.fault.ToolFault.{ToolFault}
use Rattle.srcp_tool.specs.declared.fault.ToolFault.TheVariants as fault

-- ---- what a box makes of bytes

-- a line tells a box of this event, or of none; a line that is too long tells of none
abbrev pub HearsMark : (own : ℕ) (numbers : List ℕ) → Mark → Option Event → Type 0
HearsMark own numbers (Line text) event = Hears own numbers text event
HearsMark own numbers TooLong event = event ≡ None

-- the same of each line
abbrev pub AreHeard : (own : ℕ) (numbers : List ℕ) → List Mark → List (Option Event) → Type 0
AreHeard own numbers [] [] = ⊤
AreHeard own numbers (mark ∷ lines) (event ∷ events) =
    HearsMark own numbers mark event × AreHeard own numbers lines events
AreHeard own numbers lines events = ⊥

-- all that a box sends by what it is told of
abbrev pub sends_over : Box → List (Option Event) → List ℕ
sends_over b [] = []
sends_over b (event ∷ events) = unwrap_or (box_sends b event) [] ++ sends_over (box_after b event) events

-- a box of these routes that is sent these bytes sends this text
pub record Answers (own : ℕ) (routes : List Route) (bytes text : List ℕ) : Type 0 where
  pub heard : List (Option Event)
  pub each : AreHeard own (box_of own routes).numbers (marks bytes) heard
  pub same : text ≡ sends_over (box_of own routes) heard

-- ---- what is written

-- known bytes gain a front of the text, which may be all of it
pub record AppendsFront (old new : Option (List ℕ)) (text : List ℕ) : Type 0 where
  pub front : List ℕ
  pub behind : List ℕ
  pub parts : text ≡ front ++ behind
  pub appends : Appends old new front

-- a text is written and flushed, or a front of it if that fails
abbrev pub SendsText : (text : List ℕ) → Result Unit ToolFault → (old new : Option (List ℕ)) → Type 0
SendsText text (Ok done) old new = Appends old new text
SendsText text (Err why) old new = (why ≡ fault.Output) × AppendsFront old new text

-- the whole input was read, and all that the box sends by it was written
pub record AnswersAll (own : ℕ) (routes : List Route) (input old new : Option (List ℕ)) : Type 0 where
  pub taken : List ℕ
  pub all : IfSome input (λ bytes. bytes ≡ taken)
  pub text : List ℕ
  pub answers : Answers own routes taken text
  pub appends : Appends old new text

-- so many bytes of the input or more were read, and what the box sends by them was written as this says
pub record AnswersFront (own : ℕ) (routes : List Route) (least : ℕ) (IsWritten : List ℕ → Type 0)
    (input : Option (List ℕ)) : Type 0 where
  pub taken : List ℕ
  pub some : least ≤ length taken
  pub front : IfSome input (λ bytes. (behind : List ℕ) × (bytes ≡ taken ++ behind))
  pub text : List ℕ
  pub answers : Answers own routes taken text
  pub written : IsWritten text

-- what was written of the orders once the input is at its end, or if reading, writing or memory failed
abbrev pub Interlocks : (own : ℕ) (routes : List Route) → Result Unit ToolFault → (input old new : Option (List ℕ))
    → Type 0
Interlocks own routes (Ok done) input old new = AnswersAll own routes input old new
Interlocks own routes (Err fault.Input) input old new = AnswersFront own routes 0 (λ text. Appends old new text) input
Interlocks own routes (Err fault.Output) input old new =
    AnswersFront own routes 0 (λ text. AppendsFront old new text) input
Interlocks own routes (Err fault.TooLarge) input old new =
    AnswersFront own routes greatest_u64 (λ text. Appends old new text) input
Interlocks own routes (Err fault.Memory) input old new = new ≡ old
Interlocks own routes (Err other) input old new = ⊥
