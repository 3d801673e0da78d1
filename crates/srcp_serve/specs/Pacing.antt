-- To be believed: which turns make no panel overrun, by how many changes they bring and what the door was told.
use Rattle.std.specs.Prelude.{⊤, ◌≡◌, ℕ, ◌+◌, ◌-◌, ◌≤◌, max, min, List, [], ◌∷◌, ◌++◌, drop, length}
use Rattle.std.specs.List.{sum_by}
use Rattle.srcp_info.specs.Limits.{most_waiting}
use Rattle.srcp_grammar.specs.declared.layout.Bus.{Bus}
use Rattle.srcp_core.specs.Connection.{Connection}
use Rattle.srcp_core.specs.Course.{course, new_marks}
use Rattle.srcp_core.specs.Waits.{IsOverrun, brought_besides, changes_since, changes_left, weighs, weight_of_mark}
use Rattle.srcp_grammar.specs.Weight.{most_changes}
use Rattle.srcp_door.specs.Limits.{reserve}
use Rattle.srcp_door.specs.Pacing.{line_after, weight_of}
use Rattle.srcp_door.specs.declared.pacing.LineBoundary.{LineBoundary}
use Rattle.srcp_door.specs.declared.pacing.LineBoundary.TheVariants.{At}
use Rattle.srcp_serve.specs.Given.{Call, ExpectCall, ReadCall}
use Rattle.srcp_serve.specs.Serving.{Stand, IsServed, OfEachServed, OfEachTurn, empty_stand, events_of, handed_out}
use Rattle.srcp_serve.specs.Serving.{handed_out_in, turned, turns}

-- how many changes the turn may bring, by the slack that the door was told: as many as may wait for a panel if there
-- was none, since one may begin
abbrev pub changes_allowed : List Call → ℕ
changes_allowed [] = most_waiting
changes_allowed (ExpectCall due slack ∷ calls) = changes_left slack
changes_allowed (other ∷ calls) = most_waiting

-- what the door knows of a peer's bytes is the same, whether they were handed out in two pieces or in one
abbrev pub LinesGoOn : Type 0
LinesGoOn = (line : LineBoundary) (first second : List ℕ)
    → line_after (line_after line first) second ≡ line_after line (first ++ second)

-- how much the door weighs what it handed out in the call; of what it handed out of the peer in the calls before, it
-- knows only whether a line began in that
abbrev pub weighed_in : (past : List Call) → Call → ℕ
weighed_in past (ReadCall peer answer buffer grants) =
    weight_of (line_after At (handed_out peer past)) (handed_out_in peer (ReadCall peer answer buffer grants))
weighed_in past other = 0

-- and what it handed out in all these calls in turn
abbrev pub weighed : (past calls : List Call) → ℕ
weighed past [] = 0
weighed past (call ∷ calls) = weighed_in past call + weighed (past ++ call ∷ []) calls

-- what the door handed out in the turn weighs no more than the slack leaves beside the reserve, or no more than a line
abbrev pub LeavesReserve : (past : List Call) → Stand → (calls : List Call) → Type 0
LeavesReserve past stand calls = weighed past calls ≤ max (changes_allowed calls - reserve) most_changes

module _ (buses : List Bus) where
  -- the lines that end in a piece weigh no more than the door weighs the piece; of the bytes that were fed before, the
  -- door knows only whether they end within a line
  abbrev pub PiecesWeighEnough : Type 0
  PiecesWeighEnough = (fed piece : List ℕ)
      → sum_by weight_of_mark (new_marks buses fed piece) ≤ weight_of (line_after At fed) piece

  -- the law holds of each turn, by the calls before it too
  abbrev pub OfEachTurnAfter : (List Call → Stand → List Call → Type 0) → List Call → Stand → List (List Call) → Type 0
  OfEachTurnAfter Law past stand [] = ⊤
  OfEachTurnAfter Law past stand (calls ∷ more) =
      Law past stand calls × OfEachTurnAfter Law (past ++ calls) (turned buses stand calls) more

  -- how much the lines weigh that end in the bytes of the turn
  abbrev pub weight_of_turn : Stand → List Call → ℕ
  weight_of_turn stand calls =
      weighs buses (course buses stand.events) (drop (length stand.events) (turned buses stand calls).events)

  -- they weigh no more than the door weighs what it handed out in the turn
  abbrev pub TurnsWeighEnough : Type 0
  TurnsWeighEnough = OfEachServed buses (λ trace. OfEachTurnAfter
      (λ past stand calls. weight_of_turn stand calls ≤ weighed past calls) [] empty_stand (turns trace))

  -- how many changes the turn brought
  abbrev pub brought_in : Stand → List Call → ℕ
  brought_in stand calls = changes_since buses (length (course buses stand.events).steps)
      (course buses (turned buses stand calls).events)

  -- each session that has overrun by the end of the turn, closed in it or not, had overrun before it
  abbrev pub SparesPanels : Stand → List Call → Type 0
  SparesPanels stand calls = (number : ℕ) (later : Connection)
      → IsOverrun buses (course buses (turned buses stand calls).events) number later
      → (conn : Connection) × IsOverrun buses (course buses stand.events) number conn

  -- the turn brings no more changes than the door was told
  abbrev pub IsPaced : Stand → List Call → Type 0
  IsPaced stand calls = brought_in stand calls ≤ changes_allowed calls

  -- over all calls that are served, a turn that is so makes no panel overrun
  abbrev pub TurnsSpare : (Stand → List Call → Type 0) → Type 0
  TurnsSpare Law = (count : ℕ) (trace : List Call) → IsServed buses count trace
      → OfEachTurn buses (λ stand calls. Law stand calls → SparesPanels stand calls) empty_stand (turns trace)

  -- if each turn is so, no panel ever overran, whether it was closed since or not
  abbrev pub ServingSparesAll : (Stand → List Call → Type 0) → Type 0
  ServingSparesAll Law = (count : ℕ) (trace : List Call) → IsServed buses count trace
      → OfEachTurn buses Law empty_stand (turns trace)
      → (number : ℕ) (later : Connection) → IsOverrun buses (course buses (events_of buses trace)) number later → ⊥

  -- the weight of the lines that end in the bytes of the turn, and how many changes its moment and the ends of sessions
  -- brought, are together no more than the door was told
  abbrev pub IsLight : Stand → List Call → Type 0
  IsLight stand calls =
      let w = course buses stand.events in
      let later = (turned buses stand calls).events in
      weighs buses w (drop (length stand.events) later) + brought_besides buses w (course buses later)
      ≤ changes_allowed calls

  -- how many changes the moment of the turn and the ends of sessions brought
  abbrev pub brought_by_time : Stand → List Call → ℕ
  brought_by_time stand calls =
      brought_besides buses (course buses stand.events) (course buses (turned buses stand calls).events)

  -- these are within the reserve; and within the slack, with what the door handed out, of which a line's weight counts
  pub record FitsReserve (past : List Call) (stand : Stand) (calls : List Call) : Type 0 where
    pub few : brought_by_time stand calls ≤ reserve
    pub fit : brought_by_time stand calls + min (weighed past calls) most_changes ≤ changes_allowed calls

  -- a turn makes no panel overrun if what is handed out leaves the reserve, and moments and ends fit it
  abbrev pub PacedReadsSpare : Type 0
  PacedReadsSpare = OfEachServed buses (λ trace. OfEachTurnAfter
      (λ past stand calls. LeavesReserve past stand calls → FitsReserve past stand calls → SparesPanels stand calls)
      [] empty_stand (turns trace))

  -- if each turn is so, no panel ever overran
  abbrev pub PacedReadsSpareAll : Type 0
  PacedReadsSpareAll = OfEachServed buses (λ trace. OfEachTurnAfter LeavesReserve [] empty_stand (turns trace)
      → OfEachTurnAfter FitsReserve [] empty_stand (turns trace)
      → (number : ℕ) (later : Connection) → IsOverrun buses (course buses (events_of buses trace)) number later → ⊥)
