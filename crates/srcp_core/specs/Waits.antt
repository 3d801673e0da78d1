-- To be believed: how many changes wait for information sessions, and what that says of overruns.
use Rattle.std.specs.Prelude.{◌≡◌, ℕ, ◌+◌, ◌-◌, ◌≤◌, min, ◌&&◌, if◌then◌else◌, true, false, List, [], ◌∷◌, ◌++◌, map}
use Rattle.std.specs.Prelude.{drop, length, flat_map, Option, Some, None}
use Rattle.std.specs.List.{sum_by}
use Rattle.std.specs.Option.{option_map_or}
use Rattle.srcp_info.specs.Limits.{most_waiting}
use Rattle.srcp_grammar.specs.Layout.{IsLayout}
use Rattle.srcp_rules.specs.State.{State}
use Rattle.srcp_rules.specs.Steps.{stepped, updates_of, Step, Obeyed, Began}
use Rattle.srcp_grammar.specs.Weight.{weight}
use Rattle.srcp_grammar.specs.declared.layout.Bus.{Bus}
use Rattle.srcp_text.specs.Marks.{Mark, Line, TooLong}
use Rattle.srcp_core.specs.Connection.{Connection, History, waiting, is_open, overran}
use Rattle.srcp_core.specs.Course.{World, course, happens, history, new_marks, numbered, open_connection, state}
use Rattle.srcp_core.specs.Under.{Event, Bytes}

-- the lesser number, or the only one
abbrev pub lesser : Option ℕ → Option ℕ → Option ℕ
lesser None other = other
lesser (Some one) None = Some one
lesser (Some one) (Some other) = Some (min one other)

-- the least of the numbers that there are
abbrev pub least : List (Option ℕ) → Option ℕ
least [] = None
least (one ∷ others) = lesser one (least others)

-- how many more changes may come before an information session overruns; as many as may wait if it has, since it can
-- not do so again
abbrev pub slack_of : History → Connection → Option ℕ
slack_of history conn =
    if is_open conn && conn.info
    then Some (if overran conn history then most_waiting else most_waiting - length (waiting conn history))
    else None

-- how many changes may come: as many as the least slack says, or as many as may wait for a panel, since one may begin
abbrev pub changes_left : Option ℕ → ℕ
changes_left None = most_waiting
changes_left (Some n) = n

-- how many changes a line can bring; one that is too long brings none
abbrev pub weight_of_mark : Mark → ℕ
weight_of_mark TooLong = 0
weight_of_mark (Line text) = weight text

-- how many changes the step brings if it is a moment or the end of a session
abbrev pub due_or_freed : State → Step → ℕ
due_or_freed _ (Obeyed _ _ _) = 0
due_or_freed _ (Began _ _ _) = 0
due_or_freed state step = length (updates_of state step)

-- and how many those of these steps bring, from a registry on
abbrev pub due_and_freed : State → List Step → ℕ
due_and_freed _ [] = 0
due_and_freed state (step ∷ steps) = due_or_freed state step + due_and_freed (stepped state step) steps

module _ (buses : List Bus) where
  -- how many may come before one of them overruns: the least over all of these sessions
  abbrev pub slack : World → Option ℕ
  slack w = least (map (slack_of (history buses w)) w.connections)

  -- the first moment at which a row falls due
  abbrev pub due_next : World → Option ℕ
  due_next w = least (map (λ row. row.due) (state buses w))

  -- how many changes the steps brought, but for that number of first ones
  abbrev pub changes_since : (steps : ℕ) → World → ℕ
  changes_since steps w = length (flat_map (λ changes. changes) (drop steps (history buses w)))

  -- how many the later events brought
  abbrev pub brought : (events more : List Event) → ℕ
  brought events more = changes_since (length (course buses events).steps) (course buses (events ++ more))

  -- the connection of that number is an information session that is open and did not overrun
  pub record IsPanel (w : World) (number : ℕ) (conn : Connection) : Type 0 where
    pub there : numbered number w.connections ≡ Some conn
    pub info : conn.info ≡ true
    pub open_now : is_open conn ≡ true
    pub fine : overran conn (history buses w) ≡ false

  -- it is an information session that overran, whether it was shut since or not
  pub record IsOverrun (w : World) (number : ℕ) (conn : Connection) : Type 0 where
    pub there : numbered number w.connections ≡ Some conn
    pub info : conn.info ≡ true
    pub over : overran conn (history buses w) ≡ true

  -- whatever happens, no more changes wait for an information session than waited before it happened and were brought
  -- since
  abbrev pub WaitsGrowByChanges : Type 0
  WaitsGrowByChanges = (events more : List Event) (number : ℕ) (conn later : Connection)
      → IsPanel (course buses events) number conn
      → numbered number (course buses (events ++ more)).connections ≡ Some later → later.info ≡ true
      → length (waiting later (history buses (course buses (events ++ more))))
      ≤ length (waiting conn (history buses (course buses events))) + brought events more

  -- only those sessions overran by the end of the later events that overran before them, whether shut since or not
  abbrev pub NoneOverruns : (events more : List Event) → Type 0
  NoneOverruns events more = (number : ℕ) (later : Connection) → IsOverrun (course buses (events ++ more)) number later
      → (conn : Connection) × IsOverrun (course buses events) number conn

  -- so it is if the later events bring no more changes than may come
  abbrev pub FewChangesCloseNone : Type 0
  FewChangesCloseNone = (events more : List Event) → brought events more ≤ changes_left (slack (course buses events))
      → NoneOverruns events more

  -- ---- what of these changes lines bring, and what moments and ends of sessions bring

  -- the lines that the event completes on its connection
  abbrev pub completed : World → Event → List Mark
  completed w (Bytes n piece) = option_map_or (λ conn. new_marks buses conn.fed piece.bytes) (open_connection w n) []
  completed _ _ = []

  -- how much the lines weigh that the events complete in turn
  abbrev pub weighs : World → List Event → ℕ
  weighs _ [] = 0
  weighs w (event ∷ events) = sum_by weight_of_mark (completed w event) + weighs (happens buses w event) events

  -- how many changes moments and ends brought between the worlds
  abbrev pub brought_besides : (earlier later : World) → ℕ
  brought_besides earlier later = due_and_freed (state buses earlier) (drop (length earlier.steps) later.steps)

  -- how many changes the later events may have brought, by what their lines weigh
  abbrev pub may_bring : (events more : List Event) → ℕ
  may_bring events more =
      weighs (course buses events) more + brought_besides (course buses events) (course buses (events ++ more))

  -- they brought no more than that
  abbrev pub LinesBringTheirWeight : Type 0
  LinesBringTheirWeight = IsLayout buses → (events more : List Event) → brought events more ≤ may_bring events more

  -- if they may not have brought more than may come, only those sessions overran afterwards that overran before
  abbrev pub LightLinesCloseNone : Type 0
  LightLinesCloseNone = IsLayout buses → (events more : List Event)
      → may_bring events more ≤ changes_left (slack (course buses events))
      → NoneOverruns events more
