-- The model of the code: what each call makes of what is held.
use Rattle.std.specs.Prelude.{⊤, ◌≡◌, ◌≢◌, ℕ, suc, ◌+◌, ◌-◌, ◌*◌, ◌<◌, ◌≤◌, min, max, Bool, true, false, not}
use Rattle.std.specs.Prelude.{◌&&◌, ◌||◌, ◌==◌, if◌then◌else◌, List, [], ◌∷◌, ◌++◌, map, drop, length, fold}
use Rattle.std.specs.Prelude.{slice_set, Option, Some, None, Ok}
use Rattle.std.specs.List.{filter_map}
use Rattle.std.specs.Option.{option_map, option_map_or, option_to_list}
use Rattle.srcp_core.specs.Limits.{most_connections}
use Rattle.srcp_info.specs.Limits.{greatest_u64, longest_line, longest_short_reply}
use Rattle.srcp_info.specs.Limits.{most_waiting}
use Rattle.srcp_info.specs.Line.{reply_line}
use Rattle.srcp_info.specs.declared.change.Change.{Change}
use Rattle.srcp_info.specs.declared.change.Reply.{Reply}
use Rattle.srcp_info.specs.declared.change.Reply.TheVariants.{Shows}
use Rattle.srcp_info.specs.declared.change.Shown.{Shown}
use Rattle.srcp_info.specs.declared.value.Mode.{Mode}
use Rattle.srcp_info.specs.declared.value.Mode.TheVariants.{Command as CommandMode, Info}
use Rattle.srcp_grammar.specs.declared.layout.Bus.{Bus}
use Rattle.srcp_rules.specs.Due.{due, freed, began}
use Rattle.srcp_rules.specs.State.{Update, opening, updated_all, shown_rows}
use Rattle.srcp_rules.specs.Steps.{effect}
use Rattle.srcp_text.specs.Marks.{Mark, Line, TooLong}
use Rattle.srcp_text.specs.Reading.{Reading, nothing_read}
use Rattle.srcp_text.specs.Feeding.{feed_of}
use Rattle.srcp_text.specs.declared.reader.Fed.{Fed}
use Rattle.srcp_text.specs.declared.reader.Fed.TheVariants.{Line as FoundLine, TooLong as FoundTooLong, More}
use Rattle.srcp_feed.specs.Cursor.{concerns}
use Rattle.srcp_feed.specs.Feed.{Feed, beginning, is_full, told, next_of, after_next}
use Rattle.srcp_feed.specs.declared.feed.Next.{Next}
use Rattle.srcp_core.specs.Acts.{Act, Says, Sets, Begins, Obeys, Ends, request_as, acts, wants}
use Rattle.srcp_core.specs.Connection.{finish_of, line_of}
use Rattle.srcp_core.specs.Course.{fault_of, welcome}
use Rattle.srcp_core.specs.Held.{Place, Held, place_at, at, open_count}
use Rattle.srcp_core.specs.Under.{denied_by}
use Rattle.srcp_core.specs.declared.connection.Panel.{Panel}
use Rattle.srcp_core.specs.declared.connection.Panel.TheVariants.{Absent, Listening, Overran}
use Rattle.srcp_core.specs.declared.line.Request.{Request}
use Rattle.srcp_core.specs.declared.line.Request.TheVariants.{Commands}
use Rattle.srcp_core.specs.declared.line.LineRecord.{LineRecord}
use Rattle.srcp_core.specs.declared.record.Step.{Step}
use Rattle.srcp_core.specs.declared.record.Step.TheVariants.{Obeyed, Began, Ended}
use Rattle.srcp_core.specs.declared.record.Finish.{Finish}
use Rattle.srcp_core.specs.declared.record.Finish.TheVariants.{Shut}
use Rattle.srcp_core.specs.declared.record.CoreFault.{CoreFault}
use Rattle.srcp_core.specs.declared.record.CoreFault.TheVariants.{Full, Memory as MemoryFault, NoSuch}

-- ---- one slot

-- a connection that was just opened
abbrev pub fresh_place : Place
fresh_place = record {
  reader = nothing_read;
  mode = CommandMode;
  session = 0;
  ended = false;
  unsent = welcome;
  panel = Absent;
}

-- more bytes are to be sent
abbrev pub with_unsent : List ℕ → Place → Place
with_unsent bytes p = record p { unsent = p.unsent ++ bytes }

-- that many bytes were sent
abbrev pub without_sent : ℕ → Place → Place
without_sent count p = record p { unsent = drop count p.unsent }

-- a session of the mode is told changes from its beginning on, if it is an information session
abbrev pub panel_for : Mode → Panel
panel_for CommandMode = Absent
panel_for Info = Listening beginning

-- it is an information session
abbrev pub is_panel : Panel → Bool
is_panel Absent = false
is_panel _ = true

-- the keys of the connections that have an information session
abbrev pub panel_keys : List (Option Place) → List ℕ
panel_keys [] = []
panel_keys (place ∷ places) =
    let later = map suc (panel_keys places) in
    if option_map_or (λ p. is_panel p.panel) place false then 0 ∷ later else later

-- its change queue overflowed
abbrev pub has_overrun : Panel → Bool
has_overrun Overran = true
has_overrun _ = false

-- how many more changes it can queue; as many as may wait if it overran, since none wait then
abbrev pub slack_in : Panel → Option ℕ
slack_in Absent = None
slack_in (Listening feed) = Some (most_waiting - length feed.queue)
slack_in Overran = Some most_waiting

-- and of the connection of a slot
abbrev pub slack_at : Option Place → Option ℕ
slack_at None = None
slack_at (Some p) = slack_in p.panel

-- the feed that gives to it
abbrev pub feed_in : Panel → Option Feed
feed_in (Listening feed) = Some feed
feed_in _ = None

-- the session begins under the id
abbrev pub begun_place : ℕ → Panel → Place → Place
begun_place id panel p = record p { session = id; panel = panel }

-- a change is told: if the queue is full, what waits, the listing and the unsent bytes are dropped
abbrev pub told_feed : Change → Place → Option Feed → Place
told_feed _ p None = p
told_feed change p (Some feed) =
    if concerns feed.cursor change && is_full feed then record p { unsent = []; panel = Overran } else record p {
      panel = Listening (told change feed);
    }

-- and by the feed that the connection has
abbrev pub told_place : Change → Place → Place
told_place change p = told_feed change p (feed_in p.panel)

-- the next line is appended, if nothing is unsent
abbrev pub filled_from : List Shown → Place → List ℕ → Option Feed → Place
filled_from rows p [] (Some feed) = record p {
  unsent = line_of (next_of rows feed);
  panel = Listening (after_next rows feed);
}
filled_from _ p _ _ = p

-- and by the unsent bytes and the feed that the connection has
abbrev pub filled : List Shown → Place → Place
filled rows p = filled_from rows p p.unsent (feed_in p.panel)

-- what was put in, if anything was asked for
abbrev pub item_from : List Shown → List ℕ → Option Feed → Option Next
item_from rows [] (Some feed) = Some (next_of rows feed)
item_from _ _ _ = None

-- the changes that wait
abbrev pub queue_of : Panel → List Change
queue_of (Listening feed) = feed.queue
queue_of _ = []

-- ---- lines

-- what a line asks for, by how its connection stands
abbrev pub request_of : List Bus → Place → Mark → Request
request_of buses p mark = request_as buses (is_panel p.panel) p.ended p.session p.mode mark

-- what the reader found: the offset after the line and what it asks for, or nothing
abbrev pub next_request_from : List Bus → Place → Fed × Reading → Option (ℕ × Request) × Place
next_request_from _ p (More, reading) = (None, record p { reader = reading })
next_request_from buses p (FoundLine stop, reading) =
    (Some (stop, request_of buses p (Line reading.line)), record p { reader = reading })
next_request_from buses p (FoundTooLong stop, reading) =
    (Some (stop, request_of buses p TooLong), record p { reader = reading })

-- the piece is read on from there by the reader of the connection
abbrev pub next_request : List Bus → List ℕ → ℕ → Place → Option (ℕ × Request) × Place
next_request buses piece start p = next_request_from buses p (feed_of p.reader piece start)

-- what is known of the line that has begun on the connection of that key
abbrev pub line_begun_at : ℕ → Held → Option (List ℕ)
line_begun_at key held = option_map_or (λ p. p.reader.begun) (at held key) (Some [])

-- ---- all slots

-- the connection of that key is changed, if there is one
abbrev pub changed_in : ℕ → (Place → Place) → List (Option Place) → Option Place → List (Option Place)
changed_in _ _ places None = places
changed_in key change places (Some p) = slice_set places key (Some (change p))

-- the same, by the connection that is there
abbrev pub changed_places : ℕ → (Place → Place) → List (Option Place) → List (Option Place)
changed_places key change places = changed_in key change places (place_at places key)

-- the same of the whole core
abbrev pub changed_at : ℕ → (Place → Place) → Held → Held
changed_at key change held = record held { places = changed_places key change held.places }

-- every connection is told the change
abbrev pub told_all : Change → List (Option Place) → List (Option Place)
told_all change places = map (option_map (told_place change)) places

-- and is told each change in turn
abbrev pub told_each : List Change → List (Option Place) → List (Option Place)
told_each changes places = fold (λ told change. told_all change told) places changes

-- updates are made of the registry, and every connection is told them
abbrev pub carried : List Update → Held → Held
carried updates held = record held {
  rows = updated_all updates held.rows;
  places = told_each (map (λ update. update.change) updates) held.places;
}

-- the bytes to be sent of a slot
abbrev pub unsent_of : Option Place → List ℕ
unsent_of None = []
unsent_of (Some place) = place.unsent

-- the bytes to be sent of the connection of that key
abbrev pub unsent_at : ℕ → Held → List ℕ
unsent_at key held = unsent_of (at held key)

-- ---- answers

-- one more allocation was refused; the count stops at its greatest value
abbrev pub one_denied : Held → Held
one_denied held = record held { denied = min (held.denied + 1) greatest_u64 }

-- the reply is put at the end of what is to be sent
abbrev pub replied : ℕ → Reply → Held → Held
replied key reply held = changed_at key (with_unsent (reply_line held.moment reply)) held

-- a session begins under the id: its row is told to all, and then it is one of them
abbrev pub session_begun : ℕ → ℕ → Mode → Held → Held
session_begun key id mode held =
    changed_at key (begun_place id (panel_for mode))
    (carried (began id held.moment mode ∷ []) (record held { last_id = id }))

-- the session ends: its locks are taken out, and then its own row
abbrev pub freed_of : ℕ → Held → Held
freed_of session held = carried (freed held.rows session held.moment) held

-- what one act does
abbrev pub act : ℕ → Held → Act → Held
act key held (Says reply) = replied key reply held
act key held (Sets mode) = changed_at key (λ p. record p { mode = mode }) held
act key held (Begins id mode) = session_begun key id mode held
act key held (Obeys session order) = carried (effect held.rows session held.moment order).updates held
act key held (Ends session) = freed_of session (changed_at key (λ p. record p { ended = true }) held)

-- a line is answered, by whether memory was given to it; if it wants memory, a refusal counts
abbrev pub answered : Bool → ℕ → Request → Held → Held
answered granted key request held =
    let gives = granted || not (wants held.rows held.last_id held.moment request) in
    fold (act key) (record held { denied = denied_by held.denied (gives ∷ []) })
    (acts held.rows held.last_id held.moment granted request)

-- ---- the steps of the registry that the answer to a line is

-- the steps that a run records
abbrev pub steps_in : LineRecord → List Step
steps_in line = option_to_list line.step ++ option_to_list line.end

-- the step that an act is; a command that reads is one whatever comes of it
abbrev pub step_of : (moment : ℕ) → Act → Option Step
step_of moment (Begins id mode) = Some (Began id moment mode)
step_of moment (Obeys session order) = Some (Obeyed session moment order.command)
step_of moment (Ends session) = Some (Ended session moment)
step_of _ _ = None

-- the steps of a line
abbrev pub steps_answered : Bool → Request → Held → List Step
steps_answered granted request held =
    filter_map (step_of held.moment) (acts held.rows held.last_id held.moment granted request)

-- how many bytes a reply has at most
abbrev pub longest : Reply → ℕ
longest (Shows _) = longest_line
longest _ = longest_short_reply

-- how many bytes the answer to a line has at most
abbrev pub longest_answer : Request → ℕ
longest_answer (Commands _ (Ok _)) = longest_line
longest_answer _ = longest_short_reply

-- ---- calls

-- a core as it begins
abbrev pub opening_held : List Bus → (moment last_id : ℕ) → Held
opening_held buses moment last_id =
    record { buses = buses; rows = opening buses moment; moment = moment; last_id = last_id; places = []; denied = 0 }

-- fewer connections than the most were open, and the new one has the key
pub record IsAdmitted (key : ℕ) (old new : Held) : Type 0 where
  pub few : open_count old < most_connections
  pub was_free : at old key ≡ None
  pub fresh : at new key ≡ Some fresh_place
  pub others : (other : ℕ) → other ≢ key → at new other ≡ at old other
  pub count : open_count new ≡ open_count old + 1
  pub rest : new ≡ record old { places = new.places }

-- no connection was opened: the most are open, or fewer are and memory was refused, which is counted
abbrev pub IsNotAdmitted : CoreFault → Held → Held → Type 0
IsNotAdmitted Full old new = (open_count old ≡ most_connections) × (new ≡ old)
IsNotAdmitted MemoryFault old new = (open_count old < most_connections) × (new ≡ one_denied old)
IsNotAdmitted _ _ _ = ⊥

-- why bytes are refused
abbrev pub bytes_fault_from : List ℕ → Option Place → Option CoreFault
bytes_fault_from _ None = Some NoSuch
bytes_fault_from piece (Some p) = fault_of (p.ended || has_overrun p.panel) p.unsent piece

-- the same of the connection of that key
abbrev pub bytes_fault : ℕ → List ℕ → Held → Option CoreFault
bytes_fault key piece held = bytes_fault_from piece (at held key)

-- the line was found on the connection of that key
pub record IsRequest (key : ℕ) (request : Request) (held : Held) : Type 0 where
  pub place : Place
  pub mark : Mark
  pub here : at held key ≡ Some place
  pub is : request ≡ request_of held.buses place mark

-- a piece is read on from that offset by the connection of that key: the offset after the next line with what that
-- asks for, or none if no line ends
abbrev pub next_request_at : ℕ → List ℕ → ℕ → Held → Option (ℕ × Request) × Held
next_request_at key piece start held =
    option_map_or
    (λ p. (
      (next_request held.buses piece start p).0,
      record held { places = slice_set held.places key (Some (next_request held.buses piece start p).1) },
    ))
    (at held key) (None, held)

-- the next line is answered, by whether memory was given to it, and the next one begins
-- at the offset after it; none if no line ends
abbrev pub line_answered : ℕ → Bool → ℕ × Held → Option (ℕ × Request) × Held → ℕ × Held
line_answered _ _ before (None, _) = before
line_answered key granted _ (Some (stop, request), held) = (stop, answered granted key request held)

-- the steps that the answer is
abbrev pub steps_of_line : Bool → Option (ℕ × Request) × Held → List Step
steps_of_line _ (None, _) = []
steps_of_line granted (Some (_, request), held) = steps_answered granted request held

-- lines of the piece are answered in turn, each by whether memory was given to it
abbrev pub lines_answered : ℕ → List ℕ → List Bool → Held → ℕ × Held
lines_answered key piece grants held =
    fold (λ before granted. line_answered key granted before (next_request_at key piece before.0 before.1)) (0, held)
    grants

-- the lines up to an offset in the piece are answered. Then a short reply at most is unsent for each byte before
-- the offset, and what a reply that shows a row has more; and no line has begun
pub record AnswersFit (key : ℕ) (piece : List ℕ) (start : ℕ) (held : Held) : Type 0 where
  pub far : start ≤ length piece
  pub idle : start ≡ 0 → length (unsent_at key held) ≡ 0
  pub fits : length (unsent_at key held) ≤ longest_line - longest_short_reply + longest_short_reply * start
  pub begun : 0 < start → line_begun_at key held ≡ Some []

-- the next line of the piece is answered
pub record IsLineAnswered (key : ℕ) (piece : List ℕ) (start stop : ℕ) (did : LineRecord) (old new : Held) : Type 0 where
  pub onward : start < stop
  pub fits : AnswersFit key piece stop new
  pub is : (stop, new) ≡ line_answered key did.granted (start, old) (next_request_at key piece start old)
  pub steps : steps_in did ≡ steps_of_line did.granted (next_request_at key piece start old)
  pub counted : new.denied ≡ denied_by old.denied (did.granted ∷ [])

-- each answer to the lines that follow is counted if it refuses
abbrev pub CountsEach : ℕ → List ℕ → ℕ × Held → List Bool → Type 0
CountsEach _ _ _ [] = ⊤
CountsEach key piece before (granted ∷ grants) =
    let after = line_answered key granted before (next_request_at key piece before.0 before.1) in
    (after.1.denied ≡ denied_by before.1.denied (granted ∷ [])) × CountsEach key piece after grants

-- each line that ends in the piece is answered in turn, by whether memory was given
-- to it, and then the beginning of a line is left
pub record IsReceived (key : ℕ) (piece : List ℕ) (old new : Held) : Type 0 where
  pub grants : List Bool
  pub counted : CountsEach key piece (0, old) grants
  pub rest : (None, new)
      ≡ next_request_at key piece (lines_answered key piece grants old).0 (lines_answered key piece grants old).1

-- the session of a connection, if it has one that did not end
abbrev pub live_session_of : Option Place → Option ℕ
live_session_of None = None
live_session_of (Some p) = if (p.session == 0) || p.ended then None else Some p.session

-- the same of the connection of that key
abbrev pub live_session : ℕ → Held → Option ℕ
live_session key held = live_session_of (at held key)

-- how the connection of that key stands
abbrev pub finish_at : ℕ → Held → Finish
finish_at key held = option_map_or (λ p. finish_of (has_overrun p.panel) p.ended p.unsent) (at held key) Shut

-- the next line is put in for the connection of that key
abbrev pub let_out : ℕ → Held → Held
let_out key held = changed_at key (filled (shown_rows held.rows)) held

-- what is put in then, by the connection that is there
abbrev pub item_of : List Shown → Option Place → Option Next
item_of _ None = None
item_of rows (Some p) = item_from rows p.unsent (feed_in p.panel)

-- what is put in then for the connection of that key
abbrev pub item_at : ℕ → Held → Option Next
item_at key held = item_of (shown_rows held.rows) (at held key)

-- the slot is free, and the session of its connection ends if it has one that did not end
abbrev pub freed_place : ℕ → Held → Held
freed_place key held = record held { places = slice_set held.places key None }

-- a connection is hung up, by what is there
abbrev pub hung_up_from : ℕ → Held → Option Place → Held
hung_up_from _ held None = held
hung_up_from key held (Some p) =
    if (p.session == 0) || p.ended then freed_place key held else freed_of p.session (freed_place key held)

-- the connection of that key is hung up
abbrev pub hung_up : ℕ → Held → Held
hung_up key held = hung_up_from key held (at held key)

-- the moment is taken, never an earlier one, and what is due is carried out
abbrev pub advanced : ℕ → Held → Held
advanced moment held = let now = max held.moment moment in carried (due held.rows now) (record held { moment = now })
