-- To be believed: what a run promises of the connections that it tells of, and of the registry.
use Rattle.std.specs.Prelude.{◌≡◌, ℕ, Bool, true, false, IsTrue, List, [], map, length, fold, Some}
use Rattle.std.specs.List.{AllByRecursion}
use Rattle.srcp_grammar.specs.declared.layout.Bus.{Bus}
use Rattle.srcp_core.specs.Connection.{Connection, recorded}
use Rattle.srcp_core.specs.Course.{start, course, history, numbered, denied_over}
use Rattle.srcp_core.specs.Laws.{IsRecordOf, IsListedRightly, IsHeldRightly, IsServedRightly}
use Rattle.srcp_core.specs.Laws.{IsSentNoMoreSince, IsWholeWorld}
use Rattle.srcp_core.specs.Under.{Event, all_under, denied_by}
use Rattle.srcp_core.specs.declared.event.Event.{Event as PlainEvent}
use Rattle.srcp_core.specs.declared.record.ConnRecord.{ConnRecord}
use Rattle.srcp_core.specs.declared.record.Record.{Record}

module _ (buses : List Bus) where
  -- what is recorded of any connection is what came of a connection of the course, which was served rightly, and was
  -- sent nothing after an overrun or a shut; if it is an information session, it was told rightly
  pub record IsRecordedConnection (events : List Event) (number : ℕ) (one : ConnRecord) : Type 0 where
    pub conn : Connection
    pub there : numbered number (course buses events).connections ≡ Some conn
    pub is : one ≡ recorded (history buses (course buses events)) conn
    pub served : IsServedRightly buses events number conn
    pub no_more : IsSentNoMoreSince buses events number conn
    pub listed : conn.info ≡ true → IsListedRightly buses (course buses events) conn
    pub held : conn.info ≡ true → IsHeldRightly buses events number conn

-- ---- a whole run

-- what memory answered in each event, with which the record is that of the course of the events; the record counts
-- exactly the answers that refused, up to the greatest u64, and these are all asked for in that course
pub record RunsRecord (buses : List Bus) (events : List PlainEvent) (run : Record) : Type 0 where
  pub grants : List (List Bool)
  pub count : length grants ≡ length events
  pub counted : run.denied ≡ fold denied_by 0 grants
  pub asked : run.denied ≡ denied_over buses 0 start (all_under grants events)
  pub is : IsRecordOf buses (course buses (all_under grants events)) run

-- and the record tells of that course what it promises: the recorded rows are a whole registry, as it was after each
-- step; if the record counts no refusal each answer gave, and the course is that of the events with ample memory
pub record IsPromised (buses : List Bus) (events : List PlainEvent) (run : Record) : Type 0 where
  pub runs : RunsRecord buses events run
  pub open runs use *
  pub given : run.denied ≡ 0 → AllByRecursion (AllByRecursion IsTrue) grants
  pub connections : (number : ℕ) (one : ConnRecord) → numbered number run.connections ≡ Some one
      → IsRecordedConnection buses (all_under grants events) number one
  pub world : IsWholeWorld buses (course buses (all_under grants events))

-- ---- a run in outline

-- what is kept of a connection: what it was sent, and how it stands
abbrev pub connection_outline : ConnRecord → ConnRecord
connection_outline one = record one { session = 0; info = false; go_step = 0; items = [] }

-- the outline of a record: no steps, and this of each connection
abbrev pub outline : Record → Record
outline run = record run { steps = []; connections = map connection_outline run.connections }

-- the record is the outline of one that keeps what a run promises
pub record IsPromisedOutline (buses : List Bus) (events : List PlainEvent) (run : Record) : Type 0 where
  pub whole : Record
  pub promised : IsPromised buses events whole
  pub is : run ≡ outline whole
