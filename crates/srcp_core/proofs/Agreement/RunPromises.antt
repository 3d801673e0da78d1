-- What a run tells has the laws of every course.
use Rattle.srcp_core.proofs.Names.{◌≡◌, ℕ, zero, suc, List, [], ◌∷◌, map, ◌+◌, length, take, refl, ap, sym, ◌∙◌, arith}
use Rattle.srcp_core.proofs.Names.{take_all, le_refl, AllByRecursion, Some, slice_get, Result, Ok, Err, IfOk, Bus, IsLayout, IsWhole, Event}
use Rattle.srcp_core.proofs.Names.{all_under, HasPlainMoment, PlainMoments, Connection, World, course, numbered, state, IsPromised}
use Rattle.srcp_core.proofs.Names.{IsRecordOf, IsSession, AllMoments, ConnRecord, Record, true, all_append, ◌++◌}
use Rattle.srcp_core.proofs.Agreement.MemoryAnswers.{all_moments, none_of_all}
use Rattle.srcp_core.specs.declared.event.Event.{Event as PlainEvent}
use Rattle.srcp_core.specs.Promised.{IsRecordedConnection, RunsRecord}
use Rattle.srcp_core.specs.Laws.{IsWholeWorld}
use Rattle.srcp_core.proofs.CourseLaws.EveryCourse.{told_rightly, served_rightly}
use Rattle.std.proofs.lemmas.Option.{slice_get_within, get_or_from_slice_get}
use Rattle.std.proofs.lemmas.List.{take_more, length-take-le}

-- the registry as it is
whole_now : (buses : List Bus) (w : World) → IsWholeWorld buses w → IsWhole buses (state buses w)
whole_now buses w whole =
    rw (← (take_all (length w.steps) w.steps (le_refl (length w.steps))))
    (whole.states (length w.steps))

-- the connection that is told of
record Told (f : Connection → ConnRecord) (number : ℕ) (conns : List Connection) (one : ConnRecord) : Type 0 where
  conn : Connection
  there : numbered number conns ≡ Some conn
  is : one ≡ f conn

told_map : (f : Connection → ConnRecord) (number : ℕ) (conns : List Connection) (one : ConnRecord)
    → numbered number (map f conns) ≡ Some one → Told f number conns one
told_map f zero conns one e = cc
told_map f (suc n) [] one e = cc
told_map f (suc zero) (conn ∷ conns) one e = let same : f conn ≡ one = cc in record { conn = conn; there = refl; is = sym same }
told_map f (suc (suc n)) (conn ∷ conns) one e =
    let t = told_map f (suc n) conns one e in record { conn = t.conn; there = t.there; is = t.is }

pub told_connections : (buses : List Bus) (events : List Event) (told : Record) → IsLayout buses → AllMoments events
    → IsRecordOf buses (course buses events) told
    → (number : ℕ) (one : ConnRecord) → numbered number told.connections ≡ Some one → IsRecordedConnection buses events number one
told_connections buses events told layout moments r number one e =
    let t = told_map _ number _ one (ap (numbered number) (sym r.connections) ∙ e) in
    let laws = served_rightly buses in
    let session : t.conn.info ≡ true → IsSession buses events number t.conn = λ info. record { there = t.there; info = info } in
    record {
      conn = t.conn;
      there = t.there;
      is = t.is;
      served = laws.served layout events number t.conn t.there;
      no_more = laws.no_more events number t.conn t.there;
      listed = λ info. (told_rightly buses layout events number t.conn (session info)).0;
      held = λ info. (told_rightly buses layout events number t.conn (session info)).1 moments;
    }

-- the recorded rows are a whole registry
rows_whole : (buses : List Bus) (events : List PlainEvent) (told : Record) → IsPromised buses events told → IsWhole buses told.rows
rows_whole buses events told p = rw p.is.rows (whole_now buses _ p.world)

-- so it is of each record that is given
pub promised : {E : Type 0} (buses : List Bus) (events : List PlainEvent) (result : Result Record E)
    → IfOk result (λ told. RunsRecord buses events told) → IfOk result (λ _. PlainMoments events) → IfOk result (λ _. IsLayout buses)
    → IfOk result (λ told. IsPromised buses events told)
promised buses events (Ok told) r plain_moments layout =
    let all = all_under r.grants events in
    let moments = all_moments r.grants events plain_moments in
    record {
      runs = r;
      given = λ d. (none_of_all r.grants 0 (sym r.counted ∙ d)).1;
      connections = told_connections buses all told layout moments r.is;
      world = (served_rightly buses).whole layout all moments;
    }
promised buses events (Err fault) r moments layout = tt

-- one event more
pub take_one : (events : List PlainEvent) (index : ℕ) (event : PlainEvent) → slice_get events index ≡ Some event
    → (take (index + 1) events ≡ take index events ++ event ∷ []) × (length (take index events) ≡ index)
take_one events index event at =
    let low = slice_get_within events index event at in (
      take_more events index event low ∙ ap (λ x. take index events ++ x ∷ []) (get_or_from_slice_get events index event event at),
      length-take-le index events (omega arith),
    )

pub moments_more : (events : List PlainEvent) (index : ℕ) (event : PlainEvent) → slice_get events index ≡ Some event → HasPlainMoment event
    → AllByRecursion HasPlainMoment (take index events) → AllByRecursion HasPlainMoment (take (index + 1) events)
moments_more events index event e h all =
    rw (take_one events index event e).0 (all_append HasPlainMoment (take index events) (event ∷ []) all (h, tt))
