-- The record of a run is that of the course of its events.
use Rattle.srcp_core.proofs.Names.{◌≡◌, ℕ, zero, suc, ◌+◌, ◌≤◌, Bool, true, false, List, [], ◌∷◌, ◌++◌, map, take, length, refl, ap}
use Rattle.srcp_core.proofs.Names.{sym, ◌∙◌, arith, add-one, length-append, take_all, fold-append, fold, Option, Some, None}
use Rattle.srcp_core.proofs.Names.{slice_get, slice_index_or, Bus, IsLayout, opening, shown_rows, Event, Open, Bytes, Room}
use Rattle.srcp_core.proofs.Names.{At, Shut, under, all_under, denied_by, Connection, History, is_open, overran, unsent, finish}
use Rattle.srcp_core.proofs.Names.{World, start, numbered, history, counted, open_connection, accepted, or_refused, happens, course}
use Rattle.srcp_core.proofs.Names.{denied_in, denied_over, Reading, Held, at, IsRecordOf, opening_held, finish_at, Recording, key_of}
use Rattle.srcp_core.proofs.Names.{record_of, changed_record, finished, finished_by, nothing_recorded, Runs, Happened}
use Rattle.srcp_core.proofs.Names.{StandsFor, place_of, ConnRecord, CoreFault, Record, cases_Bool, ⊎_elim}
use Rattle.srcp_core.specs.declared.event.Event.{Event as PlainEvent}
use Rattle.srcp_core.specs.Connection.{finish_of, recorded}
use Rattle.srcp_core.specs.Recording.{with_refusal}
use Rattle.srcp_core.proofs.Agreement.LinesAreNoted.{changed_in}
use Rattle.srcp_core.specs.Run.{Answers}
use Rattle.srcp_core.proofs.Agreement.RefusalsAreCounted.{denied_over_push}
use Rattle.srcp_core.proofs.Agreement.MemoryAnswers.{under_push, under_length}
use Rattle.srcp_core.specs.declared.record.Finish.{Finish}
use Rattle.srcp_core.proofs.Agreement.EventsAgree.{over_is}
use Rattle.srcp_core.proofs.Agreement.PlacesChange.{place_overran, place_unsent}
use Rattle.srcp_core.proofs.CourseLaws.SessionsOfACourse.{anything, at_number, opening_in_order, open_shut}
use Rattle.srcp_core.proofs.Agreement.StandsAfterAChange.{stands_as, Anything, Fine}
use Rattle.srcp_core.proofs.CourseLaws.SessionsAreKept.{sound}
use Rattle.srcp_core.proofs.CourseLaws.EventsKeep.{IsAnswered, kept_fed, kept_shut}
use Rattle.srcp_core.proofs.Agreement.NumbersAndKeys.{no_connection, no_key}
use Rattle.srcp_core.proofs.Invariants.PlacesCover.{no_place}
use Rattle.srcp_core.proofs.Agreement.RunPromises.{take_one}

-- ---- how each connection stands in the end

pub finish_step_none : (held : Held) (i : ℕ) (keys : List (Option ℕ)) (tolds : List ConnRecord) → slice_index_or keys i None ≡ None
    → finished held (take (suc i) keys) tolds ≡ finished held (take i keys) tolds
finish_step_none held zero [] tolds e = refl
finish_step_none held (suc i) [] tolds e = refl
finish_step_none held zero (None ∷ keys) [] e = refl
finish_step_none held zero (None ∷ keys) (told ∷ tolds) e = refl
finish_step_none held zero (Some key ∷ keys) tolds e = cc
finish_step_none held (suc i) (key ∷ keys) [] e = refl
finish_step_none held (suc i) (key ∷ keys) (told ∷ tolds) e = cc (finish_step_none held i keys tolds e)

finish_step_some : (held : Held) (i key : ℕ) (keys : List (Option ℕ)) (tolds : List ConnRecord) → slice_index_or keys i None ≡ Some key
    → finished held (take (suc i) keys) tolds
    ≡ changed_record (suc i) (λ told. record told { finish = finish_at key held }) (finished held (take i keys) tolds)
finish_step_some held zero key [] tolds e = cc
finish_step_some held (suc i) key [] tolds e = cc
finish_step_some held zero key (None ∷ keys) tolds e = cc
finish_step_some held zero key (Some other ∷ keys) [] e = refl
finish_step_some held zero key (Some other ∷ keys) (told ∷ tolds) e = let same : other ≡ key = cc in cc
finish_step_some held (suc i) key (other ∷ keys) [] e = refl
finish_step_some held (suc i) key (other ∷ keys) (told ∷ tolds) e = cc (finish_step_some held i key keys tolds e, prefix _)
  where
    prefix : (o : Option ConnRecord)
        → finished_by held other told
        ∷ changed_in i (λ told. record told { finish = finish_at key held }) (finished held (take i keys) tolds) o
        ≡ changed_in (suc i) (λ told. record told { finish = finish_at key held })
        (finished_by held other told ∷ finished held (take i keys) tolds) o
    prefix None = refl
    prefix (Some x) = refl

pub finish_noted : (held : Held) (i key : ℕ) (keys : List (Option ℕ)) (tolds now later : List ConnRecord) (ends : Finish)
    → slice_index_or keys i None ≡ Some key → ends ≡ finish_at key held → now ≡ finished held (take i keys) tolds
    → later ≡ changed_record (i + 1) (λ told. record told { finish = ends }) now → later ≡ finished held (take (i + 1) keys) tolds
finish_noted held i key keys tolds now later ends e f is step =
    step ∙ ap (λ (x : Finish). changed_record (i + 1) (λ told. record told { finish = x }) now) f
    ∙ cc (add-one i, finish_step_some held i key keys tolds e)

finished_is : (history : History) (held : Held) (keys : List (Option ℕ)) (conns : List Connection) → length keys ≡ length conns
    → ((k : ℕ) (conn : Connection) → slice_get conns k ≡ Some conn
    → finished_by held (slice_index_or keys k None) (record_of conn) ≡ recorded history conn)
    → finished held keys (map record_of conns) ≡ map (recorded history) conns
finished_is history held [] [] l law = refl
finished_is history held [] (conn ∷ conns) l law = absurd (omega (arith, l))
finished_is history held (key ∷ keys) [] l law = absurd (omega (arith, l))
finished_is history held (key ∷ keys) (conn ∷ conns) l law =
    let less : length keys ≡ length conns = omega (arith, l) in
    cc (law 0 conn refl, finished_is history held keys conns less (λ k other e. law (suc k) other e))

module _ (buses : List Bus) (layout : IsLayout buses) (keys : List (Option ℕ)) (held : Held) (events : List Event)
    (s : StandsFor buses keys held (course buses events)) where
  abbrev w : World
  w = course buses events

  -- an open connection stands in what is held as in the course
  pub finish_is : (n key : ℕ) (reader : Reading) (conn : Connection) → numbered n w.connections ≡ Some conn → is_open conn ≡ true
      → at held key ≡ Some (place_of reader (history buses w) conn) → finish_at key held ≡ finish conn (history buses w)
  finish_is n key reader conn e o here =
      let fine = sound buses (opening_in_order buses layout) Anything (anything (shown_rows (opening buses 0))) events in
      let f : Fine buses (history buses w) conn = at_number (Fine buses (history buses w)) n w.connections conn fine e in
      let over = over_is buses (history buses w) conn (open_shut conn.shut o) f in
      cc (
        place_overran reader (history buses w) conn,
        by (overran conn (history buses w)) (λ still. place_unsent reader (history buses w) conn (sym over ∙ still)),
      )
    where
      by : (t : Bool) → (t ≡ false → (place_of reader (history buses w) conn).unsent ≡ unsent conn)
          → finish_of t conn.ended (place_of reader (history buses w) conn).unsent ≡ finish_of t conn.ended (unsent conn)
      by true h = refl
      by false h = cc (h refl)

  one_finished : (n : ℕ) (conn : Connection) → numbered n w.connections ≡ Some conn
      → finished_by held (key_of n keys) (record_of conn) ≡ recorded (history buses w) conn
  one_finished n conn e =
      ⊎_elim (λ o. let a = s.opens n conn e o in cc (a.named, finish_is n a.key a.reader conn e o a.place))
      (λ o. cc (s.closed n conn e o)) (cases_Bool (is_open conn))

-- ---- how many events there were

events_kept : (buses : List Bus) (n count : ℕ) → IsAnswered buses n (λ w. w.events ≡ count)
events_kept buses n count = record {
  step = λ step w e. e;
  numbers = λ id w e. e;
  says = λ mode ends w plain e. e;
  answers = λ reply w plain e. e;
  enters = λ id reply w plain e. e;
}

events_accepted : (buses : List Bus) (event : Event) (w : World) → (accepted buses event w).events ≡ w.events
events_accepted buses (Open granted) w = refl
events_accepted buses (Bytes n piece) w =
    kept_fed buses n (λ v. v.events ≡ w.events) (events_kept buses n w.events) piece (open_connection w n) w refl refl
events_accepted buses (Room n bytes) w = refl
events_accepted buses (At moment) w = refl
events_accepted buses (Shut n) w =
    kept_shut buses n (λ v. v.events ≡ w.events) (events_kept buses n w.events) (open_connection w n) w refl (λ conn e. refl)

events_happens : (buses : List Bus) (w : World) (event : Event) → (happens buses w event).events ≡ w.events + 1
events_happens buses w event = by _
  where
    by : (o : Option CoreFault) → (or_refused buses o event (counted w)).events ≡ w.events + 1
    by None = events_accepted buses event _
    by (Some cause) = refl

events_from : (buses : List Bus) (events : List Event) (w : World) → (fold (happens buses) w events).events ≡ w.events + length events
events_from buses [] w = omega arith
events_from buses (event ∷ events) w =
    let a = events_from buses events (happens buses w event) in let b = events_happens buses w event in omega (arith, a, b)

pub events_course : (buses : List Bus) (events : List Event) → (course buses events).events ≡ length events
events_course buses events = let a = events_from buses events start in omega (arith, a)

-- ---- one more event of a run

-- what the recording has of the event's refusal, if it was refused
abbrev pub with_fault : ℕ → Option CoreFault → Recording → Recording
with_fault number None r = r
with_fault number (Some cause) r = with_refusal number cause r

pub runs_on : (buses : List Bus) (events : List Event) (event : Event) (refusal : Option CoreFault) (number : ℕ) (r : Recording)
    (held : Held)
    → number ≡ length events + 1
    → Happened buses event refusal r held (counted (course buses events))
    → Runs buses (with_fault number refusal r) held (course buses (events ++ event ∷ []))
runs_on buses events event None number r held e h =
    let w = counted _ in
    let is : course buses (events ++ event ∷ []) ≡ accepted buses event w = cc (fold-append _ start events _, h.0) in
    rw is h.1
runs_on buses events event (Some cause) number r held e h =
    let w = counted _ in
    let now : w.events ≡ number = cc (events_course buses events) in
    let is : course buses (events ++ event ∷ []) ≡ record w { refused = w.refused ++ record { event = w.events; fault = cause } ∷ [] } =
    cc (fold-append _ start events _, h.0) in
    let s = h.1.stands in
    let t = h.1.records in
    rw is
    (record {
      stands = stands_as buses (λ n fed. fed) r.keys held w _ _ _ _ _ _ _ s.moment s.last_id s;
      records = record {
        steps = t.steps;
        refused = cc t.refused;
        connections = t.connections;
      };
    })

-- the event is carried out or refused as it is in the course, with its number
abbrev FollowsAs : ℕ → PlainEvent → Recording → Held → Recording → Held → Type 0
FollowsAs number event r held later_r later =
    Answers event r held later
    (λ buses events under_grants. number ≡ length events + 1 → Runs buses later_r later (course buses (events ++ under_grants ∷ [])))

-- what memory answered in each event of a run, if the core stands for the course of the events under these answers
pub record RunsUnder (buses : List Bus) (events : List PlainEvent) (r : Recording) (held : Held) : Type 0 where
  pub grants : List (List Bool)
  pub count : length grants ≡ length events
  pub counted : held.denied ≡ fold denied_by 0 grants
  pub asked : held.denied ≡ denied_over buses 0 start (all_under grants events)
  pub runs : Runs buses r held (course buses (all_under grants events))

-- an event that was carried out or refused, with what was noted of that
pub follows : (number : ℕ) (event : PlainEvent) (refusal : Option CoreFault) (r mid later_r : Recording) (held later : Held)
    → Answers event r held later
    (λ buses events under_grants. Happened buses under_grants refusal mid later (counted (course buses events)))
    → later_r ≡ with_fault number refusal mid → FollowsAs number event r held later_r later
follows number event refusal r mid later_r held later h e = record {
  grants = h.grants;
  counted = h.counted;
  each = λ buses events layout s.
      let one = h.each buses events layout s in
      (one.0, λ n. rw e (runs_on buses events _ refusal number mid later n one.1));
}

-- one event more of a list
pub follows_more : (buses : List Bus) (events : List PlainEvent) (index : ℕ) (event : PlainEvent) (r later_r : Recording)
    (held later : Held)
    → IsLayout buses → slice_get events index ≡ Some event → FollowsAs (index + 1) event r held later_r later
    → RunsUnder buses (take index events) r held → RunsUnder buses (take (index + 1) events) later_r later
follows_more buses events index event r later_r held later layout at f u =
    let t = take_one events index event at in
    let all = all_under u.grants _ in
    let long : index ≡ length all = sym (under_length u.grants _ ∙ t.1) in
    let one = f.each buses all layout u.runs in
    rw t.0 (record {
      grants = u.grants ++ f.grants ∷ [];
      count = cc (length-append u.grants _, u.count, length-append _ _);
      counted = f.counted ∙ ap (λ k. denied_by k f.grants) u.counted ∙ sym (fold-append _ 0 u.grants _);
      asked = one.0 ∙ ap (λ k. denied_in buses k (counted (course buses all)) (under f.grants event)) u.asked
          ∙ sym (ap (denied_over buses 0 start) (under_push u.grants _ f.grants event u.count)
          ∙ denied_over_push buses 0 start all _);
      runs = rw (under_push u.grants _ f.grants event u.count) (one.1 (cc));
    })

-- before all events
pub runs_start : (buses : List Bus) (r : Recording) (held : Held) → r ≡ nothing_recorded → held ≡ opening_held buses 0 0
    → Runs buses r held (course buses [])
runs_start buses r held e h =
    rw e
    (rw h (record {
      stands = record {
        layout = refl;
        rows = refl;
        moment = refl;
        last_id = refl;
        count = refl;
        long = refl;
        opens = λ n conn e o. absurd (no_connection n conn e);
        closed = λ n conn e o. absurd (no_connection n conn e);
        apart = λ m n key e f. absurd (no_key m key e);
        owned = λ key p e. absurd (no_place key p e);
      };
      records = record { steps = refl; refused = refl; connections = refl };
    }))

pub runs_none : (buses : List Bus) (events : List PlainEvent) (r : Recording) (held : Held) → r ≡ nothing_recorded
    → held ≡ opening_held buses 0 0
    → RunsUnder buses (take 0 events) r held
runs_none buses events r held e h = record {
  grants = [];
  count = refl;
  counted = cc;
  asked = cc;
  runs = runs_start buses r held e h;
}

-- once all events happened
pub runs_all : (buses : List Bus) (events : List PlainEvent) (index : ℕ) (r : Recording) (held : Held) → length events ≤ index
    → RunsUnder buses (take index events) r held → RunsUnder buses events r held
runs_all buses events index r held h runs = rw (← (take_all index events h)) runs

-- the record of a run
pub record_is : (buses : List Bus) (events : List Event) (r : Recording) (held : Held) (told : Record) → IsLayout buses
    → Runs buses r held (course buses events)
    → told.steps ≡ r.steps → told.refused ≡ r.refused → told.connections ≡ finished held r.keys r.connections → told.rows ≡ held.rows
    → IsRecordOf buses (course buses events) told
record_is buses events r held told layout s steps refused connections rows = record {
  steps = steps ∙ s.records.steps;
  refused = cc s.records.refused;
  connections = cc (
    s.records.connections,
    finished_is _ held r.keys (course buses events).connections s.stands.long
        (λ k conn e. one_finished buses layout r.keys held events s.stands (suc k) conn e),
  );
  rows = rows ∙ s.stands.rows;
}
