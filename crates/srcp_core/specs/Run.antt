-- The model of the code: what a run keeps beside the course of its events, and what comes of one more event.
use Rattle.std.specs.Prelude.{◌≡◌, ◌+◌, ◌++◌, ◌∷◌, [], ℕ, Bool, true, false, List, map, take, length, min}
use Rattle.std.specs.Prelude.{Option, Some, None}
use Rattle.std.specs.List.{AllByRecursion}
use Rattle.srcp_grammar.specs.declared.layout.Bus.{Bus}
use Rattle.srcp_grammar.specs.Layout.{IsLayout}
use Rattle.srcp_core.specs.Course.{World, counted, fault, accepted, course, denied_in}
use Rattle.srcp_core.specs.Held.{Held}
use Rattle.srcp_core.specs.Machine.{let_out, item_at, unsent_at, changed_at, without_sent}
use Rattle.srcp_core.specs.Agrees.{OfCourse, AtKey}
use Rattle.srcp_core.specs.Promised.{RunsRecord, outline}
use Rattle.srcp_core.specs.Recording.{Recording, record_of, gave, with_sent, Keeps}
use Rattle.srcp_core.specs.Laws.{HasMoment}
use Rattle.srcp_core.specs.Stands.{StandsFor}
use Rattle.srcp_core.specs.declared.record.Record.{Record}
use Rattle.srcp_core.specs.Under.{Event, Bytes, recorded_step, under, denied_by}
use Rattle.srcp_core.specs.declared.event.Event.{Event as PlainEvent}
use Rattle.srcp_core.specs.declared.record.CoreFault.{CoreFault}

-- how many bytes of a connection are sent at once, at most `most`, after the next line was appended
abbrev pub count_at : ℕ → ℕ → Held → ℕ
count_at key most held = min (length (unsent_at key (let_out key held))) most

-- the core after them
abbrev pub taken_at : ℕ → ℕ → Held → Held
taken_at key most held = changed_at key (without_sent (count_at key most held)) (let_out key held)

-- and what is recorded of them
abbrev pub taking : ℕ → ℕ → ℕ → Held → Recording → Recording
taking n key most held r =
    with_sent n (take (count_at key most held) (unsent_at key (let_out key held))) (gave n (item_at key held) r)

-- the recording has what was done in that course
pub record Records (r : Recording) (w : World) : Type 0 where
  pub steps : r.steps ≡ map recorded_step w.steps
  pub refused : r.refused ≡ w.refused
  pub connections : r.connections ≡ map record_of w.connections

module _ (buses : List Bus) where
  -- the core stands for the course, under the keys that the recording has, and the recording has what was done in it
  pub record Runs (r : Recording) (held : Held) (w : World) : Type 0 where
    pub stands : StandsFor buses r.keys held w
    pub records : Records r w

  -- what came of the event: it was carried out, or it was refused and nothing changed
  abbrev pub Happened : Event → Option CoreFault → Recording → Held → World → Type 0
  Happened event None r held w = (fault buses w event ≡ None) × Runs r held (accepted buses event w)
  Happened event (Some cause) r held w = (fault buses w event ≡ Some cause) × Runs r held w

-- what memory answered in the event, with which, whatever the events were before, this is so of the event; what was
-- refused in it is what was asked for in their course
pub record Answers (event : PlainEvent) (r : Recording) (held later : Held)
    (Leads : List Bus → List Event → Event → Type 0) : Type 0 where
  pub grants : List Bool
  pub each : (buses : List Bus) (events : List Event) → IsLayout buses → Runs buses r held (course buses events)
      → (later.denied ≡ denied_in buses held.denied (counted (course buses events)) (under grants event))
      × Leads buses events (under grants event)
  pub counted : later.denied ≡ denied_by held.denied grants

-- of whichever recording a recorder keeps, the event is carried out or refused as it is in the course
abbrev pub Happens : (in_full : Bool) → PlainEvent → Option CoreFault → Recording → Held → Recording → Held → Type 0
Happens in_full event refusal old held new later =
    Keeps in_full (λ r later_r. Answers event r held later (λ buses events under_grants.
    Happened buses under_grants refusal later_r later (counted (course buses events)))) old new

-- and so with the number of the event, which is recorded if it is refused
abbrev pub Follows : (in_full : Bool) → ℕ → PlainEvent → Recording → Held → Recording → Held → Type 0
Follows in_full number event old held new later =
    Keeps in_full (λ r later_r. Answers event r held later (λ buses events under_grants.
    number ≡ length events + 1 → Runs buses later_r later (course buses (events ++ under_grants ∷ [])))) old new

-- a call leads from the course of any events to that with its event
abbrev pub LeadsTo : Event → Held → Held → Type 0
LeadsTo event old new =
    OfCourse old (λ buses events keys. StandsFor buses keys new (course buses (events ++ event ∷ [])))

-- the same of a call for the connection of a key, which may leave that free
abbrev pub LeadsAt : ℕ → (ℕ → Event) → Held → Held → Type 0
LeadsAt key event old new =
    AtKey key old (λ buses events keys n. StandsFor buses keys new (course buses (events ++ event n ∷ [])))

-- the same of a piece, with what memory answered to its lines; what it refused is what was asked for in the course
pub record LeadsOn (key : ℕ) (piece : List ℕ) (old new : Held) : Type 0 where
  pub grants : List Bool
  pub asked : AtKey key old (λ buses events _ n.
      new.denied ≡ denied_in buses old.denied (counted (course buses events))
      (Bytes n (record { bytes = piece; grants = grants })))
  pub counted : new.denied ≡ denied_by old.denied grants
  pub leads : LeadsAt key (λ n. Bytes n (record { bytes = piece; grants = grants })) old new

-- a record in full, or its outline
abbrev pub recorded_in : (in_full : Bool) → Record → Record
recorded_in true run = run
recorded_in false run = outline run

-- the record is that, of one that is of the course
pub record RunsTold (in_full : Bool) (buses : List Bus) (events : List PlainEvent) (run : Record) : Type 0 where
  pub whole : Record
  pub runs : RunsRecord buses events whole
  pub is : run ≡ recorded_in in_full whole

-- the moment that an event tells has 64 bits
abbrev pub HasPlainMoment : PlainEvent → Type 0
HasPlainMoment event = HasMoment (under [] event)

-- and so of each event
abbrev pub PlainMoments : List PlainEvent → Type 0
PlainMoments events = AllByRecursion HasPlainMoment events
