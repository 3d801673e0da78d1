-- What a core has lived through, after each of its calls.
use Rattle.srcp_core.proofs.Names.{◌≡◌, ◌≢◌, ℕ, zero, suc, ◌+◌, ◌<◌, ◌≤◌, List, [], ◌∷◌, ◌++◌, length, refl, ap, sym, ◌∙◌, subst, arith}
use Rattle.srcp_core.proofs.Names.{Bool, true, false, Option, Some, None, slice_index_or, eqb-true, ◌==◌, if◌then◌else◌, ◌⊎◌, inl, inr}
use Rattle.srcp_core.proofs.Names.{Bus, Event, Open, Bytes, Room, At, Shut, World, course, counted, denied_in, denied_over, Held, at}
use Rattle.srcp_core.proofs.Names.{IsAdmitted, IsNotAdmitted, advanced, hung_up, let_out, changed_at, without_sent, unsent_at, key_of}
use Rattle.srcp_core.proofs.Names.{StandsFor, Place, without_key, CoreFault, Full, lent, fault, open_connection, AnswersFit, LineRecord}
use Rattle.srcp_core.proofs.Names.{Request, next_request_at, noted, steps_of_line, Piece, giving, bytes_fault, finish_at, least, slack_at}
use Rattle.srcp_core.proofs.Names.{hung_up_from, absent_fault, NoSuch, none-some, HasMoment, IsMoment, all_append, denied_by, is_some}
use Rattle.srcp_core.proofs.Names.{count_by, open_count, false≢true}
use Rattle.std.proofs.Common.{eq-eqb}
use Rattle.std.specs.Prelude.{IsSome}
use Rattle.std.specs.Option.{option_map_or}
use Rattle.std.specs.Prelude.{MatchResult, Err, Ok, Result, map, ◌↔◌, IsErr, IfErr}
use Rattle.srcp_core.specs.Agrees.{closes, replies_taken}
use Rattle.srcp_core.specs.Connection.{is_last}
use Rattle.srcp_core.specs.Course.{start}
use Rattle.srcp_core.specs.Lived.{HasLived}
use Rattle.srcp_core.specs.Machine.{IsLineAnswered}
use Rattle.srcp_core.specs.Past.{Past, answer_at, happened, number_from, number_in}
use Rattle.srcp_core.specs.Waits.{slack, due_next}
use Rattle.srcp_core.specs.declared.event.Event.TheVariants as plain
use Rattle.srcp_core.specs.declared.log.Log.{Log}
use Rattle.srcp_core.specs.declared.record.CoreFault.TheVariants.{Memory as MemoryFault}
use Rattle.srcp_index.specs.Earliest.{IsEarliestDue}
use Rattle.srcp_core.proofs.Agreement.AnswersAgree.{lent_is, there_agrees, names_newest, bytes_agree, closes_agrees, lends_agrees}
use Rattle.srcp_core.proofs.Agreement.AnswersAgree.{counts_open, refuses_agrees}
use Rattle.srcp_core.proofs.Agreement.CallsFollowTheCourse.{at_leads, open_leads, not_open_leads, shut_leads, out_stands, sent_leads}
use Rattle.srcp_core.proofs.Agreement.CallsFollowTheCourse.{telling, runs_telling}
use Rattle.srcp_core.proofs.Agreement.EventsAgree.{free_room, full_fault}
use Rattle.srcp_core.proofs.Agreement.MemoryAnswers.{counted_more}
use Rattle.srcp_core.proofs.Agreement.OneLineIsLent.{line_agrees}
use Rattle.srcp_core.proofs.Agreement.PiecesFollowTheCourse.{IsRead}
use Rattle.srcp_core.proofs.Agreement.RecordIsOfTheCourse.{runs_on}
use Rattle.srcp_core.proofs.Agreement.RefusalsAreCounted.{denied_over_push, denied_in_none}
use Rattle.srcp_core.proofs.Agreement.RunsAnEvent.{shut_count, runs_counted}
use Rattle.srcp_core.proofs.Agreement.RunsBytes.{bytes_fit, reads_with_none, reads_with_more, noted_keys, bytes_with, bytes_asked}
use Rattle.srcp_core.proofs.Agreement.SlackAgrees.{slack_agrees, due_agrees}
use Rattle.srcp_core.proofs.Agreement.StandsAfterAChange.{Found, found_at}
use Rattle.srcp_core.proofs.Invariants.LinesAreFound.{next_request_denied}

-- ---- numbers of keys

-- where the key stands, counted on from a number
abbrev Stands : ℕ → ℕ → List (Option ℕ) → Type 0
Stands m key keys =
    (number_from m key keys ≡ 0) ⊎ ((k : ℕ) × (number_from m key keys ≡ m + k) × (slice_index_or keys k None ≡ Some key))

found_from : (m key : ℕ) (keys : List (Option ℕ)) → Stands m key keys
found_from m key [] = inl refl
found_from m key (one ∷ keys) = by one (option_map_or (λ k. k == key) one false) refl (found_from (suc m) key keys)
  where
    by : (one : Option ℕ) (t : Bool) → option_map_or (λ k. k == key) one false ≡ t → Stands (suc m) key keys
        → Stands m key (one ∷ keys)
    by None true e later = cc
    by (Some k) true e later = inr (0, rw e (omega arith), ap Some (eqb-true k key e))
    by one false e (inl none) = inl (cc)
    by one false e (inr (k, n, there)) = inr (suc k, rw e (omega (arith, n)), there)

has_from : (m key k : ℕ) (keys : List (Option ℕ)) → slice_index_or keys k None ≡ Some key → 0 < number_from (suc m) key keys
has_from m key k [] e = cc
has_from m key zero (one ∷ keys) e = rw e (rw (eq-eqb key key refl) (omega arith))
has_from m key (suc k) (one ∷ keys) e =
    by (option_map_or (λ k. k == key) one false) _ (has_from (suc m) key k keys e)
  where
    by : (t : Bool) (n : ℕ) → 0 < n → 0 < (if t then suc m else n)
    by true n some = omega arith
    by false n some = some

-- the connection of that number has the key, or the number is 0
pub number_of_key : (key : ℕ) (keys : List (Option ℕ)) → (number_in key keys ≡ 0) ⊎ (key_of (number_in key keys) keys ≡ Some key)
number_of_key key keys = by (found_from 1 key keys)
  where
    by : (number_in key keys ≡ 0) ⊎ ((k : ℕ) × (number_in key keys ≡ 1 + k) × (slice_index_or keys k None ≡ Some key))
        → (number_in key keys ≡ 0) ⊎ (key_of (number_in key keys) keys ≡ Some key)
    by (inl none) = inl none
    by (inr (k, n, there)) =
        let same : number_in key keys ≡ suc k = omega (arith, n) in
        inr (rw same there)

-- so it is if some connection has the key
pub number_there : (n key : ℕ) (keys : List (Option ℕ)) → key_of n keys ≡ Some key → key_of (number_in key keys) keys ≡ Some key
number_there zero key keys e = cc
number_there (suc k) key keys e = by (number_of_key key keys)
  where
    by : (number_in key keys ≡ 0) ⊎ (key_of (number_in key keys) keys ≡ Some key) → key_of (number_in key keys) keys ≡ Some key
    by (inl none) = let some = has_from 0 key k keys e in absurd (omega (arith, some, none))
    by (inr named) = named

-- ---- one event more

module _ (buses : List Bus) (held : Held) (log : Log) (lived : HasLived buses held log) where
  abbrev w : World
  w = course buses log.events

  goes_by : (event : Event) (new : Held) (later : Log) → later.events ≡ log.events ++ event ∷ [] → later.grants ≡ [] → HasMoment event
      → StandsFor buses later.keys new (course buses (log.events ++ event ∷ []))
      → new.denied ≡ denied_in buses held.denied (counted w) event
      → HasLived buses new later
  goes_by event new later events grants moment stands denied = record {
    layout = lived.layout;
    stands = rw events stands;
    read = grants;
    moments = rw events (all_append HasMoment log.events (event ∷ []) lived.moments (moment, tt));
    counted =
        rw events
        (denied ∙ ap (λ d. denied_in buses d (counted w) event) lived.counted
        ∙ sym (denied_over_push buses 0 start log.events event));
  }

  -- the layout is that of the core
  own : (new : Held) (later : Log) → HasLived buses new later → HasLived new.buses new later
  own new later l = subst (λ b. HasLived b new later) (sym l.stands.layout) l

  goes_on : (event : Event) (new : Held) (later : Log) → later.events ≡ log.events ++ event ∷ [] → later.grants ≡ [] → HasMoment event
      → StandsFor buses later.keys new (course buses (log.events ++ event ∷ []))
      → new.denied ≡ denied_in buses held.denied (counted w) event
      → HasLived new.buses new later
  goes_on event new later events grants moment stands denied = own new later (goes_by event new later events grants moment stands denied)

  pub lived_at : (moment : ℕ) → IsMoment moment → (new : Held) (later : Log) → new ≡ advanced moment held → later ≡ record log {
    events = log.events ++ At moment ∷ [];
  }
      → HasLived new.buses new later
  lived_at moment fits new later is goes =
      rw (is, goes)
      (goes_on (At moment) (advanced moment held) (record log { events = log.events ++ At moment ∷ [] }) refl lived.read fits
      (at_leads moment held (advanced moment held) refl buses log.events log.keys lived.layout lived.stands) refl)

  pub lived_opened : (key : ℕ) (new : Held) (later : Log) → IsAdmitted key held new → later ≡ record log {
    events = log.events ++ Open true ∷ [];
    keys = log.keys ++ Some key ∷ [];
  }
      → HasLived new.buses new later
  lived_opened key new later a goes =
      rw goes
      (goes_on (Open true) new _ refl lived.read tt
      (open_leads key held new a buses log.events log.keys lived.layout lived.stands)
      (ap (λ (h : Held). h.denied) a.rest))

  -- the newest connection has the key that was free
  pub newest : (key : ℕ) (new : Held) → IsAdmitted key held new
      → number_in key (log.keys ++ Some key ∷ []) ≡ length w.connections + 1
  newest key new a =
      let s = open_leads key held new a buses log.events log.keys lived.layout lived.stands in
      let last = names_newest key held buses log.events log.keys lived.stands in
      s.apart (number_in key (log.keys ++ Some key ∷ [])) (length w.connections + 1) key
      (number_there (length w.connections + 1) key (log.keys ++ Some key ∷ []) last) last

  -- no connection had the key that was free, and fewer than the most have one
  pub was_fresh : (key : ℕ) → at held key ≡ None → number_in key log.keys ≡ 0
  was_fresh key free = by (number_of_key key log.keys)
    where
      by : (number_in key log.keys ≡ 0) ⊎ (key_of (number_in key log.keys) log.keys ≡ Some key) → number_in key log.keys ≡ 0
      by (inl none) = none
      by (inr named) =
          let there = there_agrees key held buses log.events log.keys (number_in key log.keys) lived.layout named lived.stands in
          absurd (false≢true (ap is_some (sym free) ∙ there))

  pub few_keys : open_count held < 64 → count_by is_some log.keys < 64
  few_keys few = omega (arith, few, counts_open held buses log.events log.keys lived.stands)

  -- a key that no connection has is free
  pub no_key : (key : ℕ) → number_in key log.keys ≡ 0 → at held key ≡ None
  no_key key none = by _ refl
    where
      by : (o : Option Place) → at held key ≡ o → o ≡ None
      by None e = refl
      by (Some p) e =
          let owner = lived.stands.owned key p e in
          let there = number_there owner.number key log.keys owner.named in
          let bad : None ≡ Some key = rw none at there in cc

  -- ---- the connection of a key

  abbrev n_of : ℕ → ℕ
  n_of key = number_in key log.keys

  pub lent_there : (key count : ℕ) → 0 < count → count ≤ length (lent buses w (n_of key)) → key_of (n_of key) log.keys ≡ Some key
  lent_there key count some few = by (number_of_key key log.keys)
    where
      by : (n_of key ≡ 0) ⊎ (key_of (n_of key) log.keys ≡ Some key) → key_of (n_of key) log.keys ≡ Some key
      by (inl none) =
          let nothing : lent buses w (n_of key) ≡ [] = rw none refl in
          absurd (omega (arith, some, few, ap length nothing))
      by (inr named) = named

  pub lent_unsent : (key : ℕ) → key_of (n_of key) log.keys ≡ Some key → unsent_at key held ≡ lent buses w (n_of key)
  lent_unsent key named = lent_is buses lived.layout log.events log.keys (n_of key) key named held lived.stands

  pub lent_open : (key : ℕ) → key_of (n_of key) log.keys ≡ Some key → IsSome (at held key)
  lent_open key named = there_agrees key held buses log.events log.keys (n_of key) lived.layout named lived.stands

  pub lived_sent : (key count : ℕ) (new : Held) (later : Log) → 0 < count → count ≤ length (lent buses w (n_of key))
      → new ≡ changed_at key (without_sent count) held → later ≡ record log { events = log.events ++ Room (n_of key) count ∷ [] }
      → HasLived new.buses new later
  lived_sent key count new later some few is goes =
      let named = lent_there key count some few in
      let most : count ≤ length (unsent_at key held) = rw (lent_unsent key named) few in
      rw (is, goes)
      (goes_on (Room (n_of key) count) (changed_at key (without_sent count) held) _ refl lived.read tt
      (sent_leads key count held (changed_at key (without_sent count) held) most refl some buses log.events log.keys (n_of key)
      lived.layout named lived.stands) refl)

  -- ---- an event that the course refuses

  pub lived_refused : (event : Event) (cause : CoreFault) (later : Log) → HasMoment event → fault buses (counted w) event ≡ Some cause
      → denied_in buses held.denied (counted w) event ≡ held.denied
      → later ≡ record log { events = log.events ++ event ∷ [] }
      → HasLived held.buses held later
  lived_refused event cause later moment refuses same goes =
      rw goes
      (goes_on event held _ refl lived.read moment
      (runs_on buses log.events event (Some cause) (length log.events + 1) (telling log.keys w) held refl
      (refuses, runs_counted buses (telling log.keys w) held w (runs_telling buses log.keys held w lived.stands))).stands (sym same))

  pub refuses_is : (cause : CoreFault) (new : Held) → IsNotAdmitted cause held new → fault buses w (Open (answer_at cause)) ≡ Some cause
  refuses_is Full new is = full_fault buses log.keys held w lived.stands is.0 true
  refuses_is MemoryFault new is = refuses_agrees MemoryFault held new is buses log.events log.keys lived.layout lived.stands
  refuses_is other new is = absurd is

  pub lived_not_opened : (cause : CoreFault) (granted : Bool) (new : Held) (later : Log) → granted ≡ answer_at cause
      → IsNotAdmitted cause held new → later ≡ record log { events = log.events ++ Open granted ∷ [] } → HasLived new.buses new later
  lived_not_opened Full granted new later answer is goes =
      rw is.1
      (lived_refused (Open true) Full later tt (full_fault buses log.keys held w lived.stands is.0 true) refl
      (goes ∙ ap (λ (g : Bool). record log { events = log.events ++ Open g ∷ [] }) answer))
  lived_not_opened MemoryFault granted new later answer is goes =
      rw (goes, answer)
      (goes_on (Open false) new _ refl lived.read tt
      (not_open_leads MemoryFault held new is buses log.events log.keys lived.layout lived.stands) counts)
    where
      counts : new.denied ≡ denied_in buses held.denied (counted w) (Open false)
      counts =
          let free = free_room buses log.keys held w lived.stands is.0 in
          let more = ap (λ (h : Held). h.denied) is.1 in
          cc
  lived_not_opened other granted new later answer is goes = absurd is

  -- ---- what is held of the connection of a key says what the course says

  abbrev Named : ℕ → Type 0
  Named key = (n_of key ≡ 0) ⊎ (key_of (n_of key) log.keys ≡ Some key)

  pub fault_is : (key : ℕ) (piece : Piece) → bytes_fault key piece.bytes held ≡ fault buses w (Bytes (n_of key) piece)
  fault_is key piece = by (number_of_key key log.keys)
    where
      by : Named key → bytes_fault key piece.bytes held ≡ fault buses w (Bytes (n_of key) piece)
      by (inl none) = rw (no_key key none, none) refl
      by (inr named) = bytes_agree key piece held buses log.events log.keys (n_of key) lived.layout named lived.stands

  pub closes_is : (key : ℕ) → is_last (finish_at key held) ≡ closes buses w (n_of key)
  closes_is key = by (number_of_key key log.keys)
    where
      by : Named key → is_last (finish_at key held) ≡ closes buses w (n_of key)
      by (inl none) = rw (no_key key none, none) refl
      by (inr named) = closes_agrees key held buses log.events log.keys (n_of key) lived.layout named lived.stands

  pub slack_is : least (map slack_at held.places) ≡ slack buses w
  slack_is = slack_agrees held buses log.events log.keys lived.layout lived.stands

  pub due_is : (first : Option ℕ) → IsEarliestDue first held.rows → first ≡ due_next buses w
  due_is first earliest = due_agrees first held earliest buses log.events log.keys lived.layout lived.stands

  -- the key has a connection exactly if the course has one of its number that is open
  pub there_is : {X : Type 0} (key : ℕ) (result : Result X CoreFault)
      → MatchResult result (λ _. IsSome (at held key)) (λ cause. (cause ≡ NoSuch) × (at held key ≡ None))
      → MatchResult result (λ _. absent_fault buses (open_connection w (n_of key)) ≡ None)
      (λ cause. absent_fault buses (open_connection w (n_of key)) ≡ Some cause)
  there_is {X = X} key result is = by result (number_of_key key log.keys) is
    where
      found : key_of (n_of key) log.keys ≡ Some key → Found buses (λ n fed. fed) held w (n_of key) key
      found named = found_at buses (λ n fed. fed) log.keys held w (n_of key) key lived.stands named

      by : (r : Result X CoreFault) → Named key
          → MatchResult r (λ _. IsSome (at held key)) (λ cause. (cause ≡ NoSuch) × (at held key ≡ None))
          → MatchResult r (λ _. absent_fault buses (open_connection w (n_of key)) ≡ None)
          (λ cause. absent_fault buses (open_connection w (n_of key)) ≡ Some cause)
      by (Ok value) (inl none) h = cc (no_key key none)
      by (Ok value) (inr named) h = rw (found named).opened refl
      by (Err cause) (inl none) h = rw none (ap Some (sym h.0))
      by (Err cause) (inr named) h = absurd (none-some _ (sym h.1 ∙ (found named).place))

  -- ---- a connection is shut, and bytes are lent

  pub lived_shut : (key : ℕ) (new : Held) (later : Log) → new ≡ hung_up key held → later ≡ record log {
    events = log.events ++ Shut (n_of key) ∷ [];
    keys = without_key (n_of key) log.keys;
  }
      → HasLived new.buses new later
  lived_shut key new later is goes = by (number_of_key key log.keys)
    where
      by : Named key → HasLived new.buses new later
      by (inl none) =
          let gone : new ≡ held = is ∙ ap (hung_up_from key held) (no_key key none) in
          rw gone (lived_refused (Shut 0) NoSuch later tt refl refl (goes ∙ ap (λ n. record log {
            events = log.events ++ Shut n ∷ [];
            keys = without_key n log.keys;
          }) none))
      by (inr named) =
          rw goes
          (goes_on (Shut (n_of key)) new _ refl lived.read tt
          (shut_leads key held new is buses log.events log.keys (n_of key) lived.layout named lived.stands)
          (shut_count key held new is))

  pub lived_out : (key : ℕ) (new : Held) (later : Log) → new ≡ let_out key held
      → later ≡ record log { events = log.events ++ Room (n_of key) 0 ∷ [] }
      → HasLived new.buses new later
  lived_out key new later is goes = by (number_of_key key log.keys)
    where
      by : Named key → HasLived new.buses new later
      by (inl none) =
          let gone : new ≡ held = rw (no_key key none) at is in
          rw gone (lived_refused (Room 0 0) NoSuch later tt refl refl
          (goes ∙ ap (λ n. record log { events = log.events ++ Room n 0 ∷ [] }) none))
      by (inr named) =
          rw (is, goes)
          (goes_on (Room (n_of key) 0) (let_out key held) _ refl lived.read tt
          (out_stands key held buses log.events log.keys (n_of key) lived.layout named lived.stands) refl)

  pub open_named : (key : ℕ) → IsSome (at held key) → key_of (n_of key) log.keys ≡ Some key
  open_named key some = by (number_of_key key log.keys)
    where
      by : Named key → key_of (n_of key) log.keys ≡ Some key
      by (inl none) = let bad : IsSome (at held key) = some in cc (no_key key none)
      by (inr named) = named

  -- a connection is there if the next line could be put in
  pub filled_there : (key : ℕ) (r : Result Bool CoreFault) → IsErr r ↔ (at held key ≡ None) → IfErr r (λ cause. cause ≡ NoSuch)
      → MatchResult r (λ _. IsSome (at held key)) (λ cause. (cause ≡ NoSuch) × (at held key ≡ None))
  filled_there key (Ok some) gone is = by _ refl
    where
      by : (o : Option Place) → at held key ≡ o → IsSome (at held key)
      by None e = let bad : false ≡ true = gone.1 e in cc
      by (Some p) e = rw e refl
  filled_there key (Err cause) gone is = (is, gone.0 refl)

  pub lent_out : (key : ℕ) (new : Held) → IsSome (at held key) → new ≡ let_out key held
      → unsent_at key new ≡ lent buses (course buses (log.events ++ Room (n_of key) 0 ∷ [])) (n_of key)
  lent_out key new some is =
      ap (unsent_at key) is
      ∙ lends_agrees key held buses log.events log.keys (n_of key) lived.layout (open_named key some) lived.stands

  -- once all replies are taken, one line at most
  pub line_out : (key : ℕ) (new : Held) → IsSome (at held key) → new ≡ let_out key held
      → replies_taken buses w (n_of key) ≡ true → length (unsent_at key new) ≤ 126
  line_out key new some is taken =
      rw is
      (line_agrees key held buses log.events log.keys (n_of key) lived.layout (open_named key some) lived.stands lived.moments taken)

  -- ---- a piece is read

  -- the lines up to an offset in the piece were answered, and memory answered so
  pub record IsReadTo (key : ℕ) (piece : List ℕ) (begun : ℕ) (now : Held) (later : Log) : Type 0 where
    pub few : length piece ≤ 256
    pub fits : AnswersFit key piece begun now
    pub same : later ≡ record log { grants = later.grants }
    pub counted : now.denied ≡ denied_by held.denied later.grants
    pub is : IsRead (n_of key) key piece later.grants (telling log.keys w) held (begun, now)

  read_first : (key : ℕ) (piece : List ℕ) → bytes_fault key piece held ≡ None → key_of (n_of key) log.keys ≡ Some key
      → IsReadTo key piece 0 held log
  read_first key piece free named =
      let fit = bytes_fit key piece held free in
      record {
        few = fit.0;
        fits = fit.1;
        same = refl;
        counted = rw lived.read refl;
        is = rw lived.read (record {
          told = telling log.keys w;
          keys = refl;
          reads = reads_with_none (n_of key) key piece (telling log.keys w) held named free;
        });
      }

  -- a piece that is accepted is of a connection
  pub read_none : (key : ℕ) (piece : List ℕ) → bytes_fault key piece held ≡ None → IsReadTo key piece 0 held log
  read_none key piece free = read_first key piece free (open_named key (by _ refl))
    where
      by : (o : Option Place) → at held key ≡ o → IsSome (at held key)
      by None e = let bad : Some NoSuch ≡ None = rw e at free in cc
      by (Some p) e = rw e refl

  pub read_line : (key : ℕ) (piece : List ℕ) (begun stop : ℕ) (did : LineRecord) (now new : Held) (later last : Log)
      → IsLineAnswered key piece begun stop did now new → last ≡ record later { grants = later.grants ++ did.granted ∷ [] }
      → IsReadTo key piece begun now later → IsReadTo key piece stop new last
  read_line key piece begun stop did now new later last line goes i =
      let steps = steps_of_line did.granted (next_request_at key piece begun now) in
      rw goes
      (record {
        few = i.few;
        fits = line.fits;
        same = ap (λ (l : Log). record l { grants = later.grants ++ did.granted ∷ [] }) i.same;
        counted =
            counted_more held.denied now.denied new.denied later.grants did.granted i.counted line.counted;
        is = record {
          told = noted (n_of key) steps i.is.told;
          keys = noted_keys (n_of key) steps i.is.told ∙ i.is.keys;
          reads =
              reads_with_more later.grants (n_of key) key piece (telling log.keys w) held begun stop did.granted steps i.is.told now new
              line.onward line.is refl i.is.reads;
        };
      })

  module _ (key : ℕ) (piece : List ℕ) (begun : ℕ) (now new : Held) (later last : Log)
      (is : ◌≡◌ {A = Option (ℕ × Request) × Held} (None, new) (next_request_at key piece begun now))
      (i : IsReadTo key piece begun now later)
      (goes : last ≡ record later {
        events = later.events ++ Bytes (number_in key later.keys) (record { bytes = piece; grants = later.grants }) ∷ [];
        grants = [];
      }) where
    abbrev p : Piece
    p = record { bytes = piece; grants = later.grants }

    events : later.events ≡ log.events
    events = ap (λ (l : Log). l.events) i.same

    keys : later.keys ≡ log.keys
    keys = ap (λ (l : Log). l.keys) i.same

    told : later.events ++ Bytes (number_in key later.keys) p ∷ [] ≡ log.events ++ Bytes (n_of key) p ∷ []
    told = rw (events, keys) refl

    read_by : HasLived buses new last
    read_by =
        let r = telling log.keys w in
        let runs = runs_telling buses log.keys held w lived.stands in
        let h =
        bytes_with later.grants (n_of key) key piece r held begun i.is.told now new is i.is.reads buses log.events lived.layout runs in
        rw goes
        (goes_by (Bytes (n_of key) p) new _ told refl tt
        (subst (λ ks. StandsFor buses ks new (course buses (log.events ++ Bytes (n_of key) p ∷ []))) (i.is.keys ∙ sym keys)
        (runs_on buses log.events (Bytes (n_of key) p) None (length log.events + 1) i.is.told new refl h).stands)
        (bytes_asked later.grants (n_of key) key piece r held begun i.is.told now new is i.is.reads buses log.events lived.layout runs))

    pub lived_read : HasLived new.buses new last
    lived_read = own new last read_by

    pub read_counted : new.denied ≡ denied_by held.denied later.grants
    read_counted =
        ap (λ (x : Option (ℕ × Request) × Held). x.1.denied) is ∙ next_request_denied key piece begun now (at now key) ∙ i.counted

    pub read_is : ◌≡◌ {A = Past} (record { buses = new.buses; events = last.events; keys = last.keys })
        (happened (Bytes (n_of key) p) (record { buses = buses; events = log.events; keys = log.keys }))
    read_is = rw (goes, read_by.stands.layout, told, keys) refl

  -- a piece is refused
  pub lived_unread : (key : ℕ) (piece : List ℕ) (cause : CoreFault) (later : Log)
      → fault buses w (Bytes (n_of key) (giving piece)) ≡ Some cause
      → later ≡ record log {
        events = log.events ++ Bytes (n_of key) (record { bytes = piece; grants = log.grants }) ∷ [];
        grants = [];
      }
      → HasLived held.buses held later
  lived_unread key piece cause later refuses goes =
      lived_refused (Bytes (n_of key) (giving piece)) cause later tt refuses
      (denied_in_none buses (counted w) held.denied (plain.Bytes (n_of key) piece))
      (goes ∙ ap (λ (gs : List Bool). record log {
        events = log.events ++ Bytes (n_of key) (record { bytes = piece; grants = gs }) ∷ [];
        grants = [];
      }) lived.read
      ∙ ap (λ (gs : List Bool). record log { events = log.events ++ Bytes (n_of key) (giving piece) ∷ []; grants = gs }) (sym lived.read))
