-- A run over one more event.
use Rattle.srcp_core.proofs.Names.{cond_both, ◌≡◌, ◌≢◌, ℕ, zero, suc, max, ◌-◌, ◌<◌, ◌≤◌, Bool, true, false, List, [], ◌∷◌, ◌++◌, take}
use Rattle.srcp_core.proofs.Names.{length, refl, ap, sym, ◌∙◌, subst, arith, append-nil, ◌⊎◌, Option, Some, None, ◌||◌, ◌==◌}
use Rattle.srcp_core.proofs.Names.{slice_get, if◌then◌else◌, map-append, none-some, pos_of_ne-zero, Bus, IsLayout, opening}
use Rattle.srcp_core.proofs.Names.{shown_rows, Next, Told, Listed, Settled, Event, Open, Room, Shut, Ended, under, Connection, World}
use Rattle.srcp_core.proofs.Names.{numbered, at_connection, open_connection, did, history, counted, fault, accepted, shut_as, course, Place}
use Rattle.srcp_core.proofs.Names.{Held, at, open_count, IsAdmitted, IsNotAdmitted, one_denied, hung_up, hung_up_from, advanced}
use Rattle.srcp_core.proofs.Names.{live_session, let_out, without_sent, changed_at, unsent_at, item_of, item_at, Recording, key_of, shut}
use Rattle.srcp_core.proofs.Names.{stepped, gave, without_key, changed_record, Records, Runs, Happened, count_at, denied_by, denied_in}
use Rattle.srcp_core.proofs.Names.{taken_at, taking, StandsFor, ConnRecord, CoreFault, Full, NoSuch, if_two, cases_lt, ⊎_elim}
use Rattle.std.proofs.Math.Nat.{zero-min}
use Rattle.srcp_core.specs.declared.event.Event.{Event as PlainEvent}
use Rattle.srcp_core.specs.declared.event.Event.TheVariants as plain
use Rattle.srcp_core.specs.declared.record.Step.TheVariants as recorded
use Rattle.srcp_core.specs.Machine.{changed_in as changed_places_in}
use Rattle.srcp_core.specs.Run.{Answers}
use Rattle.srcp_core.specs.Recording.{opened, with_sent}
use Rattle.srcp_core.specs.declared.record.CoreFault.TheVariants.{Memory as MemoryFault}
use Rattle.srcp_core.specs.declared.record.Finish.TheVariants.{Shut as ShutFinish}
use Rattle.srcp_core.proofs.Agreement.LinesAgree.{IsFine}
use Rattle.srcp_core.proofs.Agreement.EventsAgree.{absent_at, full_fault, free_room, free_fault, stands_counted, stands_advanced}
use Rattle.srcp_core.proofs.Agreement.EventsAgree.{stands_opened, stands_hung_up}
use Rattle.srcp_core.proofs.Agreement.RefusalsAreCounted.{denied_in_none}
use Rattle.srcp_core.proofs.Agreement.LinesAreNoted.{changed_in, tells_did, tells_changed}
use Rattle.srcp_core.proofs.CourseLaws.SessionsOfACourse.{anything, at_number, opening_in_order}
use Rattle.srcp_core.proofs.Agreement.StandsAfterAChange.{stands_as, Anything, Fine, AllFine, found_at}
use Rattle.srcp_core.proofs.Agreement.RoomsAgree.{Kept, IsRooming, room_goes_on, room_taken, room_empty}
use Rattle.srcp_core.proofs.CourseLaws.SessionsAreKept.{sound}
use Rattle.std.proofs.lemmas.List.{set-get_or}
use Rattle.std.proofs.lemmas.Option.{get_or_from_slice_get}

-- every course has sound connections
pub fine_course : (buses : List Bus) (layout : IsLayout buses) (events : List Event)
    → IsFine buses (opening_in_order buses layout) (counted (course buses events))
fine_course buses layout events = sound buses (opening_in_order buses layout) Anything (anything (shown_rows (opening buses 0))) events

pub runs_counted : (buses : List Bus) (r : Recording) (held : Held) (w : World) → Runs buses r held w → Runs buses r held (counted w)
runs_counted buses r held w s = record {
  stands = stands_counted buses r.keys held w s.stands;
  records = let t = s.records in record { steps = t.steps; refused = t.refused; connections = t.connections };
}

-- what was refused in the event is what was asked for in the course, whatever the events were before
abbrev pub CountsAsked : Recording → Held → Held → Event → Type 0
CountsAsked r held later event =
    (buses : List Bus) (events : List Event) → IsLayout buses → Runs buses r held (course buses events)
    → later.denied ≡ denied_in buses held.denied (counted (course buses events)) event

-- the event is carried out or refused as it is in the course
abbrev pub HappensAs : PlainEvent → Option CoreFault → Recording → Held → Recording → Held → Type 0
HappensAs event refusal r held later_r later =
    Answers event r held later
    (λ buses events under_grants. Happened buses under_grants refusal later_r later (counted (course buses events)))

-- the same by its parts
pub happens_by : (event : PlainEvent) (refusal : Option CoreFault) (r : Recording) (held : Held) (later_r : Recording) (later : Held)
    (grants : List Bool)
    → later.denied ≡ denied_by held.denied grants → CountsAsked r held later (under grants event)
    → ((buses : List Bus) (events : List Event) → IsLayout buses → Runs buses r held (course buses events)
    → Happened buses (under grants event) refusal later_r later (counted (course buses events)))
    → HappensAs event refusal r held later_r later
happens_by event refusal r held later_r later grants counted asked happens = record {
  grants = grants;
  counted = counted;
  each = λ buses events layout s. (asked buses events layout s, happens buses events layout s);
}

-- the same of recordings and cores that are the same
pub told_as : (event : PlainEvent) (refusal : Option CoreFault) (r : Recording) (held : Held) (x y : Recording) (later new : Held) → y ≡ x
    → new ≡ later → HappensAs event refusal r held x later → HappensAs event refusal r held y new
told_as event refusal r held x y later new e f h = rw f (rw e h)

-- nothing is asked for where the count stays
pub none_asked : (event : PlainEvent) (r : Recording) (held later : Held) → later.denied ≡ held.denied
    → CountsAsked r held later (under [] event)
none_asked event r held later same buses events layout s =
    same ∙ sym (denied_in_none buses (counted (course buses events)) held.denied event)

-- ---- a connection is opened

pub open_with : (key : ℕ) (r : Recording) (old new : Held) → IsAdmitted key old new
    → (buses : List Bus) (events : List Event) → IsLayout buses → Runs buses r old (course buses events)
    → Happened buses (Open true) None (opened key r) new (counted (course buses events))
open_with key r old new a buses events layout s =
    let w = counted _ in
    let c = runs_counted buses r old _ s in (
      free_fault buses r.keys old w c.stands a.few true,
      record {
        stands = stands_opened buses r.keys key old new w a c.stands;
        records = record {
          steps = s.records.steps;
          refused = s.records.refused;
          connections = cc (s.records.connections, map-append _ _ _);
        };
      },
    )

pub open_happens : (key : ℕ) (r : Recording) (old new : Held) → IsAdmitted key old new → HappensAs plain.Open None r old (opened key r) new
open_happens key r old new a =
    happens_by plain.Open None r old (opened key r) new [] (cc a.rest)
    (none_asked plain.Open r old new (cc a.rest))
    (open_with key r old new a)

-- an event that the course refuses, and that asks for no memory, changes nothing
pub refused_happens : (event : PlainEvent) (cause : CoreFault) (r : Recording) (held : Held)
    → ((buses : List Bus) (events : List Event) → IsLayout buses → StandsFor buses r.keys held (counted (course buses events))
    → fault buses (counted (course buses events)) (under [] event) ≡ Some cause)
    → HappensAs event (Some cause) r held r held
refused_happens event cause r held why =
    happens_by event (Some cause) r held r held [] refl
    (none_asked event r held held refl)
    (λ buses events layout s. let c = runs_counted buses r held _ s in (why buses events layout c.stands, c))

-- memory was refused
pub memory_with : (r : Recording) (old new : Held) → open_count old < 64 → new ≡ one_denied old
    → (buses : List Bus) (events : List Event) → IsLayout buses → Runs buses r old (course buses events)
    → Happened buses (Open false) (Some MemoryFault) r new (counted (course buses events))
memory_with r old new room same buses events layout s =
    let w = counted _ in
    let c = runs_counted buses r old _ s in (
      free_fault buses r.keys old w c.stands room false,
      rw same (record {
        stands = stands_as buses (λ n fed. fed) r.keys old w _ _ _ _ _ _ _ c.stands.moment c.stands.last_id c.stands;
        records = c.records;
      }),
    )

pub memory_happens : (r : Recording) (old new : Held) → open_count old < 64 → new ≡ one_denied old
    → HappensAs plain.Open (Some MemoryFault) r old r new
memory_happens r old new room same =
    happens_by plain.Open (Some MemoryFault) r old r new (false ∷ []) (cc)
    (λ buses events layout s.
    let w = counted _ in
    cc (free_room buses r.keys old w (runs_counted buses r old _ s).stands room))
    (memory_with r old new room same)

-- no connection was opened
pub open_refused : (r : Recording) (old new : Held) (cause : CoreFault) → IsNotAdmitted cause old new
    → HappensAs plain.Open (Some cause) r old r new
open_refused r old new Full is =
    rw is.1
    (refused_happens _ Full r old
    (λ buses events layout s. full_fault buses r.keys old _ s is.0 true))
open_refused r old new MemoryFault is = memory_happens r old new is.0 is.1
open_refused r old new other is = absurd is

-- ---- a moment

pub at_happens : (moment : ℕ) (r : Recording) (old new : Held) (now : ℕ) → new ≡ advanced moment old → now ≡ new.moment
    → HappensAs (plain.At moment) None r old (stepped (recorded.Moment now ∷ []) r) new
at_happens moment r old new now is now_is =
    happens_by (plain.At moment) None r old (stepped (recorded.Moment now ∷ []) r) new [] (cc)
    (none_asked (plain.At moment) r old new (cc))
    (λ buses events layout s.
    let w = counted _ in
    let c = runs_counted buses r old _ s in
    let fine : AllFine buses w =
    λ n conn e. at_number (Fine buses (history buses w)) n _ conn (fine_course buses layout events) e in
    let same : now ≡ max w.moment moment = cc c.stands.moment in (
      refl,
      record {
        stands = rw is (stands_advanced buses r.keys old w moment fine c.stands);
        records = record {
          steps = cc (c.records.steps, map-append _ w.steps _);
          refused = c.records.refused;
          connections = c.records.connections;
        };
      },
    ))

-- ---- a number that no open connection has

pub absent_happens : (event : PlainEvent) (n : ℕ) (r : Recording) (held : Held)
    → ((buses : List Bus) (w : World) → open_connection w n ≡ None → fault buses w (under [] event) ≡ Some NoSuch)
    → key_of n r.keys ≡ None → HappensAs event (Some NoSuch) r held r held
absent_happens event n r held refuses none = refused_happens event NoSuch r held
    (λ buses events layout s. refuses buses (counted (course buses events)) (absent_at buses (λ n fed. fed) r.keys held _ n s none))

-- ---- a connection is shut

-- what is noted of a session that a hang-up ends
abbrev pub with_end : Option ℕ → ℕ → Recording → Recording
with_end None moment r = r
with_end (Some session) moment r = stepped (recorded.Ended session moment ∷ []) r

hung_up_keeps : (key : ℕ) (held : Held) (o : Option Place)
    → ((hung_up_from key held o).moment ≡ held.moment) × ((hung_up_from key held o).denied ≡ held.denied)
hung_up_keeps key held None = (refl, refl)
hung_up_keeps key held (Some p) =
    cond_both _ _ _ (λ (it : Held). (it.moment ≡ held.moment) × (it.denied ≡ held.denied)) (λ _. (refl, refl)) (λ _. (refl, refl))

pub shut_count : (key : ℕ) (old new : Held) → new ≡ hung_up key old → new.denied ≡ old.denied
shut_count key old new is = cc (hung_up_keeps key old (at old key)).1

-- a number that has a key has a place there
pub gone_happens : (event : PlainEvent) (refusal : Option CoreFault) (n key : ℕ) (r : Recording) (held : Held) (later_r : Recording)
    (later : Held)
    → key_of n r.keys ≡ Some key → at held key ≡ None → later.denied ≡ held.denied → HappensAs event refusal r held later_r later
gone_happens event refusal n key r held later_r later named gone same =
    happens_by event refusal r held later_r later [] same
    (none_asked _ r held later (same))
    (λ buses events layout s.
    let h = found_at buses (λ n fed. fed) r.keys held _ n key s.stands named in
    absurd (none-some _ (sym gone ∙ h.place)))

pub shut_keys : (n : ℕ) (o : Option ℕ) (m : ℕ) (r : Recording) → (with_end o m (shut n r)).keys ≡ without_key n r.keys
shut_keys n None m r = refl
shut_keys n (Some session) m r = refl

pub shut_happens : (n key : ℕ) (r : Recording) (old new : Held) (now : ℕ) → key_of n r.keys ≡ Some key → new ≡ hung_up key old
    → now ≡ new.moment → HappensAs (plain.Shut n) None r old (with_end (live_session key old) now (shut n r)) new
shut_happens n key r old new now named is now_is =
    happens_by (plain.Shut n) None r old (with_end (live_session key old) now (shut n r)) new [] (shut_count key old new is)
    (none_asked (plain.Shut n) r old new (shut_count key old new is))
    (λ buses events layout s.
    let w = counted (course buses events) in
    let c = runs_counted buses r old (course buses events) s in
    let h = found_at buses (λ n fed. fed) r.keys old w n key c.stands named in
    let order = opening_in_order buses layout in
    let stands =
    subst (λ (x : Held). StandsFor buses (without_key n r.keys) x (accepted buses (Shut n) w)) (sym is)
    (stands_hung_up buses order r.keys old w n key (fine_course buses layout events) c.stands named) in
    let told = shut_told buses w h.conn h.there (cc ((hung_up_keeps key old (at old key)).0, c.stands.moment)) c.records in
    let live : live_session key old ≡ (if (h.conn.session == 0) || h.conn.ended then None else Some h.conn.session) = cc h.place in
    let tells : Records (with_end (live_session key old) now (shut n r)) (accepted buses (Shut n) w) =
    rw live
    (rw h.opened told) in (
      cc h.opened,
      record {
        stands = rw (shut_keys n (live_session key old) now r) stands;
        records = tells;
      },
    ))
  where
    shut_told : (buses : List Bus) (w : World) (conn : Connection) → numbered n w.connections ≡ Some conn → now ≡ w.moment → Records r w
        → Records (with_end (if (conn.session == 0) || conn.ended then None else Some conn.session) now (shut n r))
        (shut_as buses n (Some conn) w)
    shut_told buses w conn there m t =
        if_two (λ o v. Records (with_end o now (shut n r)) v) ((conn.session == 0) || conn.ended) None (Some conn.session) closed
        (did (Ended conn.session w.moment) closed) all (rw m (tells_did _ closed _ all))
      where
        closed : World
        closed = at_connection n (λ c. record c { shut = Some (length w.steps) }) w

        all : Records (shut n r) closed
        all =
            tells_changed _ w n conn (λ c. record c { shut = Some (length w.steps) })
            (λ told. record told { finish = ShutFinish }) there refl
            (record { steps = t.steps; refused = t.refused; connections = t.connections })

-- ---- room

pub record IsGiving (n key bytes : ℕ) (first_r : Recording) (left : ℕ) (r : Recording) (held : Held) (buses : List Bus)
    (layout : IsLayout buses) (w : World) : Type 0 where
  pub named : key_of n first_r.keys ≡ Some key
  pub free : fault buses w (Room n bytes) ≡ None
  pub keys : r.keys ≡ first_r.keys
  pub rooming : IsRooming buses layout (opening_in_order buses layout) first_r.keys n key named w bytes left r held

abbrev pub GivesOn : ℕ → ℕ → ℕ → Recording → Held → ℕ → Recording → Held → Type 0
GivesOn n key bytes first_r first left r held =
    (buses : List Bus) (events : List Event) (layout : IsLayout buses) → Runs buses first_r first (course buses events)
    → IsGiving n key bytes first_r left r held buses layout (counted (course buses events))

pub gives_first : (n key bytes : ℕ) (r : Recording) (held : Held) → key_of n r.keys ≡ Some key → GivesOn n key bytes r held bytes r held
gives_first n key bytes r held named buses events layout s =
    let w = counted _ in
    let c = runs_counted buses r held _ s in
    let h = found_at buses (λ n fed. fed) r.keys held w n key c.stands named in
    record {
      named = named;
      free = cc h.opened;
      keys = refl;
      rooming = record {
        now = w;
        kept = record { fine = fine_course buses layout events; stands = c.stands; records = c.records };
        to_come = refl;
      };
    }

pub taking_keys : (n key most : ℕ) (held : Held) (r : Recording) → (taking n key most held r).keys ≡ r.keys
taking_keys n key most held r = by _
  where
    by : (item : Option Next) → (gave n item r).keys ≡ r.keys
    by None = refl
    by (Some (Told change)) = refl
    by (Some (Listed row)) = refl
    by (Some Settled) = refl

pub gives_more : (n key bytes : ℕ) (first_r : Recording) (first : Held) (left : ℕ) (r : Recording) (held : Held)
    → 0 < count_at key left held → 0 < left - count_at key left held
    → GivesOn n key bytes first_r first left r held
    → GivesOn n key bytes first_r first (left - count_at key left held) (taking n key left held r) (taken_at key left held)
gives_more n key bytes first_r first left r held some more gives buses events layout s =
    let i = gives buses events layout s in
    let w = counted (course buses events) in
    let less : count_at key left held < left = omega arith in
    record {
      named = i.named;
      free = i.free;
      keys = taking_keys n key left held r ∙ i.keys;
      rooming =
          room_goes_on buses layout (opening_in_order buses layout) first_r.keys n key i.named w bytes left r held i.rooming some less;
    }

pub gives_as : (n key bytes : ℕ) (first_r : Recording) (first : Held) (left : ℕ) (r : Recording) (held : Held) (count : ℕ)
    (later_r : Recording) (later : Held)
    → count ≡ count_at key left held → later_r ≡ taking n key left held r → later ≡ taken_at key left held
    → left - count ≢ 0 → count ≢ 0 → GivesOn n key bytes first_r first left r held
    → GivesOn n key bytes first_r first (left - count) later_r later
gives_as n key bytes first_r first left r held count later_r later e f h more some gives =
    let a : 0 < count = pos_of_ne-zero some in
    let b : 0 < left - count = pos_of_ne-zero more in
    rw e
    (rw f
    (rw h
    (gives_more n key bytes first_r first left r held (rw (← e) a) (rw (← e) b) gives)))

pub room_happens : (n key bytes : ℕ) (first_r : Recording) (first : Held) (left : ℕ) (r : Recording) (held : Held)
    → (left - count_at key left held ≡ 0) ⊎ (count_at key left held ≡ 0)
    → held.denied ≡ first.denied → GivesOn n key bytes first_r first left r held
    → HappensAs (plain.Room n bytes) None first_r first (taking n key left held r) (taken_at key left held)
room_happens n key bytes first_r first left r held ends same gives =
    happens_by (plain.Room n bytes) None first_r first (taking n key left held r) (taken_at key left held) [] same
    (none_asked (plain.Room n bytes) first_r first (taken_at key left held) (same))
    (λ buses events layout s.
    let i = gives buses events layout s in
    let w = counted (course buses events) in
    let order = opening_in_order buses layout in
    let k : Kept buses layout order first_r.keys n key i.named (taking n key left held r) (taken_at key left held)
    (accepted buses (Room n bytes) w) =
    ⊎_elim
    (λ none. ⊎_elim
    (λ some. room_taken buses layout order first_r.keys n key i.named w bytes left r held i.rooming some
    (let most : count_at key left held ≤ left = omega arith in omega (arith, none, most)))
    (λ low. room_empty buses layout order first_r.keys n key i.named w bytes left r held i.rooming (omega (arith, low)))
    (cases_lt 0 (count_at key left held)))
    (λ none. room_empty buses layout order first_r.keys n key i.named w bytes left r held i.rooming none) ends in (
      i.free,
      record {
        stands = rw (taking_keys n key left held r ∙ i.keys) k.stands;
        records = k.records;
      },
    ))

-- ---- where there is no such connection

changed_same : (n : ℕ) (f : ConnRecord → ConnRecord) → ((told : ConnRecord) → f told ≡ told) → (tolds : List ConnRecord)
    → changed_record n f tolds ≡ tolds
changed_same zero f law tolds = refl
changed_same (suc n) f law tolds = by _ refl
  where
    by : (o : Option ConnRecord) → slice_get tolds n ≡ o → changed_in n f tolds o ≡ tolds
    by None e = refl
    by (Some told) e = rw (law told) (rw (get_or_from_slice_get tolds n told told e) at (set-get_or tolds n told))

pub taking_none : (n key most : ℕ) (held : Held) (r : Recording) → at held key ≡ None
    → (taking n key most held r ≡ r) × ((taken_at key most held ≡ held) × (count_at key most held ≡ 0))
taking_none n key most held r e =
    let gone : let_out key held ≡ held = cc in
    let bytes : unsent_at key (let_out key held) ≡ [] = cc in
    let none : count_at key most held ≡ 0 = cc (zero-min most) in (
      ap (λ k. with_sent n (take k (unsent_at key (let_out key held))) (gave n (item_at key held) r)) none
          ∙ ap (λ (o : Option Place). with_sent n [] (gave n (item_of (shown_rows held.rows) o) r)) e
          ∙ ap (λ tolds. record r { connections = tolds })
          (changed_same n (λ told. record told { sent = told.sent ++ [] })
          (λ told. ap (λ bytes. record told { sent = bytes }) (append-nil _)) _),
      (
        ap (λ (x : Held). changed_at key (without_sent (count_at key most held)) x) gone
            ∙ ap (λ (o : Option Place).
            record held { places = changed_places_in key (without_sent (count_at key most held)) held.places o })
            e,
        none,
      ),
    )
