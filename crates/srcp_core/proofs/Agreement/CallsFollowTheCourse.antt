-- Each call of the core leads from the course of any events to that with its event.
use Rattle.srcp_core.proofs.Names.{◌≡◌, ℕ, ◌+◌, ◌<◌, ◌≤◌, List, [], ◌∷◌, ◌++◌, map, length, min, ◌-◌, refl, ap, sym, subst, arith, inl}
use Rattle.srcp_core.proofs.Names.{false, Option, Some, None, Bus, IsLayout, Event, Open, Room, At, Shut, recorded_step, World, counted}
use Rattle.srcp_core.proofs.Names.{fault, accepted, course, Place, Held, at, IsAdmitted, IsNotAdmitted}
use Rattle.srcp_core.proofs.Names.{advanced, hung_up, let_out, unsent_at, changed_at, changed_in, without_sent, live_session}
use Rattle.srcp_core.proofs.Names.{Recording, key_of, record_of, stepped, shut, Runs, count_at, taken_at, taking, StandsFor, CoreFault}
use Rattle.srcp_core.proofs.Names.{Full, OfCourse, true, without_key}
use Rattle.srcp_core.specs.Agrees.{AtKey}
use Rattle.srcp_core.specs.Run.{LeadsTo, LeadsAt}
use Rattle.srcp_core.specs.declared.record.CoreFault.TheVariants.{Memory as MemoryFault}
use Rattle.srcp_core.proofs.Agreement.EventsAgree.{stands_counted, full_fault}
use Rattle.srcp_core.proofs.Agreement.PiecesAgree.{set_same}
use Rattle.srcp_core.proofs.Agreement.RecordIsOfTheCourse.{runs_on}
use Rattle.srcp_core.proofs.Agreement.RunsAnEvent.{fine_course, open_with, open_refused, memory_with, at_happens, shut_happens, with_end}
use Rattle.srcp_core.proofs.Agreement.RunsAnEvent.{shut_keys, gives_first, room_happens, taking_keys}
use Rattle.srcp_core.proofs.CourseLaws.SessionsOfACourse.{opening_in_order}
use Rattle.srcp_core.proofs.Agreement.StandsAfterAChange.{found_at}
use Rattle.srcp_core.proofs.Agreement.RoomsAgree.{filled_kept, taken_kept, Kept}
use Rattle.srcp_core.specs.declared.record.Step.TheVariants as recorded

-- what a run would have told of the course
abbrev pub telling : List (Option ℕ) → World → Recording
telling keys w = record { keys = keys; steps = map recorded_step w.steps; connections = map record_of w.connections; refused = w.refused }

pub runs_telling : (buses : List Bus) (keys : List (Option ℕ)) (held : Held) (w : World) → StandsFor buses keys held w
    → Runs buses (telling keys w) held w
runs_telling buses keys held w s = record { stands = s; records = record { steps = refl; refused = refl; connections = refl } }

pub at_leads : (moment : ℕ) (old new : Held) → new ≡ advanced moment old → LeadsTo (At moment) old new
at_leads moment old new is buses events keys layout s =
    let w = course buses events in
    let h =
    ((at_happens moment (telling keys w) old new new.moment is refl).each buses events layout (runs_telling buses keys old w s)).1 in
    let later = stepped (recorded.Moment new.moment ∷ []) (telling keys w) in
    let r = runs_on buses events (At moment) None (length events + 1) later new refl h in
    r.stands

pub open_leads : (key : ℕ) (old new : Held) → IsAdmitted key old new
    → OfCourse old (λ buses events keys. StandsFor buses (keys ++ Some key ∷ []) new (course buses (events ++ Open true ∷ [])))
open_leads key old new a buses events keys layout s =
    let w = course buses events in
    let h = open_with key (telling keys w) old new a buses events layout (runs_telling buses keys old w s) in
    (runs_on buses events _ None _ _ new refl h).stands

-- no connection is opened
pub not_open_leads : (cause : CoreFault) (old new : Held) → IsNotAdmitted cause old new → LeadsTo (Open false) old new
not_open_leads Full old new is buses events keys layout s =
    let w = course buses events in
    let h = ((open_refused (telling keys w) old new Full is).each buses events layout (runs_telling buses keys old w s)).1 in
    (runs_on buses events (Open false) (Some Full) (length events + 1) (telling keys w) new refl
    (full_fault buses keys old (counted w) (stands_counted buses keys old w s) is.0 false, h.1)).stands
not_open_leads MemoryFault old new is buses events keys layout s =
    let w = course buses events in
    (runs_on buses events _ (Some MemoryFault) _ (telling keys w) new refl
    (memory_with (telling keys w) old new is.0 is.1 buses events layout (runs_telling buses keys old w s))).stands
not_open_leads other old new is buses events keys layout s = absurd is

pub shut_leads : (key : ℕ) (old new : Held) → new ≡ hung_up key old
    → AtKey key old (λ buses events keys n. StandsFor buses (without_key n keys) new (course buses (events ++ Shut n ∷ [])))
shut_leads key old new is buses events keys n layout named s =
    let w = course buses events in
    let h =
    ((shut_happens n key (telling keys w) old new new.moment named is refl).each buses events layout
    (runs_telling buses keys old w s)).1 in
    rw (← (shut_keys n (live_session key old) new.moment (telling keys w)))
    (runs_on buses events (Shut n) None (length events + 1)
    (with_end (live_session key old) new.moment (shut n (telling keys w))) new refl h).stands

-- room of an open connection
kept_of : (buses : List Bus) (layout : IsLayout buses) (events : List Event) (keys : List (Option ℕ)) (n key : ℕ)
    (named : key_of n keys ≡ Some key) (held : Held)
    → StandsFor buses keys held (course buses events)
    → Kept buses layout (opening_in_order buses layout) keys n key named (telling keys (course buses events)) held
    (counted (course buses events))
kept_of buses layout events keys n key named held s = record {
  fine = fine_course buses layout events;
  stands = stands_counted buses keys held _ s;
  records = record { steps = refl; refused = refl; connections = refl };
}

room_free : (buses : List Bus) (events : List Event) (keys : List (Option ℕ)) (n key bytes : ℕ) (held : Held) → key_of n keys ≡ Some key
    → StandsFor buses keys held (course buses events) → fault buses (counted (course buses events)) (Room n bytes) ≡ None
room_free buses events keys n key bytes held named s =
    let h =
    found_at buses (λ n fed. fed) keys held (counted (course buses events)) n key
    (stands_counted buses keys held (course buses events) s) named in
    cc h.opened

room_leads : (buses : List Bus) (events : List Event) (keys : List (Option ℕ)) (n bytes : ℕ) (new : Held)
    → fault buses (counted (course buses events)) (Room n bytes) ≡ None
    → StandsFor buses keys new (accepted buses (Room n bytes) (counted (course buses events)))
    → StandsFor buses keys new (course buses (events ++ Room n bytes ∷ []))
room_leads buses events keys n bytes new free s =
    let w = accepted buses (Room n bytes) (counted (course buses events)) in
    (runs_on buses events _ None _ _ new refl (free, runs_telling buses keys new w s)).stands

-- room for no bytes, whatever memory was refused before
pub out_stands : (key : ℕ) (old : Held) (buses : List Bus) (events : List Event) (keys : List (Option ℕ)) (n : ℕ) → IsLayout buses
    → key_of n keys ≡ Some key → StandsFor buses keys old (course buses events)
    → StandsFor buses keys (let_out key old) (course buses (events ++ Room n 0 ∷ []))
out_stands key old buses events keys n layout named s =
    let k =
    filled_kept buses layout (opening_in_order buses layout) keys n key named (telling keys (course buses events)) old
    (counted (course buses events)) (kept_of buses layout events keys n key named old s) in
    room_leads buses events keys n 0 (let_out key old) (room_free buses events keys n key 0 old named s) k.stands

pub sent_leads : (key count : ℕ) (old new : Held) → count ≤ length (unsent_at key old) → new ≡ changed_at key (without_sent count) old
    → 0 < count → LeadsAt key (λ n. Room n count) old new
sent_leads key count old new few is some buses events keys n layout named s =
    let k =
    taken_kept buses layout (opening_in_order buses layout) keys n key named (telling keys (course buses events)) old
    (counted (course buses events)) count some few (kept_of buses layout events keys n key named old s) in
    room_leads buses events keys n count new (room_free buses events keys n key count old named s)
    (subst (λ (x : Held). StandsFor buses keys x (accepted buses (Room n count) (counted (course buses events)))) (sym is) k.stands)

-- ---- bytes that were lent, and then sent

pub sent_none : (key count : ℕ) (old new : Held) → new ≡ changed_at key (without_sent count) old → count ≡ 0 → new ≡ old
sent_none key count old new is none = cc (by _ refl)
  where
    by : (o : Option Place) → at old key ≡ o → record old { places = changed_in key (without_sent 0) old.places o } ≡ old
    by None e = refl
    by (Some p) e = ap (λ places. record old { places = places }) (set_same _ key p e)

pub lent_leads : (key count : ℕ) (old new held : Held) → count ≤ length (unsent_at key old) → new ≡ changed_at key (without_sent count) old
    → old ≡ let_out key held → LeadsAt key (λ n. Room n count) held new
lent_leads key count old new held few is lent buses events keys n layout named s =
    let w = course buses events in
    let first_r = telling keys w in
    let now : min (length (unsent_at key (let_out key held))) count ≡ count =
    let most = subst (λ (x : Held). count ≤ length (unsent_at key x)) lent few in omega (arith, most) in
    let taken : new ≡ taken_at key count held = cc in
    let all : count - count_at key count held ≡ 0 = omega (arith, now) in
    let h =
    ((room_happens n key count first_r held count first_r held (inl all) refl
    (gives_first n key count first_r held named)).each buses events layout
    (runs_telling buses keys held w s)).1 in
    rw taken
    (rw (← (taking_keys n key count held first_r))
    (runs_on buses events (Room n count) None (length events + 1) (taking n key count held first_r)
    (taken_at key count held) refl h).stands)
