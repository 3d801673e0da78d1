-- What a door told and what the core counted, call after call.
use Rattle.srcp_serve.proofs.Names.{◌≡◌, ◌∙◌, List, [], ◌∷◌, ◌++◌, map, Some, None, refl, sym, ap, append_assoc, append-nil, ℕ}
use Rattle.srcp_serve.proofs.Names.{if◌then◌else◌, Bool, true, false, ◌==◌, ◌+◌, append_cancel_left, map-append, flat_map-append}
use Rattle.srcp_serve.proofs.Names.{fold-append, Past, course_of, denied, happened, number, room_for, Event, Room, denied_by, none_denied}
use Rattle.srcp_serve.proofs.Names.{DoorCall, Extends, Adds, Trace, Call, CountsRefusals, GivesUnlessCounted, answers_of, AddsGiven, Keys}
use Rattle.srcp_serve.proofs.Names.{Makes, Went, rooms_of, Bus, counted, denied_in, denied_over, start}
use Rattle.srcp_core.proofs.Agreement.RefusalsAreCounted.{denied_over_push}

-- one call more
pub adds_one : (call : DoorCall) (old new : Trace) (trace : List DoorCall) → Extends old call new → new ≡ Some trace
    → Adds old trace (call ∷ [])
adds_one call None new trace e is = cc
adds_one call (Some calls) new trace h is = record { before = calls; was = refl; is = rw is at h }

-- no call
pub adds_none : {old : Trace} {trace : List DoorCall} → old ≡ Some trace → Adds old trace []
adds_none {trace = trace} e = record { before = trace; was = e; is = sym (append-nil trace) }

-- these calls, and then those
pub adds_then : {old trace_mid : Trace} {mid trace xs ys : List DoorCall} → trace_mid ≡ Some mid → Adds old mid xs
    → Adds trace_mid trace ys → Adds old trace (xs ++ ys)
adds_then {mid = mid} {xs = xs} {ys = ys} e a b =
    let same : b.before ≡ mid = cc in
    record { before = a.before; was = a.was; is = b.is ∙ rw (same, a.is) (append_assoc a.before xs ys) }

-- the same of calls with the answers of memory
pub given_then : {old trace_mid : Trace} {mid trace : List DoorCall} (xs ys : List Call) → trace_mid ≡ Some mid
    → AddsGiven old mid xs → AddsGiven trace_mid trace ys → AddsGiven old trace (xs ++ ys)
given_then xs ys e a b = rw map-append (adds_then e a b)

counts_then : (first mid last : ℕ) (xs ys : List Bool) → mid ≡ denied_by first xs → last ≡ denied_by mid ys
    → last ≡ denied_by first (xs ++ ys)
counts_then first mid last xs ys a b = rw (fold-append, ← a) b

-- the refusals of these calls were counted, and then those of the others
pub refusals_then : (old mid new : Past) (xs ys : List Call) → CountsRefusals old xs mid → CountsRefusals mid ys new
    → CountsRefusals old (xs ++ ys) new
refusals_then old mid new xs ys a b =
    rw flat_map-append (counts_then (denied old) (denied mid) (denied new) (answers_of xs) (answers_of ys) a b)

-- if no refusal is counted, memory was given in each answer
pub gives_all : GivesUnlessCounted
gives_all old calls new counted none = (none_denied _ (denied old) (sym counted ∙ none)).1

-- the same calls were added
pub same_calls : {old : Trace} {trace xs ys : List DoorCall} → Adds old trace xs → Adds old trace ys → xs ≡ ys
same_calls {xs = xs} {ys = ys} a b =
    let same : b.before ≡ a.before = cc in append_cancel_left _ xs ys (sym a.is ∙ b.is ∙ rw same refl)

-- what is counted after one event more
pub denied_more : (event : Event) (old : Past)
    → denied (happened event old) ≡ denied_in old.buses (denied old) (counted (course_of old)) event
denied_more event old = denied_over_push old.buses 0 start old.events event

-- room asks for no memory
pub denied_rooms : (buses : List Bus) (n : ℕ) (counts : List ℕ) (events : List Event)
    → denied_over buses 0 start (events ++ map (Room n) counts) ≡ denied_over buses 0 start events
denied_rooms buses n [] events = simp append-nil
denied_rooms buses n (count ∷ counts) events =
    cc (
      denied_rooms buses n counts (events ++ Room n count ∷ []),
      denied_over_push buses 0 start events (Room n count),
      append_assoc events (Room n count ∷ []) (map (Room n) counts),
    )

-- ---- what happened to the core

pub went_by : (more : List Event) (keys : Keys) (old new : Past)
    → new ≡ record { buses = old.buses; events = old.events ++ more; keys = keys } → Went more keys old new
went_by more keys old new is = rw is (record { layout = refl; events = refl; keys = refl })

-- nothing
pub went_none : (old : Past) → Went [] old.keys old old
went_none old = record { layout = refl; events = sym (append-nil old.events); keys = refl }

-- the same events and keys under other names
pub went_as : (xs ys : List Event) (mine all : Keys) (old new : Past) → Went xs mine old new → xs ≡ ys → mine ≡ all → Went ys all old new
went_as xs ys mine all old new w e f =
    record { layout = w.layout; events = w.events ∙ ap (λ es. old.events ++ es) e; keys = w.keys ∙ f }

-- these events, and then those
pub went_then : (xs ys : List Event) (mine all : Keys) (old mid new : Past) → Went xs mine old mid → Went ys all mid new
    → Went (xs ++ ys) all old new
went_then xs ys mine all old mid new x y = record {
  layout = y.layout ∙ x.layout;
  events = y.events ∙ ap (λ es. es ++ ys) x.events ∙ append_assoc old.events xs ys;
  keys = y.keys;
}

-- the rooms of a write
pub went_write : (key count : ℕ) (old new : Past) → new ≡ room_for key count (happened (Room (number key old) 0) old)
    → Went (map (Room (number key old)) (rooms_of count)) old.keys old new
went_write key count old new is = went_by _ old.keys old new (is ∙ by (count == 0))
  where
    n : ℕ
    n = number key old

    by : (t : Bool) → (if t then happened (Room n 0) old else happened (Room n count) (happened (Room n 0) old))
        ≡ record { buses = old.buses; events = old.events ++ map (Room n) (0 ∷ (if t then [] else count ∷ [])); keys = old.keys }
    by true = refl
    by false = rw append_assoc refl

-- these calls, and then those
pub makes_then : {xs ys : List Call} {trace_old trace_mid : Trace} {mid trace : List DoorCall} {old held new : Past}
    → trace_mid ≡ Some mid → Makes xs trace_old mid old held → Makes ys trace_mid trace held new
    → Makes (xs ++ ys) trace_old trace old new
makes_then {xs = xs} {ys = ys} {old = old} {held = held} {new = new} is x y =
    record { adds = given_then xs ys is x.adds y.adds; counted = refusals_then old held new xs ys x.counted y.counted }

-- no call
pub makes_none : (trace_old : Trace) (trace : List DoorCall) (old : Past) → trace_old ≡ Some trace → Makes [] trace_old trace old old
makes_none trace_old trace old is = record { adds = adds_none is; counted = refl }
