-- The visits of the slots follow the course, and the slots behind those in use stay free.
use Rattle.srcp_serve.proofs.Names.{◌≡◌, ◌∙◌, ℕ, ◌+◌, ◌<◌, Bool, true, false, List, [], ◌∷◌, ◌++◌, map, length, if◌then◌else◌, Option}
use Rattle.srcp_serve.proofs.Names.{Some, None, refl, ap, sym, subst, arith, append_assoc, append-nil, length-append, inl, inr, zero, suc}
use Rattle.srcp_serve.proofs.Names.{◌-◌, ◌≤◌, max, add-one, flat_map-append, map-append, length-map, list_any, slice_index_or, slice_set}
use Rattle.srcp_serve.proofs.Names.{not, Bus, Past, without_key, Event, length_without, DoorCall, Trace, Client, clients, Stand, is_about}
use Rattle.srcp_serve.proofs.Names.{is_close, kept, question, visit, visit_asks, visit_events, Slots, IsInState, HasVisited, VisitsSlot}
use Rattle.srcp_serve.proofs.Names.{VisitsSlots, FromEveryState, Owns, AreFreeFrom, MayFree, AreAboutPeers, Asks, Call, Keys, Visits, Own}
use Rattle.srcp_serve.proofs.Names.{filter_every, filter_map-append, flat_map, ClientsDiffer, HasActed, number}
use Rattle.srcp_serve.specs.Visits.{keys_after}
use Rattle.std.proofs.Math.ListN.{length-set}
use Rattle.srcp_serve.proofs.SlotsAreTakenAndFreed.{differ_cleared, length-owns, owns_kept, owns_cleared, AreSlotsOf, own_here}
use Rattle.srcp_serve.proofs.SlotsAreTakenAndFreed.{about_asked, first_visits, none_before, none_next, same_asked, same_kept, same_made}
use Rattle.srcp_serve.proofs.SlotsAreTakenAndFreed.{SameVisits, apart_around, numbers_after, second_visits, visits_ask-append}
use Rattle.srcp_serve.proofs.CallsByTurnAndPeer.{visit_own}
use Rattle.srcp_serve.proofs.CallsAreAdded.{makes_none, makes_then}
use Rattle.srcp_serve.proofs.DoorIsCalled.{asks_none}

pub slot_free : (slot : ℕ) (d : Option Own) (old : Past) (trace_old : Trace) (owns : Owns)
    → slice_index_or owns slot d ≡ None → VisitsSlot old trace_old owns old trace_old owns slot
slot_free slot d old trace_old owns here buses stand trace in_state is before None after e at = record {
  calls = [];
  made = makes_none trace_old trace old is;
  asked = refl;
  in_state = rw append-nil (subst (λ (all : Slots). IsInState buses (record stand { slots = all }) old owns) at in_state);
}
slot_free slot d old trace_old owns here buses stand trace in_state is before (Some client) after e at =
    absurd (rw here at (own_here old.keys owns before (Some client) after slot d e
    (subst (λ (all : Slots). AreSlotsOf old.keys owns all) at in_state.owns_are)))

module _ (slot : ℕ) (d : Option Own) (own : Own) (old new : Past) (trace_old trace_new : Trace) (owns : Owns)
    (here : slice_index_or owns slot d ≡ Some own) where
  module _ (stays : Bool) (owns_after : Owns) (visits : Visits own.peer own.key old trace_old new trace_new stays)
      (owns_are_after : (before : Slots) (client : Client) (after : Slots) → length before ≡ slot
      → ClientsDiffer (before ++ Some client ∷ after) → AreSlotsOf old.keys owns (before ++ Some client ∷ after)
      → AreSlotsOf (if not stays then without_key client.conn old.keys else old.keys) owns_after
      (before ++ (if not stays then None else Some client) ∷ after)
      × ClientsDiffer (before ++ (if not stays then None else Some client) ∷ after)) where
    slot_visited : VisitsSlot old trace_old owns new trace_new owns_after slot
    slot_visited buses stand trace in_state is before None after e at =
        absurd (rw here at
        (own_here old.keys owns before None after slot d e (subst (λ (all : Slots). AreSlotsOf old.keys owns all) at in_state.owns_are)))
    slot_visited buses stand trace in_state is before (Some client) after e at =
        let h = subst (λ (all : Slots). IsInState buses (record stand { slots = all }) old owns) at in_state in
        let own_is = rw here at (own_here old.keys owns before (Some client) after slot d e h.owns_are) in
        let same : record { peer = own.peer; conn = number own.key old } ≡ client = rw (own_is.0, own_is.1) refl in
        let x = subst (λ (c : Client). HasActed old trace_old new trace (λ calls. visit_asks old.buses old.events calls c)
        (λ calls. visit_events calls c) is_close (keys_after true stays c.conn old.keys) stays) same (visits trace is) in
        let asked : map question x.calls ≡ visit_asks buses stand.events x.calls client =
        x.asked ∙ ap (λ b. visit_asks b old.events x.calls client) h.layout
        ∙ ap (λ es. visit_asks buses es x.calls client) h.events in
        let about = about_asked client.peer x.calls (rw asked (visit_own buses stand.events x.calls client)) in
        let mine : visit x.calls client ≡ x.calls = filter_every (is_about client.peer) x.calls about in
        let left : kept x.calls (Some client) ≡ (if not stays then None else Some client) =
        ap (λ calls. if list_any is_close calls then None else Some client) mine ∙ ap (λ b. if b then None else Some client) x.stays_is in
        let all = append-nil (visit_events x.calls client) in
        let owned = owns_are_after before client after e h.differ h.owns_are in
        record {
          calls = x.calls;
          made = x.made;
          asked = asked ∙ sym (append-nil _ ∙ ap (λ calls. visit_asks buses stand.events calls client) mine);
          in_state = rw (all, left) (record {
            layout = x.went.layout ∙ h.layout;
            events = x.went.events ∙ ap (λ es. es ++ visit_events x.calls client) h.events;
            owns_are = rw x.went.keys owned.0;
            differ = owned.1;
            long = ap length x.went.keys ∙ same_length stays client.conn old.keys ∙ h.long;
          });
        }
      where
        same_length : (b : Bool) (n : ℕ) (keys : Keys) → length (if not b then without_key n keys else keys) ≡ length keys
        same_length true n keys = refl
        same_length false n keys = length_without n keys

  pub slot_stays : Visits own.peer own.key old trace_old new trace_new true → VisitsSlot old trace_old owns new trace_new owns slot
  slot_stays visits = slot_visited true owns visits (λ before client after e differ owned. (owned, differ))

  pub slot_goes : Visits own.peer own.key old trace_old new trace_new false
      → VisitsSlot old trace_old owns new trace_new (slice_set owns slot None) slot
  slot_goes visits = slot_visited false _ visits (λ before client after e differ owned. (
    owns_kept client.conn old.keys (slice_set owns slot None) (before ++ None ∷ after)
        (numbers_after client (before ++ None ∷ after) (apart_around before client after differ))
        (owns_cleared old.keys owns before (Some client) after slot e owned),
    differ_cleared before client after differ,
  ))

-- ---- the slots, one after another

-- this many slots were visited
pub record HasVisitedSoFar (buses : List Bus) (stand : Stand) (old : Trace) (trace : List DoorCall) (past : Past) (owns : Owns)
    (core_old : Past) (count : ℕ) : Type 0 where
  pub clients : Slots
  pub after : Slots
  pub are : stand.slots ≡ clients ++ after
  pub many : length clients ≡ count
  pub visited : HasVisited buses stand old trace past owns core_old [] clients after

-- this many slots are visited, in their order
abbrev pub VisitsSoFar : (count : ℕ) (old : Past) (trace_old : Trace) (owns_old : Owns) (now : Past) (trace_now : Trace) (owns_now : Owns)
    → Type 0
VisitsSoFar count old trace_old owns_old now trace_now owns_now = FromEveryState old trace_old owns_old now trace_now owns_now
    (λ buses stand trace. HasVisitedSoFar buses stand trace_old trace now owns_now old count)

pub slots_first : (old : Past) (trace_old : Trace) (owns : Owns) → VisitsSoFar 0 old trace_old owns old trace_old owns
slots_first old trace_old owns buses stand trace in_state is = record {
  clients = [];
  after = stand.slots;
  are = refl;
  many = refl;
  visited = record {
    calls = [];
    made = makes_none trace_old trace old is;
    asked = refl;
    in_state = rw append-nil in_state;
  };
}

module _ (buses : List Bus) (stand : Stand) (old : Trace) (core_old : Past) (slots : Slots) where
  -- one slot more was visited
  visited_then : (mid : List DoorCall) (trace_mid : Trace) (between new : Past) (owns owns_after : Owns)
      (trace : List DoorCall) (slot : Option Client) (after : Slots) → ClientsDiffer (slots ++ slot ∷ after)
      → trace_mid ≡ Some mid
      → (x : HasVisited buses stand old mid between owns core_old [] slots (slot ∷ after))
      → HasVisited buses (record stand {
        events = stand.events ++ flat_map (visit_events x.calls) (clients slots);
        slots = map (kept x.calls) slots ++ slot ∷ after;
      }) trace_mid trace new owns_after between (map (kept x.calls) slots) (slot ∷ []) after
      → HasVisited buses stand old trace new owns_after core_old [] (slots ++ slot ∷ []) after
  visited_then mid trace_mid between new owns owns_after trace slot after differ is x y =
      let a : List Call = x.calls in
      let b : List Call = y.calls in
      let all : List Call = a ++ b in
      let mine : List Client = clients slots in
      let next : List Client = clients (slot ∷ []) in
      let events : List Event = stand.events ++ flat_map (visit_events a) mine in
      let same_a : SameVisits all a mine = first_visits a b mine (none_before buses slot after events b slots differ y.asked) in
      let same_b : SameVisits all b next = second_visits a b next (none_next buses slot after stand.events a slots differ x.asked) in
      let parts : clients (slots ++ slot ∷ []) ≡ mine ++ next = filter_map-append (λ s. s) slots (slot ∷ []) in
      let made_a = same_made all a mine same_a in
      let made : events ++ flat_map (visit_events b) next ≡ stand.events ++ flat_map (visit_events all) (clients (slots ++ slot ∷ [])) =
      cc (
        parts,
        flat_map-append (visit_events all) mine next,
        made_a,
        same_made all b next same_b,
        append_assoc stand.events (flat_map (visit_events a) mine) (flat_map (visit_events b) next),
      ) in
      let left : map (kept a) slots ++ (map (kept b) (slot ∷ []) ++ after) ≡ map (kept all) (slots ++ slot ∷ []) ++ after =
      cc (
        map-append (kept all) slots (slot ∷ []),
        same_kept all a slots same_a,
        same_kept all b (slot ∷ []) same_b,
        append_assoc (map (kept a) slots) (map (kept b) (slot ∷ [])) after,
      ) in
      record {
        calls = all;
        made = makes_then is x.made y.made;
        asked =
            cc (
              map-append question a b,
              parts,
              visits_ask-append buses stand.events all mine next,
              same_asked buses stand.events all a mine same_a,
              same_asked buses events all b next same_b,
              made_a,
              x.asked,
              y.asked,
            );
        in_state = rw made at (rw left at y.in_state);
      }

module _ (slot : ℕ) (old mid new : Past) (trace_old trace_mid trace_new : Trace)
    (owns_old owns owns_after : Owns) (long : length owns ≡ 64) (within : slot < 64)
    (visits : VisitsSlot mid trace_mid owns new trace_new owns_after slot) where
  slotd_on : (buses : List Bus) (stand : Stand) (trace trace_then : List DoorCall) → trace_new ≡ Some trace → trace_mid ≡ Some trace_then
      → ClientsDiffer stand.slots → (clients after : Slots) → stand.slots ≡ clients ++ after → length clients ≡ slot
      → HasVisited buses stand trace_old trace_then mid owns old [] clients after
      → HasVisitedSoFar buses stand trace_old trace new owns_after old (slot + 1)
  slotd_on buses stand trace trace_then is was differ clients [] are many x =
      let a = simp (append-nil, length-map) at (length-owns mid.keys owns _ x.in_state.owns_are) in
      absurd (omega (arith, a, many, long, within))
  slotd_on buses stand trace trace_then is was differ clients (p ∷ after) are many x =
      let y =
      visits buses _ trace x.in_state is (map (kept x.calls) clients) p after (length-map clients (kept x.calls) ∙ many) refl in
      record {
        clients = clients ++ p ∷ [];
        after = after;
        are = are ∙ sym (append_assoc clients (p ∷ []) after);
        many = cc (length-append clients (p ∷ []));
        visited = visited_then buses stand trace_old old clients trace_then trace_mid mid new owns owns_after trace p after
            (subst ClientsDiffer are differ) was x y;
      }

  pub slots_on : VisitsSoFar slot old trace_old owns_old mid trace_mid owns → Asks AreAboutPeers trace_mid trace_new
      → VisitsSoFar (slot + 1) old trace_old owns_old new trace_new owns_after
  slots_on so asks buses stand trace in_state is =
      let w = (asks trace is).1 in
      let s = so buses stand w.before in_state w.was in
      slotd_on buses stand trace w.before is w.was in_state.differ s.clients s.after s.are s.many s.visited

pub slots_all : (slot : ℕ) (old now : Past) (trace_old trace_now : Trace) (owns_old owns : Owns)
    → length owns ≡ 64 → slot ≡ 64 → VisitsSoFar slot old trace_old owns_old now trace_now owns
    → VisitsSlots old trace_old owns_old now trace_now owns
slots_all slot old now trace_old trace_now owns_old owns long most so buses stand trace in_state is =
    let s = so buses stand trace in_state is in
    all s.clients s.after s.are s.many s.visited
  where
    all : (clients after : Slots) → stand.slots ≡ clients ++ after → length clients ≡ slot
        → HasVisited buses stand trace_old trace now owns old [] clients after
        → HasVisited buses stand trace_old trace now owns old [] stand.slots []
    all clients [] are many x =
        subst (λ (ps : Slots). HasVisited buses stand trace_old trace now owns old [] ps []) (sym (are ∙ append-nil clients)) x
    all clients (p ∷ after) are many x =
        let a = simp (length-append, length-map) at (length-owns now.keys owns _ x.in_state.owns_are) in
        absurd (omega (arith, a, many, long, most))

-- ---- the slots from some slot on stay free in a turn, and no peer is visited there

pub length_kept : (slot : ℕ) (old new : Owns) → MayFree slot old new → length new ≡ length old
length_kept slot old new (inl e) = ap length e
length_kept slot old new (inr e) = simp (e, length-set)

-- a slot that is freed is free
free_set : (end slot : ℕ) (owns : Owns) → AreFreeFrom end owns → AreFreeFrom end (slice_set owns slot None)
free_set end slot [] free = free
free_set zero zero (x ∷ owns) free = (refl, free.1)
free_set zero (suc slot) (x ∷ owns) free = (free.0, free_set zero slot owns free.1)
free_set (suc end) zero (x ∷ owns) free = free
free_set (suc end) (suc slot) (x ∷ owns) free = free_set end slot owns free

pub still_free : (end slot : ℕ) (old new : Owns) → MayFree slot old new → AreFreeFrom end old → AreFreeFrom end new
still_free end slot old new (inl e) free = rw e free
still_free end slot old new (inr e) free = rw e (free_set end slot old free)

-- a slot before those that are free is none of them
set_before : (end slot : ℕ) (own : Option Own) (owns : Owns) → slot < end → AreFreeFrom end owns → AreFreeFrom end (slice_set owns slot own)
set_before end slot own [] before free = free
set_before zero slot own (x ∷ owns) before free = absurd (omega (arith, before))
set_before (suc end) zero own _ before free = free
set_before (suc end) (suc slot) own (x ∷ owns) before free = set_before end slot own owns (omega (arith, before)) free

later_on : (end later : ℕ) (owns : Owns) → end ≤ later → AreFreeFrom end owns → AreFreeFrom later owns
later_on zero zero owns most free = free
later_on (suc end) zero owns most free = absurd (omega (arith, most))
later_on zero (suc later) (x ∷ owns) most free = later_on zero later owns (omega arith) free.1
later_on (suc end) (suc later) (x ∷ owns) most free = later_on end later owns (omega (arith, most)) free
later_on end (suc later) [] most free = tt

-- all are free behind a slot that is given to a peer and those that may be taken
pub free_behind : (end slot later : ℕ) (own : Option Own) (owns : Owns) → later ≡ max end (slot + 1) → AreFreeFrom end owns
    → AreFreeFrom later (slice_set owns slot own)
free_behind end slot later own owns is free =
    set_before later slot own owns (omega (arith, is)) (later_on end later owns (omega (arith, is)) free)

-- the first of the slots that are free, and the others
free_here : (slot : ℕ) (owns : Owns) → AreFreeFrom slot owns → slice_index_or owns slot None ≡ None
free_here zero [] free = refl
free_here (suc slot) [] free = refl
free_here zero (x ∷ owns) free = free.0
free_here (suc slot) (x ∷ owns) free = free_here slot owns free

module _ (old now : Past) (trace_old trace_now : Trace) (owns_old owns : Owns) (long : length owns ≡ 64) where
  rest_of : (left slot : ℕ) → slot + left ≡ 64 → AreFreeFrom slot owns → VisitsSoFar slot old trace_old owns_old now trace_now owns
      → VisitsSlots old trace_old owns_old now trace_now owns
  rest_of zero slot many free so = slots_all slot old now trace_old trace_now owns_old owns long (omega (arith, many)) so
  rest_of (suc left) slot many free so =
      rest_of left (slot + 1) (omega (arith, many)) (rw add-one (later_on slot (suc slot) owns (omega arith) free))
      (slots_on slot old now now trace_old trace_now trace_now owns_old owns owns long (omega (arith, many))
      (slot_free slot None now trace_now owns (free_here slot owns free)) so (asks_none trace_now))

  -- no peer is visited at slots that are free
  pub slots_rest : (slot : ℕ) → slot ≤ 64 → AreFreeFrom slot owns → VisitsSoFar slot old trace_old owns_old now trace_now owns
      → VisitsSlots old trace_old owns_old now trace_now owns
  slots_rest slot most free so = rest_of (64 - slot) slot (omega (arith, most)) free so
