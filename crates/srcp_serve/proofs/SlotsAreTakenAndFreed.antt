-- Who has which slot: peers take slots and free them, and a round visits those that have one.
use Rattle.srcp_serve.proofs.Names.{◌≡◌, ◌∙◌, ℕ, List, [], ◌∷◌, ◌++◌, map, refl, ap, sym, append-nil, append_assoc, zero, suc, ◌+◌, ◌≤◌}
use Rattle.srcp_serve.proofs.Names.{true, false, ◌==◌, cond, length, if◌then◌else◌, Option, Some, None, subst, arith, filter, flat_map}
use Rattle.srcp_serve.proofs.Names.{not, is_some, is_none, position, nat_lt, ◌||◌, filter-append, list_any, count_by, slice_index_or}
use Rattle.srcp_serve.proofs.Names.{slice_set, prefix_len, AllByRecursion, AllZip, Event, Shut, filter-map, Bus, Call, IsSlotOf}
use Rattle.srcp_serve.proofs.Names.{ClientsDiffer, Owns, is_about, asks_of, visit, visit_asks, visits_ask, visit_events, exchange}
use Rattle.srcp_serve.proofs.Names.{is_close, Client, with_client, clients, kept, Slots, question, Keys, sum_by-cons, key_of, without_key}
use Rattle.srcp_serve.proofs.Names.{key_within, Own, cond_both, eqb-false, ltb-false, ne_eqb, or_from, or_parts, all_weaker}
use Rattle.srcp_serve.proofs.Names.{filter_map-append}
use Rattle.srcp_serve.proofs.NumbersOfKeys.{number_named, number_push, number_without}
use Rattle.std.specs.List.{IsDistinct}
use Rattle.srcp_serve.proofs.VisitsCarryStreams.{connected_all}
use Rattle.srcp_serve.proofs.VisitsFollow.{AreAbout}
use Rattle.srcp_serve.proofs.VisitsSendWhatIsTaken.{all_parts}
use Rattle.srcp_serve.proofs.CallsByTurnAndPeer.{AreOf as AskOf, no_calls, none_asked, turned_round}

-- the slots of a server are those of the state, place by place
abbrev pub AreSlotsOf : Keys → Owns → Slots → Type 0
AreSlotsOf keys owns slots = AllZip (IsSlotOf keys) owns slots

-- the other is another peer on another connection
abbrev pub IsApartFrom : Client → Client → Type 0
IsApartFrom client other = (client.conn == other.conn) || (client.peer == other.peer) ≡ false

apart_round : (a b : Client) → IsApartFrom a b → IsApartFrom b a
apart_round a b h =
    let parts = or_parts (a.conn == b.conn) _ h in
    or_from (b.conn == a.conn) (b.peer == a.peer) (turned_round _ _ parts.0) (turned_round _ _ parts.1)

-- the peer has no slot
abbrev pub HasNone : ℕ → Slots → Type 0
HasNone peer slots = AllByRecursion (λ client. (peer == client.peer) ≡ false) (clients slots)

-- each that has a slot is one of these peers
abbrev pub AreOf : List ℕ → Slots → Type 0
AreOf peers slots = AllByRecursion (λ client. list_any (λ peer. peer == client.peer) peers ≡ true) (clients slots)

-- the calls are about the peer if what they ask is
pub about_asked : (peer : ℕ) (calls : List Call) → AskOf peer (map question calls) → AreAbout peer calls
about_asked peer [] h = tt
about_asked peer (call ∷ calls) h = (h.0, about_asked peer calls h.1)

-- ---- the calls about a peer among others

abbrev pub SameVisits : List Call → List Call → List Client → Type 0
SameVisits xs ys all = AllByRecursion (λ client. visit xs client ≡ visit ys client) all

-- no call is about any of them
abbrev pub NoVisits : List Call → List Client → Type 0
NoVisits calls all = AllByRecursion (λ client. visit calls client ≡ []) all

pub first_visits : (xs ys : List Call) (all : List Client) → NoVisits ys all → SameVisits (xs ++ ys) xs all
first_visits xs ys =
    all_weaker _ _ (λ client none. cc (filter-append (is_about client.peer) xs ys, none, append-nil (visit xs client)))

pub second_visits : (xs ys : List Call) (all : List Client) → NoVisits xs all → SameVisits (xs ++ ys) ys all
second_visits xs ys = all_weaker _ _ (λ client none. cc (filter-append (is_about client.peer) xs ys, none))

-- what a visit makes happen and asks is seen in its own calls
same_events : (xs ys : List Call) (client : Client) → visit xs client ≡ visit ys client → visit_events xs client ≡ visit_events ys client
same_events xs ys client e =
    ap {B = List Event} (λ mine. exchange client.conn mine ++ (if list_any is_close mine then Shut client.conn ∷ [] else [])) e

pub same_made : (xs ys : List Call) (all : List Client) → SameVisits xs ys all
    → flat_map (visit_events xs) all ≡ flat_map (visit_events ys) all
same_made xs ys [] h = refl
same_made xs ys (client ∷ all) h = cc (same_events xs ys client h.0, same_made xs ys all h.1)

pub same_kept : (xs ys : List Call) (slots : Slots) → SameVisits xs ys (clients slots) → map (kept xs) slots ≡ map (kept ys) slots
same_kept xs ys [] h = refl
same_kept xs ys (None ∷ slots) h = ap (λ more. None ∷ more) (same_kept xs ys slots h)
same_kept xs ys (Some client ∷ slots) h =
    let left : List Call → Option Client = λ mine. if list_any is_close mine then None else Some client in
    cc (ap left h.0, same_kept xs ys slots h.1)

no_visit : (calls : List Call) (client : Client) → filter (asks_of client.peer) (map question calls) ≡ [] → visit calls client ≡ []
no_visit calls client e = no_calls (visit calls client) (rw (← filter-map question (asks_of client.peer) calls) e)

module _ (buses : List Bus) where
  pub same_asked : (events : List Event) (xs ys : List Call) (all : List Client) → SameVisits xs ys all
      → visits_ask buses events xs all ≡ visits_ask buses events ys all
  same_asked events xs ys [] h = refl
  same_asked events xs ys (client ∷ all) h =
      cc (h.0, same_events xs ys client h.0, same_asked (events ++ visit_events ys client) xs ys all h.1)

  pub visits_ask-append : (events : List Event) (calls : List Call) (xs ys : List Client)
      → visits_ask buses events calls (xs ++ ys)
      ≡ visits_ask buses events calls xs ++ visits_ask buses (events ++ flat_map (visit_events calls) xs) calls ys
  visits_ask-append events calls [] ys = ap (λ all. visits_ask buses all calls ys) (sym (append-nil events))
  visits_ask-append events calls (client ∷ xs) ys =
      cc (
        visits_ask-append (events ++ visit_events calls client) calls xs ys,
        append_assoc events (visit_events calls client) (flat_map (visit_events calls) xs),
        append_assoc (visit_asks buses events (visit calls client) client) _ _,
      )

-- ---- how many

pub count_cons : {X : Type 0} (o : Option X) (xs : List (Option X)) → count_by is_some (o ∷ xs) ≡ cond (is_some o) 1 0 + count_by is_some xs
count_cons o xs = sum_by-cons (λ x. cond (is_some x) 1 0) o xs

pub count_without : (n : ℕ) (keys : Keys) (key : ℕ) → key_of n keys ≡ Some key
    → count_by is_some (without_key n keys) + 1 ≡ count_by is_some keys
count_without zero keys key e = cc
count_without (suc zero) [] key e = cc
count_without (suc (suc n)) [] key e = cc
count_without (suc zero) (k ∷ keys) key e =
    omega (arith, count_cons None keys, count_cons k keys, ap {B = ℕ} (λ (o : Option ℕ). cond (is_some o) 1 0) e)
count_without (suc (suc n)) (k ∷ keys) key e =
    omega (arith, count_cons k (without_key (suc n) keys), count_cons k keys, count_without (suc n) keys key e)

-- ---- which peer has which slot

pub length-owns : (keys : Keys) (owns : Owns) (slots : Slots) → AreSlotsOf keys owns slots → length owns ≡ length slots
length-owns keys [] [] h = refl
length-owns keys (own ∷ owns) (slot ∷ slots) h = ap (λ n. suc n) (length-owns keys owns slots h.1)
length-owns keys owns slots h = absurd h

pub own_here : (keys : Keys) (owns : Owns) (before : Slots) (slot : Option Client)
    (after : Slots) (i : ℕ) (d : Option Own)
    → length before ≡ i → AreSlotsOf keys owns (before ++ slot ∷ after) → IsSlotOf keys (slice_index_or owns i d) slot
own_here keys [] [] slot after i d e h = absurd h
own_here keys [] (p ∷ before) slot after i d e h = absurd h
own_here keys (own ∷ owns) [] slot after zero d e h = h.0
own_here keys (own ∷ owns) (p ∷ before) slot after (suc i) d e h = own_here keys owns before slot after i d (omega (arith, e)) h.1
own_here keys (own ∷ owns) before slot after i d e h = cc

pub owns_cleared : (keys : Keys) (owns : Owns) (before : Slots) (slot : Option Client)
    (after : Slots) (i : ℕ)
    → length before ≡ i → AreSlotsOf keys owns (before ++ slot ∷ after) → AreSlotsOf keys (slice_set owns i None) (before ++ None ∷ after)
owns_cleared keys [] [] slot after i e h = absurd h
owns_cleared keys [] (p ∷ before) slot after i e h = absurd h
owns_cleared keys (own ∷ owns) [] slot after zero e h = (tt, h.1)
owns_cleared keys (own ∷ owns) (p ∷ before) slot after (suc i) e h =
    (h.0, owns_cleared keys owns before slot after i (omega (arith, e)) h.1)
owns_cleared keys (own ∷ owns) before slot after i e h = cc

-- no slot has the number
abbrev HasNoNumber : ℕ → Slots → Type 0
HasNoNumber n slots = AllByRecursion (λ client. (n == client.conn) ≡ false) (clients slots)

pub owns_kept : (n : ℕ) (keys : Keys) (owns : Owns) (slots : Slots) → HasNoNumber n slots
    → AreSlotsOf keys owns slots → AreSlotsOf (without_key n keys) owns slots
owns_kept n keys [] [] free h = tt
owns_kept n keys (None ∷ owns) (None ∷ slots) free h = (tt, owns_kept n keys owns slots free h.1)
owns_kept n keys (Some own ∷ owns) (Some client ∷ slots) free h = (
  (h.0.0, number_without n own.key keys (λ same. eqb-false n client.conn free.0 (sym same ∙ h.0.1)) ∙ h.0.1, h.0.2),
  owns_kept n keys owns slots free.1 h.1,
)
owns_kept n keys owns slots free h = search

pub numbers_after : (client : Client) (slots : Slots) → AllByRecursion (IsApartFrom client) (clients slots) → HasNoNumber client.conn slots
numbers_after client slots = all_weaker (IsApartFrom client) _ (λ other h. (or_parts (client.conn == other.conn) _ h).0) (clients slots)

-- no more slots are taken than there are connections
pub few_slots : (keys : Keys) (owns : Owns) (slots : Slots) → AreSlotsOf keys owns slots → ClientsDiffer slots
    → count_by is_some slots ≤ count_by is_some keys
unfolding IsDistinct
few_slots keys [] [] h d = omega arith
few_slots keys (None ∷ owns) (None ∷ slots) h d = omega (arith, few_slots keys owns slots h.1 d, count_cons None slots)
few_slots keys (Some own ∷ owns) (Some client ∷ slots) h d =
    let n : ℕ = client.conn in
    let ih = few_slots (without_key n keys) owns slots (owns_kept n keys owns slots (numbers_after client slots d.0) h.1) d.1 in
    omega (arith, ih, count_cons (Some client) slots, count_without n keys own.key (number_named n own.key keys h.0.1 h.0.2))
few_slots keys owns slots h d = search

-- what holds of all that have a slot holds of the one in the middle, and of the others
all_around : (P : Client → Type 0) (before : Slots) (client : Client) (after : Slots)
    → AllByRecursion P (clients (before ++ Some client ∷ after)) → P client × AllByRecursion P (clients (before ++ None ∷ after))
all_around P [] client after h = (h.0, h.1)
all_around P (None ∷ before) client after h = all_around P before client after h
all_around P (Some other ∷ before) client after h = let more = all_around P before client after h.1 in (more.0, (h.0, more.1))

-- the others are apart from it
pub apart_around : (before : Slots) (client : Client) (after : Slots) → ClientsDiffer (before ++ Some client ∷ after)
    → AllByRecursion (IsApartFrom client) (clients (before ++ None ∷ after))
unfolding IsDistinct
apart_around [] client after h = h.0
apart_around (None ∷ before) client after h = apart_around before client after h
apart_around (Some other ∷ before) client after h =
    (apart_round other client (all_around (IsApartFrom other) before client after h.0).0, apart_around before client after h.1)

pub differ_cleared : (before : Slots) (client : Client) (after : Slots) → ClientsDiffer (before ++ Some client ∷ after)
    → ClientsDiffer (before ++ None ∷ after)
unfolding IsDistinct
differ_cleared [] client after h = h.1
differ_cleared (None ∷ before) client after h = differ_cleared before client after h
differ_cleared (Some other ∷ before) client after h =
    ((all_around (IsApartFrom other) before client after h.0).1, differ_cleared before client after h.1)

-- ---- a peer that is connected

pub owns_pushed : (keys : Keys) (key : ℕ) (owns : Owns) (slots : Slots) → AreSlotsOf keys owns slots
    → AreSlotsOf (keys ++ Some key ∷ []) owns slots
owns_pushed keys key [] [] h = tt
owns_pushed keys key (None ∷ owns) (None ∷ slots) h = (tt, owns_pushed keys key owns slots h.1)
owns_pushed keys key (Some own ∷ owns) (Some client ∷ slots) h = (
  (h.0.0, number_push own.key keys (Some key) (rw h.0.1 h.0.2) ∙ h.0.1, h.0.2),
  owns_pushed keys key owns slots h.1,
)
owns_pushed keys key owns slots h = search

-- which slot is free, as the first
abbrev pub free_in : Owns → ℕ
free_in owns = prefix_len (λ own. not (is_none own)) owns

pub owns_connected : (keys : Keys) (own : Own) (client : Client) (owns : Owns) (slots : Slots)
    → IsSlotOf keys (Some own) (Some client) → AreSlotsOf keys owns slots
    → AreSlotsOf keys (slice_set owns (free_in owns) (Some own)) (with_client client slots)
owns_connected keys own client [] [] new h = tt
owns_connected keys own client (None ∷ owns) (None ∷ slots) new h = (new, h.1)
owns_connected keys own client (Some o ∷ owns) (Some other ∷ slots) new h =
    let step : suc (free_in owns) ≡ 1 + free_in owns = omega arith in
    subst (λ (i : ℕ). AreSlotsOf keys (slice_set (Some o ∷ owns) i (Some own)) (Some other ∷ with_client client slots)) step
    (h.0, owns_connected keys own client owns slots new h.1)
owns_connected keys own client owns slots new h = search

pub free_is : (owns : Owns) (free : ℕ) → position is_none owns ≡ Some free → free ≡ free_in owns
free_is owns free e = cond_both (nat_lt (free_in owns) (length owns)) (Some (free_in owns)) None
    (λ (o : Option ℕ). o ≡ Some free → free ≡ free_in owns) (λ t e. cc) (λ t e. cc) e

all_taken : (keys : Keys) (owns : Owns) (slots : Slots) → AreSlotsOf keys owns slots
    → length owns ≤ free_in owns → length owns ≤ count_by is_some slots
all_taken keys [] slots h e = omega arith
all_taken keys (None ∷ owns) (slot ∷ slots) h e = absurd (omega (arith, e))
all_taken keys (Some own ∷ owns) (Some client ∷ slots) h e =
    omega (arith, all_taken keys owns slots h.1 (omega (arith, e)), count_cons (Some client) slots)
all_taken keys owns slots h e = search

-- if no slot is free, all are taken
pub none_free : (keys : Keys) (owns : Owns) (slots : Slots) → AreSlotsOf keys owns slots
    → position is_none owns ≡ None → length owns ≤ count_by is_some slots
none_free keys owns slots h e = all_taken keys owns slots h (cond_both _ _ _ (λ (o : Option ℕ). o ≡ None → length owns ≤ free_in owns)
    (λ t e. cc) (λ t e. ltb-false _ _ t) e)

pub differ_connected : (client : Client) (slots : Slots) → AllByRecursion (IsApartFrom client) (clients slots) → ClientsDiffer slots
    → ClientsDiffer (with_client client slots)
unfolding IsDistinct
differ_connected client [] new h = tt
differ_connected client (None ∷ slots) new h = (new, h)
differ_connected client (Some other ∷ slots) new h = (
  connected_all (IsApartFrom other) client slots (apart_round client other new.0) h.0,
  differ_connected client slots new.1 h.1,
)

pub new_apart : (keys : Keys) (client : Client) (owns : Owns) (slots : Slots) → AreSlotsOf keys owns slots
    → client.conn ≡ length keys + 1 → HasNone client.peer slots → AllByRecursion (IsApartFrom client) (clients slots)
new_apart keys client [] [] h e new = tt
new_apart keys client (None ∷ owns) (None ∷ slots) h e new = new_apart keys client owns slots h.1 e new
new_apart keys client (Some own ∷ owns) (Some other ∷ slots) h e new =
    let within = (key_within other.conn keys own.key (number_named other.conn own.key keys h.0.1 h.0.2)).1 in
    let no = ne_eqb client.conn other.conn (λ same. omega (arith, e, within, same)) in
    (or_from (client.conn == other.conn) _ no new.0, new_apart keys client owns slots h.1 e new.1)
new_apart keys client owns slots h e new = search

-- ---- visits of some slots, and of the next one

module _ (buses : List Bus) (slot : Option Client) (after : Slots) (events : List Event) (calls : List Call) where
  -- the visit of the next slot is of no client before it
  pub none_before : (slots : Slots) → ClientsDiffer (slots ++ slot ∷ after)
      → map question calls ≡ visits_ask buses events calls (clients (slot ∷ [])) → NoVisits calls (clients slots)
  unfolding IsDistinct
  none_before [] h e = tt
  none_before (None ∷ slots) h e = none_before slots h e
  none_before (Some client ∷ slots) h e = (
    no_visit calls client (ap (filter (asks_of client.peer)) e ∙ by slot h.0),
    none_before slots h.1 e,
  )
    where
      by : (next : Option Client) → AllByRecursion (IsApartFrom client) (clients (slots ++ next ∷ after))
          → filter (asks_of client.peer) (visits_ask buses events calls (clients (next ∷ []))) ≡ []
      by None a = refl
      by (Some other) a =
          let apart = apart_round client other (all_around (IsApartFrom client) slots other after a).0 in
          none_asked buses client.peer events calls (other ∷ []) ((or_parts (other.conn == client.conn) _ apart).1, tt)

  -- nor is one before it of its client
  pub none_next : (slots : Slots) → ClientsDiffer (slots ++ slot ∷ after)
      → map question calls ≡ visits_ask buses events calls (clients slots) → NoVisits calls (clients (slot ∷ []))
  unfolding IsDistinct
  none_next slots h e = by slot h
    where
      by : (next : Option Client) → ClientsDiffer (slots ++ next ∷ after) → NoVisits calls (clients (next ∷ []))
      by None h = tt
      by (Some client) h =
          let first = (all_parts (IsApartFrom client) (clients slots) _ (rw filter_map-append at (apart_around slots client after h))).0 in
          let apart = all_weaker _ _ (λ other a. (or_parts (other.conn == client.conn) _ (apart_round client other a)).1) _ first in (
            no_visit calls client
                (ap (filter (asks_of client.peer)) e ∙ none_asked buses client.peer events calls (clients slots) apart),
            tt,
          )
