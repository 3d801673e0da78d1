-- A turn follows the course: its accept, and its visits.
use Rattle.srcp_serve.proofs.Names.{◌≡◌, ◌∙◌, ℕ, ◌+◌, Bool, true, false, ◌==◌, List, [], ◌∷◌, ◌++◌, map, fold, length, if◌then◌else◌}
use Rattle.srcp_serve.proofs.Names.{Option, Some, Ok, Err, Result, refl, ap, sym, arith, append_assoc, append-nil, nat_tests, map-append}
use Rattle.srcp_serve.proofs.Names.{filter_map-append, list_any-append, list_all, list_any, filter_map, AllByRecursion, ◌||◌, flat_map}
use Rattle.srcp_serve.proofs.Names.{Bus, Past, course_of, denied, told, At, Open, due_next, slack, filter_no_one, DoorCall, Extends}
use Rattle.srcp_serve.proofs.Names.{PeersDiffer, peer_of, Trace, Accepted, Call, ExpectCall, NowCall, AcceptCall, CloseCall, door_call}
use Rattle.srcp_serve.proofs.Names.{Client, Closes, Stand, Expects, Moments, expects, Accepts, IsFair, question, moment_of, accept_of}
use Rattle.srcp_serve.proofs.Names.{clients, is_about, kept, visit_events, visits_ask, connects, with_connection, with_accept}
use Rattle.srcp_serve.proofs.Names.{with_moment, timed, begun, turned, turn_asks, refuses, Slots, IsInState, one_if, AcceptsOne}
use Rattle.srcp_serve.proofs.Names.{MakesTurn, Connects, TakesMoment, VisitsSlots, Owns, AreAccept, Asks, AreAboutPeers, IsTurn}
use Rattle.srcp_serve.proofs.Names.{is_of_peer, Makes, DoorFault, or_cases, or_right, ⊎_elim, all_weaker}
use Rattle.std.specs.List.{IsDistinct}
use Rattle.srcp_serve.proofs.VisitsSendWhatIsTaken.{all_parts}
use Rattle.srcp_serve.proofs.VisitsCarryStreams.{connected_all, kept_all}
use Rattle.srcp_serve.proofs.VisitsFollow.{closing_call}
use Rattle.srcp_serve.proofs.CallsByTurnAndPeer.{accept_as, fold_keeps, same_peer}
use Rattle.srcp_serve.proofs.SlotsAreTakenAndFreed.{AreOf, HasNone, NoVisits, SameVisits, same_asked, same_kept, same_made, second_visits}
use Rattle.srcp_serve.proofs.CallsAreAdded.{adds_one, adds_then, denied_more, given_then, makes_then, same_calls}
use Rattle.srcp_serve.proofs.TurnsCarryStreams.{differ_last, peers_trace}
use Rattle.srcp_door.specs.Calls as door

-- calls about peers tell no moment and accept nobody
no_begin : (calls : List Call) → list_all is_of_peer (map door_call calls) ≡ true
    → (filter_map accept_of calls ≡ []) × (filter_map moment_of calls ≡ [])
no_begin [] h = (refl, refl)
no_begin (ExpectCall due slack ∷ calls) h = cc
no_begin (NowCall answer ∷ calls) h = cc
no_begin (AcceptCall answer granted ∷ calls) h = cc
no_begin (other ∷ calls) h = no_begin calls h

pub fair_given : (calls : List Call) → AllByRecursion door.IsFair (map door_call calls) → AllByRecursion IsFair calls
fair_given [] h = tt
fair_given (call ∷ calls) h = (h.0, fair_given calls h.1)

differ_prefix : (xs ys : List ℕ) → IsDistinct (λ a b. a == b) (xs ++ ys) → IsDistinct (λ a b. a == b) xs
unfolding IsDistinct
differ_prefix [] ys h = tt
differ_prefix (x ∷ xs) ys h = ((all_parts (λ y. (x == y) ≡ false) xs ys h.0).0, differ_prefix xs ys h.1)

pub peers_prefix : (peers : List ℕ) (xs ys : List DoorCall) → PeersDiffer peers (xs ++ ys) → PeersDiffer peers xs
peers_prefix peers xs ys h =
    differ_prefix _ (filter_map peer_of ys)
    (rw (filter_map-append, ← append_assoc peers (filter_map peer_of xs) (filter_map peer_of ys)) at h)

not_known : (peers : List ℕ) (p r : ℕ) → AllByRecursion (λ x. (x == p) ≡ false) peers → list_any (λ q. q == r) peers ≡ true
    → (p == r) ≡ false
not_known [] p r h k = cc
not_known (x ∷ peers) p r h k = ⊎_elim (λ e. let apart = h.0 in grind (arith, nat_tests)) (not_known peers p r h.1) (or_cases (x == r) _ k)

-- a peer that the door accepts has no slot
new_peer : (peers : List ℕ) (answer : Result (Option ℕ) DoorFault) (later : List DoorCall) (slots : Slots)
    → PeersDiffer peers (door.AcceptCall answer ∷ later) → AreOf peers slots → (peer : ℕ) → answer ≡ Ok (Some peer) → HasNone peer slots
new_peer peers answer later slots differ known peer e =
    let last = differ_last peers peer (filter_map peer_of later) (rw e at differ) in
    all_weaker _ _ (λ client k. not_known peers peer client.peer last k) (clients slots) known

known_more : (peers more : List ℕ) (slots : Slots) → AreOf peers slots → AreOf (peers ++ more) slots
known_more peers more slots = all_weaker (λ client. list_any (λ peer. peer == client.peer) peers ≡ true) _
    (λ client known. rw (list_any-append, known) refl) (clients slots)

known_last : (peers : List ℕ) (p : ℕ) → list_any (λ q. q == p) (peers ++ p ∷ []) ≡ true
known_last [] p = ap (λ t. t || false) (same_peer p)
known_last (x ∷ peers) p = or_right (x == p) _ (known_last peers p)

none_seen : (early : List Call) (all : List Client) → map question early ≡ [] → NoVisits early all
none_seen early [] e = tt
none_seen [] (client ∷ all) e = (refl, none_seen [] all e)
none_seen (call ∷ early) (client ∷ all) e = cc

closed_seen : (peer : ℕ) (answer : Result Unit DoorFault) (all : List Client) → AllByRecursion (λ client. (peer == client.peer) ≡ false) all
    → NoVisits (CloseCall peer answer ∷ []) all
closed_seen peer answer =
    all_weaker _ _ (λ client apart. filter_no_one (is_about client.peer) (CloseCall peer answer ∷ []) (apart, tt))

module _ (buses : List Bus) where
  known_accepts : (accepts : List Accepted) (peers : List ℕ) (stand : Stand) → AreOf peers stand.slots
      → AreOf (peers ++ map (λ accept. accept.peer) accepts) (fold (with_accept buses) stand accepts).slots
  known_accepts [] peers stand h = known_more peers [] stand.slots h
  known_accepts (accept ∷ accepts) peers stand h =
      let more = known_more peers (accept.peer ∷ []) stand.slots h in
      let client : Client = record { peer = accept.peer; conn = length stand.connected + 1 } in
      rw append_assoc at (known_accepts accepts (peers ++ accept.peer ∷ []) (with_accept buses stand accept)
      (accept_as buses (λ (s : Stand). AreOf (peers ++ accept.peer ∷ []) s.slots) stand accept
      (connected_all _ client stand.slots (known_last peers accept.peer) more) more))

  known_moments : (moments : List ℕ) (peers : List ℕ) (stand : Stand) → AreOf peers stand.slots
      → AreOf peers (fold (with_moment buses) stand moments).slots
  known_moments moments peers = fold_keeps (λ (s : Stand). AreOf peers s.slots) (with_moment buses) (λ s moment h. h) moments

  -- after a turn, each that has a slot was one of the peers or was accepted
  pub known_turned : (peers : List ℕ) (stand : Stand) (calls : List Call) → AreOf peers stand.slots
      → AreOf (peers ++ filter_map peer_of (map door_call calls)) (turned buses stand calls).slots
  known_turned peers stand calls h =
      let begun_known = known_accepts (filter_map accept_of calls) peers (timed buses stand calls)
      (known_moments (filter_map moment_of calls) peers stand h) in
      kept_all _ calls (begun buses stand calls).slots (rw peers_trace begun_known)

  -- the calls that follow an accept are about no peer that has a slot then
  early_seen : (stand : Stand) (answer : Result (Option ℕ) DoorFault) (granted : Bool) (early : List Call)
      → ((peer : ℕ) → answer ≡ Ok (Some peer) → HasNone peer stand.slots)
      → map question early ≡ flat_map (refuses buses stand.events) (filter_map accept_of (AcceptCall answer granted ∷ []))
      → NoVisits early (clients (fold (with_accept buses) stand (filter_map accept_of (AcceptCall answer granted ∷ []))).slots)
  early_seen stand (Ok (Some p)) granted early new asked = by (connects buses stand.events granted) asked
    where
      by : (b : Bool) → map question early ≡ (if b then [] else Closes p ∷ []) ++ []
          → NoVisits early (clients (if b then with_connection buses stand (record { peer = p; granted = granted })
          else record stand { events = stand.events ++ Open granted ∷ [] }).slots)
      by true e = none_seen early _ e
      by false e = let c = closing_call p early e in rw c.1 (closed_seen p c.0 (clients stand.slots) (new p refl))
  early_seen stand other granted early new asked = none_seen early (clients stand.slots) asked

  connected_timed : (answer : Result ℕ DoorFault) (stand : Stand)
      → length (timed buses stand (NowCall answer ∷ [])).connected ≡ length stand.connected
  connected_timed (Ok moment) stand = refl
  connected_timed (Err failed) stand = refl

  in_state_timed : (answer : Result ℕ DoorFault) (stand : Stand) (old new : Past) (owns : Owns) → IsInState buses stand old owns
      → new ≡ told answer old → IsInState buses (timed buses stand (NowCall answer ∷ [])) new owns
  in_state_timed (Ok moment) stand old new owns h is = rw is (record {
    layout = h.layout;
    events = ap (λ es. es ++ At moment ∷ []) h.events;
    owns_are = h.owns_are;
    differ = h.differ;
    long = h.long;
  })
  in_state_timed (Err failed) stand old new owns h is = rw is h

-- a moment asks for no memory
denied_told : (answer : Result ℕ DoorFault) (old new : Past) → new ≡ told answer old → denied new ≡ denied old
denied_told (Ok moment) old new is = rw is (denied_more (At moment) old)
denied_told (Err failed) old new is = rw is refl

-- ---- the accept of a turn

-- nobody is accepted, or the accept fails
abbrev pub AcceptsNone : Result (Option ℕ) DoorFault → Type 0
AcceptsNone (Ok (Some peer)) = ⊥
AcceptsNone other = Unit {0}

pub accepts_nobody : (old : Past) (trace_old trace_new : Trace) (owns : Owns) (answer : Result (Option ℕ) DoorFault)
    → AcceptsNone answer → Extends trace_old (door.AcceptCall answer) trace_new → AcceptsOne old trace_old owns old trace_new owns false
accepts_nobody old trace_old trace_new owns (Ok (Some peer)) none h buses stand trace in_state is peers calls adds differ known =
    absurd none
accepts_nobody old trace_old trace_new owns answer none h buses stand trace in_state is peers calls adds differ known = (
  answer,
  true,
  record {
    early = [];
    adds = adds_one (door.AcceptCall answer) trace_old trace_new trace h is;
    counted = refl;
    asked = refl;
    in_state = in_state;
    opened = omega arith;
  },
)

pub accepts_peer : (peer : ℕ) (opens : Bool) (old new : Past) (trace_old trace_mid trace_new : Trace)
    (owns owns_new : Owns)
    → Extends trace_old (door.AcceptCall (Ok (Some peer))) trace_mid → Asks AreAboutPeers trace_mid trace_new
    → Connects old trace_mid owns new trace_new owns_new peer opens → AcceptsOne old trace_old owns new trace_new owns_new opens
accepts_peer peer opens old new trace_old trace_mid trace_new owns owns_new h asks own_is buses stand trace in_state is peers calls
    adds differ known =
    let later = asks trace is in
    let first = adds_one _ trace_old trace_mid later.1.before h later.1.was in
    let apart = rw (same_calls adds (adds_then later.1.was first later.1)) at differ in
    let x = own_is buses stand trace in_state is (new_peer peers (Ok (Some peer)) later.0 stand.slots apart known peer refl) in
    let settled = x.1 in
    let all = given_then (AcceptCall (Ok (Some peer)) x.0 ∷ []) settled.early later.1.was first settled.adds in
    (Ok (Some peer), x.0, search)

-- ---- the calls of a turn

module _ (buses : List Bus) (stand : Stand) (due slack : Option ℕ) (now : Result ℕ DoorFault) (answer : Result (Option ℕ) DoorFault)
    (granted : Bool) (early seen : List Call) where
  abbrev tail : List Call
  tail = early ++ seen

  abbrev calls : List Call
  calls = ExpectCall due slack ∷ NowCall now ∷ AcceptCall answer granted ∷ tail

  abbrev accepts : List Accepted
  accepts = filter_map accept_of (AcceptCall answer granted ∷ [])

  abbrev first : Stand
  first = timed buses stand (NowCall now ∷ [])

  abbrev second : Stand
  second = fold (with_accept buses) first accepts

  abbrev third : Stand
  third = record second {
    events = second.events ++ flat_map (visit_events seen) (clients second.slots);
    slots = map (kept seen) second.slots ++ [];
  }

  module _ (peers : list_all is_of_peer (map door_call tail) ≡ true) where
    accepts_are : filter_map accept_of calls ≡ accepts
    accepts_are =
        cc (filter_map-append accept_of (AcceptCall answer granted ∷ []) tail, (no_begin tail peers).0, append-nil accepts)

    timed_is : timed buses stand calls ≡ first
    timed_is =
        cc (
          filter_map-append moment_of (NowCall now ∷ []) (AcceptCall answer granted ∷ tail),
          (no_begin tail peers).1,
          append-nil (filter_map moment_of (NowCall now ∷ [])),
        )

    begun_is : begun buses stand calls ≡ second
    begun_is = rw (timed_is, accepts_are)

    module _ (others : NoVisits early (clients second.slots)) where
      same : SameVisits calls seen (clients second.slots)
      same = second_visits (ExpectCall due slack ∷ NowCall now ∷ AcceptCall answer granted ∷ early) seen (clients second.slots) others

      pub turned_is : turned buses stand calls ≡ third
      turned_is = rw begun_is (cc (
        same_made calls seen (clients second.slots) same,
        same_kept calls seen second.slots same,
        append-nil (map (kept seen) second.slots),
      ))

      pub turn_asked : Expects due slack ≡ expects buses stand.events → map question early ≡ flat_map (refuses buses first.events) accepts
          → map question seen ≡ visits_ask buses second.events seen (clients second.slots)
          → map question calls ≡ turn_asks buses stand calls
      turn_asked first_asked refused asked =
          let asks_second = same_asked buses second.events calls seen (clients second.slots) same ∙ sym asked in
          let asks : turn_asks buses stand calls
          ≡ expects buses stand.events ∷ Moments ∷ Accepts ∷ (flat_map (refuses buses first.events) accepts ++ map question seen) =
          cc (timed_is, accepts_are, begun_is, asks_second) in
          cc (map-append question early seen)

pub makes_turn : (opens : Bool) (old mid between new : Past) (trace_old trace_mid trace_between trace_new : Trace)
    (owns_old owns owns_new : Owns)
    → TakesMoment old trace_old mid trace_mid → Asks AreAccept trace_mid trace_between
    → AcceptsOne mid trace_mid owns_old between trace_between owns opens
    → Asks AreAboutPeers trace_between trace_new → VisitsSlots between trace_between owns new trace_new owns_new
    → Asks IsTurn trace_old trace_new
    → MakesTurn old trace_old owns_old new trace_new owns_new opens
makes_turn opens old mid between new trace_old trace_mid trace_between trace_new owns_old owns owns_new moment asks_in accepts_one
    asks_visits visits asks_turn buses stand trace in_state is peers calls adds differ known =
    let later = asks_visits trace is in
    let w = later.1 in
    let one = asks_in w.before w.was in
    let v = one.1 in
    let t = moment v.before v.was in
    let due = due_next old.buses (course_of old) in
    let room = slack old.buses (course_of old) in
    let first_stand = timed buses stand (NowCall t.answer ∷ []) in
    let in_state_then = in_state_timed buses t.answer stand old mid owns_old in_state t.is in
    let in_calls = one.0 in
    let whole = same_calls adds (adds_then w.was (adds_then v.was t.adds v) w) in
    let differ_in = peers_prefix peers (door.ExpectCall due room ∷ door.NowCall t.answer ∷ in_calls) later.0 (rw whole at differ) in
    let known_first = known_moments buses (filter_map moment_of (NowCall t.answer ∷ [])) peers stand known in
    let b = accepts_one buses first_stand w.before in_state_then w.was peers in_calls v differ_in known_first in
    let second_stand = fold (with_accept buses) first_stand (filter_map accept_of (AcceptCall b.0 b.1 ∷ [])) in
    let x = visits buses second_stand trace b.2.in_state is in
    let others =
    early_seen buses first_stand b.0 b.1 b.2.early
    (new_peer peers b.0 (map door_call b.2.early) first_stand.slots (rw (same_calls v b.2.adds) at differ_in) known_first) b.2.asked in
    let all = ExpectCall due room ∷ NowCall t.answer ∷ AcceptCall b.0 b.1 ∷ (b.2.early ++ x.calls) in
    let first_made : Makes (ExpectCall due room ∷ NowCall t.answer ∷ []) trace_old v.before old mid =
    record { adds = t.adds; counted = denied_told t.answer old mid t.is } in
    let second_made : Makes (AcceptCall b.0 b.1 ∷ b.2.early) trace_mid w.before mid between =
    record { adds = b.2.adds; counted = b.2.counted } in
    let made = makes_then w.was (makes_then v.was first_made second_made) x.made in
    let turned_then = asks_turn trace is in
    let of_peers = (rw (same_calls turned_then.1 made.adds) at turned_then.2).peers in
    let ends = turned_is buses stand due room t.answer b.0 b.1 b.2.early x.calls of_peers others in
    let told_it : Expects due room ≡ expects buses stand.events = rw (in_state.layout, in_state.events) refl in
    record {
      calls = all;
      made = made;
      asked = turn_asked buses stand due room t.answer b.0 b.1 b.2.early x.calls of_peers others told_it b.2.asked x.asked;
      in_state = rw ends x.in_state;
      opened =
          ap (λ (s : Stand). length s.connected) ends ∙ b.2.opened
          ∙ ap (λ n. n + one_if opens) (connected_timed buses t.answer stand);
    }
