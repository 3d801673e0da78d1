-- Turn after turn: each connection has of a stream what was carried for its peer in all the turns so far.
use Rattle.srcp_serve.proofs.Names.{◌≡◌, ◌∙◌, ℕ, Bool, true, false, List, [], ◌∷◌, ◌++◌, map, filter, if◌then◌else◌, Option, Some, None}
use Rattle.srcp_serve.proofs.Names.{◌⊎◌, inl, inr, refl, ap, ◌==◌, ⊎_elim, not, Ok, append-nil, append_assoc, filter_map, fold, flat_map}
use Rattle.srcp_serve.proofs.Names.{cons_option, AllByRecursion, Event, Open, Bus, Accepted, Call, AcceptCall, door_call, Question}
use Rattle.srcp_serve.proofs.Names.{Expects, ExpectCall, Moments, Accepts, Closes, Client, Stand, question, accept_of, with_moment}
use Rattle.srcp_serve.proofs.Names.{connects, refuses, asks_of, expects, IsFair, moment_of, clients, timed, turned, visits_ask}
use Rattle.srcp_serve.proofs.Names.{with_accept, with_connection, turn_asks, is_expect, empty_stand, begun, turns, IsServed, OfEachTurn}
use Rattle.srcp_serve.proofs.Names.{SentIsTaken, FedIsHanded, OfEachServed, HasWhatIsCarried, course, due_next, map-append, slack}
use Rattle.srcp_serve.proofs.Names.{all_append, flat_map-append, filter_map-append}
use Rattle.srcp_serve.proofs.Names.{take_while-cons, peer_of}
use Rattle.std.specs.List.{IsDistinct}
use Rattle.srcp_serve.specs.Serving.{PeersDiffer}
use Rattle.srcp_serve.proofs.CallsByTurnAndPeer.{IsNoneOf, IsOfNone, AreOfPeers, asks_peer, refused_peers, visits_peers, AreAsked}
use Rattle.srcp_serve.proofs.CallsByTurnAndPeer.{AreTurnsAsked, PeersApart, accept_as, fold_keeps, in_turn, no_calls, refuses_as}
use Rattle.srcp_serve.proofs.CallsByTurnAndPeer.{turned_round, turns_parted, visits_parted}
use Rattle.srcp_serve.proofs.VisitsCarryStreams.{IsCarried, carried_after_moment, IsNew, carried_after_accept, new_unconnected}
use Rattle.srcp_serve.proofs.VisitsCarryStreams.{carried_after_visits, ArePeersOf, nothing_carried, carried}
use Rattle.srcp_serve.proofs.Stream.{Stream, AreWithoutBytes}
use Rattle.srcp_serve.proofs.VisitsSendWhatIsTaken.{all_parts, sent_stream}
use Rattle.srcp_serve.proofs.VisitsFeedWhatIsHanded.{fed_stream}

-- after the moments of a turn
pub carried_after_moments : (buses : List Bus) (stream : Stream buses) (before : ℕ → List ℕ) (stand : Stand) (moments : List ℕ)
    → IsCarried buses stream before stand
    → IsCarried buses stream before (fold (with_moment buses) stand moments)
    × ((fold (with_moment buses) stand moments).connected ≡ stand.connected)
carried_after_moments buses stream before stand moments h =
    fold_keeps (λ (s : Stand). IsCarried buses stream before s × (s.connected ≡ stand.connected)) (with_moment buses)
    (λ s moment p. (carried_after_moment buses stream before s moment p.0, p.1)) moments stand (h, refl)

no_accept : (call : Call) → (question call ≡ Accepts → ⊥) → accept_of call ≡ None
no_accept (AcceptCall answer granted) other = absurd (other refl)
no_accept call other = refl

pub no_accepts : (calls : List Call) → AreOfPeers (map question calls) → filter_map accept_of calls ≡ []
no_accepts [] h = refl
no_accepts (AcceptCall answer granted ∷ calls) h = let no = h.0 in cc
no_accepts (other ∷ calls) h = no_accepts calls h.1

-- a turn accepts at most one peer
pub one_accept : (due slack : Option ℕ) (calls : List Call) (questions : List Question)
    → map question calls ≡ Expects due slack ∷ Moments ∷ Accepts ∷ questions → AreOfPeers questions
    → (filter_map accept_of calls ≡ []) ⊎ ((peer : Accepted) × (filter_map accept_of calls ≡ peer ∷ []))
one_accept due slack (first ∷ timed_now ∷ call ∷ calls) questions e h =
    let rest : map question calls ≡ questions = cc in
    let none = no_accepts calls (rw rest h) in
    by (accept_of call) (cc (no_accept first (λ no. cc), no_accept timed_now (λ no. cc)))
  where
    by : (o : Option Accepted) → filter_map accept_of (first ∷ timed_now ∷ call ∷ calls) ≡ cons_option o []
        → (filter_map accept_of (first ∷ timed_now ∷ call ∷ calls) ≡ [])
        ⊎ ((peer : Accepted) × (filter_map accept_of (first ∷ timed_now ∷ call ∷ calls) ≡ peer ∷ []))
    by None e = inl e
    by (Some peer) e = inr (peer, e)
one_accept due slack other questions e h = cc

-- a peer that is accepted and not connected has no slot
pub refused_of_none : (due slack : Option ℕ) (buses : List Bus) (events : List Event) (peer : Accepted) (all : List Client)
    → IsNoneOf peer.peer all
    → IsOfNone buses (Expects due slack ∷ Moments ∷ Accepts ∷ (refuses buses events peer ++ [])) all
refused_of_none due slack buses events peer [] h = tt
refused_of_none due slack buses events peer (client ∷ all) h =
    let other = turned_round client.peer peer.peer h.0 in (
      refuses_as buses (λ (qs : List Question). filter (asks_of client.peer) (qs ++ []) ≡ []) events peer refl (rw other refl),
      refused_of_none due slack buses events peer all h.1,
    )

-- nothing is read of those that are not connected, and nothing written to them
refused_no_bytes : (buses : List Bus) (events : List Event) (peers : List Accepted)
    → AreWithoutBytes (flat_map (refuses buses events) peers)
refused_no_bytes buses events [] = tt
refused_no_bytes buses events (peer ∷ peers) =
    let more = refused_no_bytes buses events peers in
    refuses_as buses (λ (qs : List Question). AreWithoutBytes (qs ++ flat_map (refuses buses events) peers)) events peer more (refl, more)

-- ---- peers that are accepted

-- none of these peers has a connection, and no two of them are one
abbrev pub AreNew : List ℕ → List ℕ → Type 0
AreNew connected peers = IsDistinct (λ a b. a == b) (connected ++ peers)

pub differ_last : (xs : List ℕ) (y : ℕ) (ys : List ℕ) → AreNew xs (y ∷ ys) → IsNew y xs
unfolding IsDistinct
differ_last [] y ys h = tt
differ_last (x ∷ xs) y ys h = ((all_parts (λ z. (x == z) ≡ false) xs (y ∷ ys) h.0).1.0, differ_last xs y ys h.1)

differ_without : (xs : List ℕ) (y : ℕ) (ys : List ℕ) → AreNew xs (y ∷ ys) → AreNew xs ys
unfolding IsDistinct
differ_without [] y ys h = h.1
differ_without (x ∷ xs) y ys h =
    let parts = all_parts (λ z. (x == z) ≡ false) xs (y ∷ ys) h.0 in
    (all_append (λ z. (x == z) ≡ false) xs ys parts.0 parts.1.1, differ_without xs y ys h.1)

abbrev pub peers_in : List Accepted → List ℕ
peers_in accepts = map (λ accept. accept.peer) accepts

-- ---- after a turn

module _ (buses : List Bus) (stream : Stream buses) (before : ℕ → List ℕ) (stand : Stand) (calls : List Call)
    (fair : AllByRecursion IsFair calls) (fresh : (peer : ℕ) → IsNew peer stand.connected → before peer ≡ [])
    (was : IsCarried buses stream before stand) where
  abbrev timed_now : Stand
  timed_now = timed buses stand calls

  abbrev after : List Accepted → Stand
  after peers = fold (with_accept buses) timed_now peers

  abbrev Asks : List Accepted → Type 0
  Asks peers = map question calls
      ≡ expects buses stand.events ∷ Moments ∷ Accepts ∷
      (flat_map (refuses buses timed_now.events) peers ++ visits_ask buses (after peers).events calls (clients (after peers).slots))

  -- what is asked before the visits, none of it about a peer that has a slot, and then the visits
  pub record Begins (peers : List Accepted) : Type 0 where
    pub first : List Question
    pub still : AreWithoutBytes first
    pub asked : map question calls ≡ first ++ visits_ask buses (after peers).events calls (clients (after peers).slots)
    pub none : IsOfNone buses first (clients (after peers).slots)
    pub carried_before_visits : IsCarried buses stream before (after peers)

  none_first : (all : List Client) → IsOfNone buses (expects buses stand.events ∷ Moments ∷ Accepts ∷ []) all
  none_first [] = tt
  none_first (client ∷ all) = (refl, none_first all)

  begins : (peers : List Accepted) (more : List ℕ) → (peers ≡ []) ⊎ ((peer : Accepted) × (peers ≡ peer ∷ [])) → Asks peers
      → AreNew stand.connected (peers_in peers ++ more) → Begins peers
  begins [] more few asked new = record {
    first = expects buses stand.events ∷ Moments ∷ Accepts ∷ [];
    still = (refl, (refl, (refl, tt)));
    asked = asked;
    none = none_first _;
    carried_before_visits = (carried_after_moments buses stream before stand (filter_map moment_of calls) was).0;
  }
  begins (peer ∷ []) more few asked new =
      let t = carried_after_moments buses stream before stand (filter_map moment_of calls) was in
      let apart = differ_last _ _ more new in
      let here : IsNew peer.peer timed_now.connected = rw t.1 apart in
      record {
        first = expects buses stand.events ∷ Moments ∷ Accepts ∷ (refuses buses timed_now.events peer ++ []);
        still = (refl, (refl, (refl, refused_no_bytes buses timed_now.events (peer ∷ []))));
        asked = asked;
        none = none here (connects buses timed_now.events peer.granted) refl;
        carried_before_visits = carried_after_accept buses stream before timed_now peer here (fresh peer.peer apart) t.0;
      }
    where
      none : IsNew peer.peer timed_now.connected → (b : Bool) → connects buses timed_now.events peer.granted ≡ b
          → IsOfNone buses (expects buses stand.events ∷ Moments ∷ Accepts ∷ (refuses buses timed_now.events peer ++ []))
          (clients (with_accept buses timed_now peer).slots)
      none here true e =
          let nobody = ap (λ b. (if b then [] else Closes peer.peer ∷ []) ++ []) e in
          rw nobody (none_first (clients (with_accept buses timed_now peer).slots))
      none here false e =
          let same =
          ap (λ b. if b then with_connection buses timed_now peer
          else record timed_now { events = timed_now.events ++ Open peer.granted ∷ [] })
          e in
          let t = carried_after_moments buses stream before stand (filter_map moment_of calls) was in
          rw same (refused_of_none (due_next buses (course buses stand.events)) (slack buses (course buses stand.events)) buses
          timed_now.events peer (clients timed_now.slots) (new_unconnected peer.peer _ (clients timed_now.slots) here t.0.known))
  begins _ more few asked new = absurd (⊎_elim (λ e. let no = e in cc) (λ s. let no = s.1 in cc) few)

  pub turn_begins : (more : List ℕ) → map question calls ≡ turn_asks buses stand calls
      → AreNew stand.connected (peers_in (filter_map accept_of calls) ++ more) → Begins (filter_map accept_of calls)
  turn_begins more asked new =
      let peers = filter_map accept_of calls in
      let refused = flat_map (refuses buses timed_now.events) peers in
      let visits = visits_ask buses (after peers).events calls (clients (after peers).slots) in
      let of_peers =
      all_append (λ q. asks_peer q ≡ true) refused visits (refused_peers buses timed_now.events peers)
      (visits_peers buses (after peers).events calls (clients (after peers).slots)) in
      begins peers more (one_accept _ _ calls (refused ++ visits) asked of_peers) asked new

-- nothing was carried for a peer that has no connection
abbrev pub IsFresh : (ℕ → List ℕ) → List ℕ → Type 0
IsFresh before connected = (peer : ℕ) → IsNew peer connected → before peer ≡ []

module _ (buses : List Bus) (stream : Stream buses) where
  -- those that are still to come stay new
  new_accept : (stand : Stand) (peer : Accepted) (more : List ℕ) → AreNew stand.connected (peer.peer ∷ more)
      → AreNew (with_accept buses stand peer).connected more
  new_accept stand peer more h = accept_as buses (λ (s : Stand). AreNew s.connected more) stand peer
      (rw append_assoc h) (differ_without stand.connected peer.peer more h)

  new_begun : (peers : List Accepted) (more : List ℕ) (stand : Stand) → AreNew stand.connected (peers_in peers ++ more)
      → AreNew (fold (with_accept buses) stand peers).connected more
  new_begun [] more stand h = h
  new_begun (peer ∷ peers) more stand h = new_begun peers more _ (new_accept stand peer (peers_in peers ++ more) h)

  -- the connected peers only grow
  was_new_accept : (peer : ℕ) (other : Accepted) (stand : Stand) → IsNew peer (with_accept buses stand other).connected
      → IsNew peer stand.connected
  was_new_accept peer other stand = accept_as buses (λ (s : Stand). IsNew peer s.connected → IsNew peer stand.connected) stand other
      (λ h. (all_parts (λ accept. (accept == peer) ≡ false) stand.connected (other.peer ∷ []) h).0) (λ h. h)

  was_new : (peer : ℕ) (peers : List Accepted) (stand : Stand) → IsNew peer (fold (with_accept buses) stand peers).connected
      → IsNew peer stand.connected
  was_new peer [] stand h = h
  was_new peer (other ∷ peers) stand h = was_new_accept peer other stand (was_new peer peers (with_accept buses stand other) h)

  even_begun : (before : ℕ → List ℕ) (peers : List Accepted) (more : List ℕ) (stand : Stand)
      → AreNew stand.connected (peers_in peers ++ more) → IsFresh before stand.connected → IsCarried buses stream before stand
      → IsCarried buses stream before (fold (with_accept buses) stand peers)
  even_begun before [] more stand new fresh was = was
  even_begun before (peer ∷ peers) more stand new fresh was =
      let here = differ_last stand.connected peer.peer (peers_in peers ++ more) new in
      even_begun before peers more (with_accept buses stand peer) (new_accept stand peer (peers_in peers ++ more) new)
      (λ other h. fresh other (was_new_accept other peer stand h))
      (carried_after_accept buses stream before stand peer here (fresh peer.peer here) was)

-- ---- after a turn

module _ (buses : List Bus) (stream : Stream buses) (before : ℕ → List ℕ) (stand : Stand) (calls : List Call) (more : List ℕ)
    (new : AreNew stand.connected (peers_in (filter_map accept_of calls) ++ more)) (fresh : IsFresh before stand.connected)
    (was : IsCarried buses stream before stand) where
  abbrev peers : List Accepted
  peers = filter_map accept_of calls

  abbrev now : Stand
  now = timed buses stand calls

  same_connected : now.connected ≡ stand.connected
  same_connected = (carried_after_moments buses stream before stand (filter_map moment_of calls) was).1

  new_now : AreNew now.connected (peers_in peers ++ more)
  new_now = rw same_connected new

  pub new_turned : AreNew (turned buses stand calls).connected more
  new_turned = new_begun buses stream peers more now new_now

  pub fresh_turned : map question calls ≡ turn_asks buses stand calls
      → IsFresh (λ peer. before peer ++ carried buses stream peer calls) (turned buses stand calls).connected
  fresh_turned asked peer none =
      let first = expects buses stand.events ∷ Moments ∷ Accepts ∷ flat_map (refuses buses now.events) peers in
      let fresh_now : IsFresh before now.connected = λ other h. fresh other (rw same_connected at h) in
      let even_after =
      even_begun buses stream before peers more now new_now fresh_now
      (carried_after_moments buses stream before stand (filter_map moment_of calls) was).0 in
      let unconnected = new_unconnected peer _ _ none even_after.known in
      cc (
        fresh peer (rw same_connected at (was_new buses stream peer peers now none)),
        nothing_carried buses stream before (begun buses stand calls) calls first
            (refl, (refl, (refl, refused_no_bytes buses now.events peers))) asked peer unconnected,
      )

-- ---- who was accepted

-- as the door tells it
pub peers_trace : (calls : List Call) → filter_map peer_of (map door_call calls) ≡ map (λ accept. accept.peer) (filter_map accept_of calls)
peers_trace [] = refl
peers_trace (AcceptCall (Ok (Some peer)) granted ∷ calls) = ap (λ peers. peer ∷ peers) (peers_trace calls)
peers_trace (other ∷ calls) = peers_trace calls

-- ---- after all turns

-- the calls of these turns, one after another
abbrev pub joined : List (List Call) → List Call
joined all = flat_map (λ calls. calls) all

module _ (buses : List Bus) where
  -- in the turn, each peer that has a slot is a who, no two are one peer, and each visit asked what it was to ask
  pub record IsTurnOfPeers (stand : Stand) (calls : List Call) : Type 0 where
    pub known : ArePeersOf (begun buses stand calls).connected (clients (begun buses stand calls).slots)
    pub apart : PeersApart (clients (begun buses stand calls).slots)
    pub asked : AreAsked buses (begun buses stand calls).events calls (clients (begun buses stand calls).slots)
    pub fair : AllByRecursion IsFair calls

  module _ (stream : Stream buses) where
    abbrev CarriedAfter : (all : List (List Call)) (before : ℕ → List ℕ) (stand : Stand) → Type 0
    CarriedAfter all before stand = map stream.bytes (course buses (fold (turned buses) stand all).events).connections
        ≡ map (λ peer. before peer ++ carried buses stream peer (joined all)) (fold (turned buses) stand all).connected

    turns_carry : (all : List (List Call)) (before : ℕ → List ℕ) (stand : Stand) → AreTurnsAsked buses stand all
        → AllByRecursion IsFair (joined all) → AreNew stand.connected (peers_in (filter_map accept_of (joined all)))
        → IsFresh before stand.connected → IsCarried buses stream before stand
        → OfEachTurn buses IsTurnOfPeers stand all × CarriedAfter all before stand
    turns_carry [] before stand asked fair new fresh was = (tt, was.has ∙ simp append-nil)
    turns_carry (calls ∷ all) before stand asked fair new fresh was =
        let parts = all_parts IsFair calls (joined all) fair in
        let more = peers_in (filter_map accept_of (joined all)) in
        let apart = rw (filter_map-append, map-append) at new in
        let b = turn_begins buses stream before stand calls parts.0 fresh was more asked.0 apart in
        let s = b.carried_before_visits in
        let now = begun buses stand calls in
        let parted = visits_parted buses b.first now.events calls (clients now.slots) s.apart b.none b.asked in
        let here : IsTurnOfPeers stand calls = record { known = s.known; apart = s.apart; asked = parted; fair = parts.0 } in
        let rest = turns_carry all (λ peer. before peer ++ carried buses stream peer calls) (turned buses stand calls) asked.1 parts.1
        (new_turned buses stream before stand calls more apart fresh was)
        (fresh_turned buses stream before stand calls more apart fresh was asked.0)
        (carried_after_visits buses stream before now calls b.first b.still b.asked parts.0 b.none s) in
        ((here, rest.0), rest.1 ∙ simp (append_assoc, flat_map-append))

  -- the calls before the first moment, and then the turns, are all the calls
  turns_joined : (trace : List Call) → in_turn buses trace ++ joined (turns trace) ≡ trace
  turns_joined [] = refl
  turns_joined (ExpectCall due slack ∷ trace) = cc (turns_joined trace)
  turns_joined (call ∷ trace) = cc (take_while-cons (λ next. not (is_expect next)) call trace, turns_joined trace)

  module _ (count : ℕ) (trace : List Call) (served : IsServed buses count trace) (differ : PeersDiffer buses trace)
      (fair : AllByRecursion IsFair trace) where
    pub whole : joined (turns trace) ≡ trace
    whole = cc (no_calls (in_turn buses trace) (turns_parted buses empty_stand trace [] tt served.asked).0, turns_joined trace)

    all_turns : (stream : Stream buses)
        → OfEachTurn buses IsTurnOfPeers empty_stand (turns trace) × CarriedAfter stream (turns trace) (λ peer. []) empty_stand
    all_turns stream =
        let first : AreNew [] (peers_in (filter_map accept_of trace)) = rw peers_trace at differ in
        turns_carry stream (turns trace) (λ peer. []) empty_stand (turns_parted buses empty_stand trace [] tt served.asked).1
        (rw whole fair) (rw whole first) (λ peer h. refl)
        (record { has = refl; known = tt; apart = tt })

    pub turns_of_peers : OfEachTurn buses IsTurnOfPeers empty_stand (turns trace)
    turns_of_peers = (all_turns (fed_stream buses)).0

  -- each stream is what was carried for the peers
  carries : (stream : Stream buses) → OfEachServed buses (HasWhatIsCarried buses stream.bytes (carried buses stream))
  carries stream count trace served differ fair =
      rw ((all_turns count trace served differ fair stream).1, whole count trace served differ fair)

  pub sent_taken : SentIsTaken buses
  sent_taken = carries (sent_stream buses)

  pub fed_handed : FedIsHanded buses
  fed_handed = carries (fed_stream buses)
