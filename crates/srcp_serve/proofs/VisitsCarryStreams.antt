-- What each connection has of a stream, by its peer: the visits of a turn add what they carried for their peers.
use Rattle.srcp_serve.proofs.Names.{◌≡◌, ◌∙◌, ℕ, zero, suc, true, false, List, [], ◌∷◌, ◌++◌, map, filter, if◌then◌else◌, Option}
use Rattle.srcp_serve.proofs.Names.{Some, None, refl, ap, sym, subst, append-nil, append_assoc, ◌==◌, ◌+◌, length, ◌||◌}
use Rattle.srcp_serve.proofs.Names.{flat_map, list_any, AllByRecursion, Event, Open, all_filter, filter-map, Bus, course, start}
use Rattle.srcp_serve.proofs.Names.{happens, fault, fresh, Call, Accepted, Client, IsFair, is_about, visit, visit_events}
use Rattle.srcp_serve.proofs.Names.{Stand, clients, with_client, kept, is_close, with_moment, with_accept, Slots, Question}
use Rattle.srcp_serve.proofs.Names.{question, visited, visit_asks, visits_ask, asks_of, map-append, fold-append, CoreFault}
use Rattle.srcp_serve.proofs.Names.{filter-append, cond_both, add-one, all_weaker}
use Rattle.srcp_serve.proofs.Stream.{Stream, AreWithoutBytes, asks_bytes, put}
use Rattle.srcp_serve.proofs.CallsByTurnAndPeer.{IsNoneOf, PeersApart, AreAsked, IsOfNone, any_not, none_asked, not_any, same_peer}
use Rattle.srcp_serve.proofs.CallsByTurnAndPeer.{turned_round, visits_parted}

-- that connection is the peer's, and no other is
abbrev pub IsPeerOf : ℕ → ℕ → List ℕ → Type 0
IsPeerOf n peer [] = ⊥
IsPeerOf zero peer (who ∷ connected) = ⊥
IsPeerOf (suc zero) peer (who ∷ connected) = (who ≡ peer) × AllByRecursion (λ other. (other == peer) ≡ false) connected
IsPeerOf (suc (suc n)) peer (who ∷ connected) = ((who == peer) ≡ false) × IsPeerOf (suc n) peer connected

same_map : (f g : ℕ → List ℕ) (peer : ℕ) (connected : List ℕ) → ((other : ℕ) → (other == peer) ≡ false → f other ≡ g other)
    → AllByRecursion (λ other. (other == peer) ≡ false) connected → map f connected ≡ map g connected
same_map f g peer [] h a = refl
same_map f g peer (who ∷ connected) h a = cc (h who a.0, same_map f g peer connected h a.1)

-- what is put to the peer of that connection
put_peer : (f g : ℕ → List ℕ) (more : List ℕ) (n peer : ℕ) (connected : List ℕ) → IsPeerOf n peer connected
    → ((other : ℕ) → (other == peer) ≡ false → f other ≡ g other) → f peer ++ more ≡ g peer → put n more (map f connected) ≡ map g connected
put_peer f g more n peer [] i h e = absurd i
put_peer f g more zero peer (who ∷ connected) i h e = absurd i
put_peer f g more (suc zero) peer (who ∷ connected) i h e =
    cc (i.0, e, same_map f g peer connected h i.1)
put_peer f g more (suc (suc n)) peer (who ∷ connected) i h e =
    cc (h who i.0, put_peer f g more (suc n) peer connected i.1 h e)

-- ---- the visits of a turn

abbrev pub ArePeersOf : List ℕ → List Client → Type 0
ArePeersOf connected all = AllByRecursion (λ client. IsPeerOf client.conn client.peer connected) all

module _ (buses : List Bus) (stream : Stream buses) where
  -- what the calls carried for a peer
  abbrev pub carried : ℕ → List Call → List ℕ
  carried peer calls = flat_map (stream.carried_in peer) calls

  -- the calls about the peer say it
  pub carried_visit : (peer : ℕ) (calls : List Call) → carried peer (filter (is_about peer) calls) ≡ carried peer calls
  carried_visit peer [] = refl
  carried_visit peer (call ∷ calls) =
      let mine = filter (is_about peer) calls in
      cond_both _ _ _ (λ (cs : List Call). carried peer cs ≡ stream.carried_in peer call ++ carried peer mine) (λ e. refl)
      (λ e. ap (λ t. t ++ carried peer mine) (sym (stream.own peer call e)))
      ∙ ap (λ t. stream.carried_in peer call ++ t) (carried_visit peer calls)

  -- calls without bytes carry none
  carried_none : (peer : ℕ) (calls : List Call) → AreWithoutBytes (map question calls) → carried peer calls ≡ []
  carried_none peer [] h = refl
  carried_none peer (call ∷ calls) h = cc (stream.none peer call h.0, carried_none peer calls h.1)

  -- for who is still to be visited nothing was carried yet
  abbrev pub so_far : (ℕ → List ℕ) → List Call → List Client → ℕ → List ℕ
  so_far before calls all peer = before peer ++ (if list_any (λ client. client.peer == peer) all then [] else carried peer calls)

  -- with its own visit, all that its calls carry
  own_now : (peer : ℕ) (calls : List Call) (before : ℕ → List ℕ) (client : Client) (all : List Client) → (client.peer == peer) ≡ true
      → list_any (λ x. x.peer == peer) all ≡ false
      → so_far before calls (client ∷ all) peer ++ carried peer (filter (is_about peer) calls) ≡ so_far before calls all peer
  own_now peer calls before client all self none =
      rw (self, none, append-nil (before peer)) (ap (λ t. before peer ++ t) (carried_visit peer calls))

  -- the connections have these bytes after those events
  abbrev pub Has : List (List ℕ) → List Event → Type 0
  Has texts events = map stream.bytes (course buses events).connections ≡ texts

  module _ (connected : List ℕ) (before : ℕ → List ℕ) (calls : List Call) (fair : AllByRecursion IsFair calls) where
    -- a visit adds what its calls carried
    pub carried_by_visit : (events : List Event) (client : Client) (all : List Client) → IsPeerOf client.conn client.peer connected
        → IsNoneOf client.peer all → map question (visit calls client) ≡ visit_asks buses events (visit calls client) client
        → Has (map (so_far before calls (client ∷ all)) connected) events
        → Has (map (so_far before calls all) connected) (events ++ visit_events calls client)
    carried_by_visit events client all known apart asked a =
        let more = carried client.peer (visit calls client) in
        let one = stream.visits client events (visit calls client) (map (so_far before calls (client ∷ all)) connected) asked
        (all_filter IsFair (is_about client.peer) calls fair) a in
        let self = same_peer client.peer in
        let own : so_far before calls (client ∷ all) client.peer ++ more ≡ so_far before calls all client.peer =
        own_now client.peer calls before client all self (any_not (λ x. x.peer == client.peer) all apart) in
        let others : (other : ℕ) → (other == client.peer) ≡ false
        → so_far before calls (client ∷ all) other ≡ so_far before calls all other =
        λ other e. ap (λ b. before other ++ (if b || list_any (λ x. x.peer == other) all then [] else carried other calls))
        (turned_round other client.peer e) in
        one ∙ put_peer (so_far before calls (client ∷ all)) (so_far before calls all) more client.conn client.peer connected known others
        own

    pub carried_by_visits : (events : List Event) (all : List Client) → ArePeersOf connected all → PeersApart all
        → AreAsked buses events calls all → Has (map (so_far before calls all) connected) events
        → Has (map (so_far before calls []) connected) (events ++ flat_map (visit_events calls) all)
    carried_by_visits events [] known apart asked a = rw append-nil a
    carried_by_visits events (client ∷ all) known apart asked a =
        let now = carried_by_visit events client all known.0 apart.0 asked.0 a in
        rw append_assoc at (carried_by_visits (events ++ visit_events calls client) all known.1 apart.1 asked.1 now)

-- ---- slots

-- what holds whether its peer keeps the slot or not
kept_as : (calls : List Call) (client : Client) (P : Option Client → Type 0) → P None → P (Some client) → P (kept calls (Some client))
kept_as calls client P none some = cond_both (list_any is_close (visit calls client)) None (Some client) P (λ e. none) (λ e. some)

pub kept_all : (P : Client → Type 0) (calls : List Call) (slots : Slots) → AllByRecursion P (clients slots)
    → AllByRecursion P (clients (map (kept calls) slots))
kept_all P calls [] h = tt
kept_all P calls (None ∷ slots) h = kept_all P calls slots h
kept_all P calls (Some client ∷ slots) h =
    let more = kept_all P calls slots h.1 in
    kept_as calls client (λ (s : Option Client). AllByRecursion P (clients (s ∷ map (kept calls) slots))) more (h.0, more)

pub kept_apart : (calls : List Call) (slots : Slots) → PeersApart (clients slots) → PeersApart (clients (map (kept calls) slots))
kept_apart calls [] h = tt
kept_apart calls (None ∷ slots) h = kept_apart calls slots h
kept_apart calls (Some client ∷ slots) h =
    let more = kept_apart calls slots h.1 in
    kept_as calls client (λ (s : Option Client). PeersApart (clients (s ∷ map (kept calls) slots))) more
    (kept_all (λ other. (other.peer == client.peer) ≡ false) calls slots h.0, more)

pub connected_all : (P : Client → Type 0) (client : Client) (slots : Slots) → P client → AllByRecursion P (clients slots)
    → AllByRecursion P (clients (with_client client slots))
connected_all P client [] new h = tt
connected_all P client (None ∷ slots) new h = (new, h)
connected_all P client (Some other ∷ slots) new h = (h.0, connected_all P client slots new h.1)

pub connected_apart : (client : Client) (slots : Slots) → IsNoneOf client.peer (clients slots) → PeersApart (clients slots)
    → PeersApart (clients (with_client client slots))
connected_apart client [] new h = tt
connected_apart client (None ∷ slots) new h = (new, h)
connected_apart client (Some other ∷ slots) new h = (
  connected_all (λ x. (x.peer == other.peer) ≡ false) client slots (turned_round other.peer client.peer new.0) h.0,
  connected_apart client slots new.1 h.1,
)

-- ---- the peers of connections

-- the peer is none of them
abbrev pub IsNew : ℕ → List ℕ → Type 0
IsNew peer connected = AllByRecursion (λ accept. (accept == peer) ≡ false) connected

pub new_push : (peer other : ℕ) (connected : List ℕ) → IsNew peer connected → (other == peer) ≡ false → IsNew peer (connected ++ other ∷ [])
new_push peer other [] h e = (e, tt)
new_push peer other (who ∷ connected) h e = (h.0, new_push peer other connected h.1 e)

pub peer_before : (n peer new : ℕ) (connected : List ℕ) → (new == peer) ≡ false → IsPeerOf n peer connected
    → IsPeerOf n peer (connected ++ new ∷ [])
peer_before n peer new [] e h = absurd h
peer_before zero peer new _ e h = absurd h
peer_before (suc zero) peer new _ e h = (h.0, new_push peer new _ h.1 e)
peer_before (suc (suc n)) peer new _ e h = (h.0, peer_before (suc n) peer new _ e h.1)

peer_next : (peer : ℕ) (connected : List ℕ) → IsNew peer connected → IsPeerOf (suc (length connected)) peer (connected ++ peer ∷ [])
peer_next peer [] h = (refl, tt)
peer_next peer (who ∷ connected) h = (h.0, peer_next peer connected h.1)

pub peer_last : (peer : ℕ) (connected : List ℕ) → IsNew peer connected → IsPeerOf (length connected + 1) peer (connected ++ peer ∷ [])
peer_last peer connected h = rw add-one (peer_next peer connected h)

-- a new peer has no connection
peer_other : (n peer new : ℕ) (connected : List ℕ) → IsNew new connected → IsPeerOf n peer connected → (peer == new) ≡ false
peer_other n peer new [] h i = absurd i
peer_other zero peer new _ h i = absurd i
peer_other (suc zero) peer new _ h i = subst (λ (p : ℕ). (p == new) ≡ false) i.0 h.0
peer_other (suc (suc n)) peer new _ h i = peer_other (suc n) peer new _ h.1 i.1

-- so it has no slot
pub new_unconnected : (new : ℕ) (connected : List ℕ) (all : List Client) → IsNew new connected → ArePeersOf connected all → IsNoneOf new all
new_unconnected new connected all h = all_weaker _ _ (λ client k. peer_other client.conn client.peer new connected h k) all

pub peers_before : (new : ℕ) (connected : List ℕ) (all : List Client) → IsNew new connected → ArePeersOf connected all
    → ArePeersOf (connected ++ new ∷ []) all
peers_before new connected all h = all_weaker _ _ (λ client k. peer_before client.conn client.peer new connected
    (turned_round client.peer new (peer_other client.conn client.peer new connected h k)) k) all

-- ---- the beginning of a turn

module _ (buses : List Bus) (stream : Stream buses) (before : ℕ → List ℕ) where
  -- each connection has what was carried before for its peer, and who has a slot has that connection
  pub record IsCarried (stand : Stand) : Type 0 where
    pub has : Has buses stream (map before stand.connected) stand.events
    pub known : ArePeersOf stand.connected (clients stand.slots)
    pub apart : PeersApart (clients stand.slots)

  pub carried_after_moment : (stand : Stand) (moment : ℕ) → IsCarried stand → IsCarried (with_moment buses stand moment)
  carried_after_moment stand moment h = record { has = rw fold-append h.has; known = h.known; apart = h.apart }

  pub carried_after_accept : (stand : Stand) (accept : Accepted) → IsNew accept.peer stand.connected → before accept.peer ≡ []
      → IsCarried stand → IsCarried (with_accept buses stand accept)
  carried_after_accept stand accept new none h = by (fault buses (course buses stand.events) (Open accept.granted)) refl
    where
      next : course buses (stand.events ++ Open accept.granted ∷ []) ≡ happens buses (course buses stand.events) (Open accept.granted)
      next = fold-append (happens buses) start stand.events (Open accept.granted ∷ [])

      by : (o : Option CoreFault) → fault buses (course buses stand.events) (Open accept.granted) ≡ o
          → IsCarried (with_accept buses stand accept)
      by None e =
          let conns = (course buses stand.events).connections in
          let texts : map stream.bytes (conns ++ fresh ∷ []) ≡ map before (stand.connected ++ accept.peer ∷ []) =
          cc (map-append stream.bytes conns (fresh ∷ []), h.has, stream.begins, map-append before stand.connected (accept.peer ∷ [])) in
          let client : Client = record { peer = accept.peer; conn = length stand.connected + 1 } in
          rw e (record {
            has = rw (next, e) texts;
            known =
                connected_all (λ client. IsPeerOf client.conn client.peer (stand.connected ++ accept.peer ∷ [])) client stand.slots
                (peer_last accept.peer stand.connected new) (peers_before accept.peer stand.connected (clients stand.slots) new h.known);
            apart =
                connected_apart client stand.slots (new_unconnected accept.peer stand.connected (clients stand.slots) new h.known) h.apart;
          })
      by (Some cause) e =
          let has : Has buses stream (map before stand.connected) (stand.events ++ Open accept.granted ∷ []) = rw (next, e) h.has in
          rw e (record { has = has; known = h.known; apart = h.apart })

-- ---- after the visits of a turn

module _ (buses : List Bus) (stream : Stream buses) (before : ℕ → List ℕ) (stand : Stand) (calls : List Call) (first : List Question)
    (still : AreWithoutBytes first) (asked : map question calls ≡ first ++ visits_ask buses stand.events calls (clients stand.slots)) where
  -- nothing is carried for a peer that has no slot
  pub nothing_carried : (peer : ℕ) → IsNoneOf peer (clients stand.slots) → carried buses stream peer calls ≡ []
  nothing_carried peer none =
      let are : map question (filter (is_about peer) calls) ≡ filter (asks_of peer) first =
      cc (
        filter-map question (asks_of peer) calls,
        filter-append (asks_of peer) first (visits_ask buses stand.events calls (clients stand.slots)),
        none_asked buses peer stand.events calls (clients stand.slots) none,
        append-nil (filter (asks_of peer) first),
      ) in
      sym (carried_visit buses stream peer calls)
      ∙ carried_none buses stream peer (filter (is_about peer) calls)
      (rw are (all_filter (λ q. asks_bytes q ≡ false) (asks_of peer) first still))

  pub at_first : (peer : ℕ) → before peer ≡ so_far buses stream before calls (clients stand.slots) peer
  at_first peer =
      cond_both (list_any (λ client. client.peer == peer) (clients stand.slots)) [] (carried buses stream peer calls)
      (λ (more : List ℕ). before peer ≡ before peer ++ more) (λ e. sym (append-nil _))
      (λ e. cc (append-nil (before peer), nothing_carried peer (not_any _ (clients stand.slots) e)))

  pub carried_after_visits : AllByRecursion IsFair calls → IsOfNone buses first (clients stand.slots)
      → IsCarried buses stream before stand
      → IsCarried buses stream (λ peer. before peer ++ carried buses stream peer calls) (visited buses stand calls)
  carried_after_visits fair none h =
      let parted = visits_parted buses first stand.events calls (clients stand.slots) h.apart none asked in
      let same : before ≡ so_far buses stream before calls (clients stand.slots) = λ i peer. at_first peer i in
      let begun = rw same at h.has in
      record {
        has = carried_by_visits buses stream stand.connected before calls fair stand.events (clients stand.slots) h.known h.apart parted
            begun;
        known = kept_all (λ client. IsPeerOf client.conn client.peer stand.connected) calls stand.slots h.known;
        apart = kept_apart calls stand.slots h.apart;
      }
