-- A panel that takes what it is handed is settled: its visits, turn after turn, and the two laws.
use Rattle.srcp_serve.proofs.Names.{◌≡◌, ◌∙◌, ℕ, zero, suc, true, false, List, [], ◌∷◌, ◌++◌, map, if◌then◌else◌, Some, None, refl, ap, sym}
use Rattle.srcp_serve.proofs.Names.{subst, arith, append-nil, append_assoc, ◌==◌, ◌+◌, ◌*◌, ◌≤◌, length, ◌⊎◌, inl, inr, length-append}
use Rattle.srcp_serve.proofs.Names.{filter_map, flat_map, fold, slice_get, list_any, AllByRecursion, all_append, all_filter, Bus, Event}
use Rattle.srcp_serve.proofs.Names.{Bytes, Room, Shut, Call, OfEachVisit, Client, Stand, begun, exchange, is_close, moment_of, accept_of}
use Rattle.srcp_serve.proofs.Names.{piece_of, rooms, with_client, clients, visit, visit_events, with_accept, with_moment, Slots}
use Rattle.srcp_serve.proofs.Names.{IsFair, OfEachTurn, question, turned, visit_asks, is_about, empty_stand, flat_map-append, slice_get-map}
use Rattle.srcp_serve.proofs.Names.{Next, IsLayout, course, history, rows, brought, brought_in, ltb-false, fold-append, Change}
use Rattle.srcp_serve.proofs.Names.{Shown, beyond, Connection, History, cursor_at, is_open, is_settled, owed, unsent, untold, waiting}
use Rattle.srcp_serve.proofs.Names.{no_lists, eqb-false, ne_eqb, events_of}
use Rattle.srcp_serve.proofs.VisitsCarryStreams.{ArePeersOf, IsPeerOf}
use Rattle.srcp_serve.proofs.CallsByTurnAndPeer.{IsNoneOf, PeersApart, AreAsked, accept_as, each_turn, all_if, fold_keeps, turned_round}
use Rattle.srcp_serve.proofs.PacedTurnsSparePanels.{opening_events, opens, begun_events, turn_events, turned_events}
use Rattle.srcp_serve.proofs.OnlyRoomSends.{AreOfOthers, is_of}
use Rattle.srcp_serve.proofs.VisitsSendWhatIsTaken.{all_parts}
use Rattle.srcp_serve.specs.Settling.{SettlesSoon, TakesAll, TakesWaits, WaitsAreGoneAfterAVisit}
use Rattle.srcp_serve.proofs.TurnsCarryStreams.{IsTurnOfPeers, turns_of_peers}
use Rattle.srcp_core.proofs.CourseLaws.RoomGivesWhatIsOwed.{no_map}
use Rattle.srcp_serve.proofs.Settling.PanelsTakeTheirLines.{Panel, panel_others, brought_adds}
use Rattle.srcp_serve.proofs.Settling.VisitsWriteUntilNothingIsLeft.{one_unless_nil, visited_whole}
use Rattle.srcp_feed.specs.declared.feed.Next.TheVariants.{Told, Listed}

-- ---- slots

abbrev pub HasSlot : ℕ → Client → Slots → Type 0
HasSlot slot client slots = slice_get slots slot ≡ Some (Some client)

connected_stays : (new : Client) (slots : Slots) (slot : ℕ) (client : Client) → HasSlot slot client slots
    → HasSlot slot client (with_client new slots)
connected_stays new [] slot client e = cc
connected_stays new (None ∷ slots) zero client e = cc
connected_stays new (None ∷ slots) (suc slot) client e = e
connected_stays new (Some other ∷ slots) zero client e = e
connected_stays new (Some other ∷ slots) (suc slot) client e = connected_stays new slots slot client e

-- those that are visited before it and after it
pub record IsAmong (client : Client) (all : List Client) : Type 0 where
  pub before : List Client
  pub rest : List Client
  pub are : all ≡ before ++ client ∷ rest

pub among_clients : (slots : Slots) (slot : ℕ) (client : Client) → HasSlot slot client slots → IsAmong client (clients slots)
among_clients [] slot client e = cc
among_clients (None ∷ slots) zero client e = cc
among_clients (None ∷ slots) (suc slot) client e = among_clients slots slot client e
among_clients (Some other ∷ slots) zero client e = record { before = []; rest = clients slots; are = cc }
among_clients (Some other ∷ slots) (suc slot) client e =
    let more = among_clients slots slot client e in
    record { before = other ∷ more.before; rest = more.rest; are = ap (λ all. other ∷ all) more.are }

-- ---- numbers

peer_same : (n a b : ℕ) (connected : List ℕ) → IsPeerOf n a connected → IsPeerOf n b connected → a ≡ b
peer_same n a b [] x y = absurd x
peer_same zero a b (who ∷ connected) x y = absurd x
peer_same (suc zero) a b (who ∷ connected) x y = sym x.0 ∙ y.0
peer_same (suc (suc n)) a b (who ∷ connected) x y = peer_same (suc n) a b _ x.1 y.1

-- peers that differ have connections that differ
conns_differ : (m a n b : ℕ) (connected : List ℕ) → IsPeerOf m a connected → IsPeerOf n b connected → (a == b) ≡ false → (m == n) ≡ false
conns_differ m a n b connected x y e = ne_eqb m n (λ same. eqb-false a b e (peer_same n a b _ (rw same at x) y))

-- none of them has that connection
abbrev pub AreOthers : ℕ → List Client → Type 0
AreOthers n all = AllByRecursion (λ client. (client.conn == n) ≡ false) all

rest_others : (connected : List ℕ) (client : Client) (rest : List Client) → IsPeerOf client.conn client.peer connected
    → ArePeersOf connected rest
    → IsNoneOf client.peer rest → AreOthers client.conn rest
rest_others connected client [] g k h = tt
rest_others connected client (other ∷ rest) g k h =
    (conns_differ _ _ _ _ _ k.0 g h.0, rest_others _ client rest g k.1 h.1)

-- none of the others has its connection
pub others_apart : (connected : List ℕ) (before : List Client) (client : Client) (rest : List Client)
    → ArePeersOf connected (before ++ client ∷ rest)
    → PeersApart (before ++ client ∷ rest) → AreOthers client.conn before × AreOthers client.conn rest
others_apart connected [] client rest k h = (tt, rest_others _ client rest k.0 k.1 h.0)
others_apart connected (other ∷ before) client rest k h =
    let more = others_apart _ before client rest k.1 h.1 in
    let own = (all_parts (λ (s : Client). IsPeerOf s.conn s.peer connected) before (client ∷ rest) k.1).1.0 in
    let differs = (all_parts (λ (s : Client). (s.peer == other.peer) ≡ false) before (client ∷ rest) h.0).1.0 in
    ((conns_differ _ _ _ _ _ k.0 own (turned_round client.peer other.peer differs), more.0), more.1)

-- ---- events

module _ (n : ℕ) where
  each_of : {X : Type 0} (event : X → Event) (xs : List X) → ((x : X) → is_of n (event x) ≡ false) → AreOfOthers n (map event xs)
  each_of event [] h = tt
  each_of event (x ∷ xs) h = (h x, each_of event xs h)

  pub opening_others : (calls : List Call) → AreOfOthers n (opening_events calls)
  opening_others calls = all_append (λ event. is_of n event ≡ false) _ _ (each_of _ (filter_map moment_of calls) (λ x. refl))
      (each_of opens (filter_map accept_of calls) (λ x. refl))

  pub visits_others : (calls : List Call) (all : List Client) → AreOthers n all → AreOfOthers n (flat_map (visit_events calls) all)
  visits_others calls [] h = tt
  visits_others calls (client ∷ all) h =
      let own = visit calls client in
      let Other : Event → Type 0 = λ event. is_of n event ≡ false in
      all_append Other (visit_events calls client) (flat_map (visit_events calls) all)
      (all_append Other (exchange client.conn own) (if list_any is_close own then Shut client.conn ∷ [] else [])
      (all_append Other (map (Bytes client.conn) (filter_map piece_of own)) (map (Room client.conn) (rooms own))
      (each_of (Bytes client.conn) (filter_map piece_of own) (λ x. h.0)) (each_of (Room client.conn) (rooms own) (λ x. h.0)))
      (all_if Other _ (Shut client.conn ∷ []) [] (h.0, tt) tt)) (visits_others calls all h.1)

-- what holds of the visit in the middle
pub visit_in : (buses : List Bus) (Law : List Event → List Call → Client → Type 0) (events : List Event) (calls : List Call)
    (before : List Client) (client : Client) (rest : List Client)
    → OfEachVisit buses Law events calls (before ++ client ∷ rest) → Law (events ++ flat_map (visit_events calls) before) calls client
visit_in buses Law events calls [] client rest h = rw append-nil h.0
visit_in buses Law events calls (other ∷ before) client rest h =
    rw append_assoc at (visit_in buses Law (events ++ visit_events calls other) calls before client rest h.1)

-- ---- turns without a change, in each of which the peer of an information session takes all, settle the session

-- a visit that does not close its peer
pub stays_exchange : (calls : List Call) (client : Client) → list_any is_close (visit calls client) ≡ false → visit_events calls client
    ≡ exchange client.conn (visit calls client)
stays_exchange calls client e = simp (e, append-nil)

neither : (a b : ℕ) → a + b ≡ 0 → (a ≡ 0) × (b ≡ 0)
neither a b e = (omega arith, omega arith)

module _ (buses : List Bus) (layout : IsLayout buses) (slot : ℕ) (client : Client) where
  -- the turn brought no change, and the peer took all
  abbrev pub IsStill : Stand → List Call → Type 0
  IsStill stand calls = (brought_in buses stand calls ≡ 0) × TakesAll calls client

  -- so often that nothing is left
  pub turns_settle : (all : List (List Call)) (stand : Stand) (bytes : List ℕ) (nexts : List Next)
      → OfEachTurn buses (IsTurnOfPeers buses) stand all → OfEachTurn buses (IsStill) stand all
      → HasSlot slot client stand.slots
      → Panel buses client.conn stand.events bytes nexts → length nexts + one_unless_nil bytes ≤ 300 * length all
      → Panel buses client.conn (fold (turned buses) stand all).events [] []
  turns_settle [] stand bytes nexts t still has p few = nothing bytes nexts p few
    where
      nothing : (bytes : List ℕ) (nexts : List Next) → Panel buses client.conn stand.events bytes nexts
          → length nexts + one_unless_nil bytes ≤ 300 * 0 → Panel buses client.conn stand.events [] []
      nothing [] [] p few = p
      nothing [] (what ∷ nexts) p few = absurd (omega (arith, few))
      nothing (byte ∷ bytes) nexts p few = absurd (omega (arith, few))
  turns_settle (calls ∷ all) stand bytes nexts t still has p few =
      let n : ℕ = client.conn in
      let now = begun buses stand calls in
      let Stays : Stand → Type 0 = λ s. HasSlot slot client s.slots in
      let here : HasSlot slot client now.slots = fold_keeps Stays (with_accept buses)
      (λ s accept h. accept_as buses Stays s accept (connected_stays _ s.slots slot client h) h) (filter_map accept_of calls) _
      (fold_keeps Stays (with_moment buses) (λ s moment h. h) (filter_map moment_of calls) stand has) in
      let among = among_clients now.slots slot client here in
      let apart = others_apart now.connected among.before client among.rest (rw among.are at t.0.known)
      (rw among.are at t.0.apart) in
      let first = opening_events calls in
      let before = flat_map (visit_events calls) among.before in
      let own = visit_events calls client in
      let rest = flat_map (visit_events calls) among.rest in
      let a = stand.events ++ first in
      let b = a ++ before in
      let c = b ++ own in
      let parted : turn_events buses stand calls ≡ first ++ (before ++ (own ++ rest)) =
      cc (flat_map-append (visit_events calls) among.before (client ∷ among.rest)) in
      let nothing : brought buses stand.events (first ++ (before ++ (own ++ rest))) ≡ 0 = cc (turned_events buses stand calls, still.0.0) in
      let x = neither (brought buses stand.events first) (brought buses a (before ++ (own ++ rest)))
      (sym (brought_adds buses stand.events first (before ++ (own ++ rest))) ∙ nothing) in
      let y = neither (brought buses a before) (brought buses b (own ++ rest)) (sym (brought_adds buses a before (own ++ rest)) ∙ x.1) in
      let z = neither (brought buses b own) (brought buses c rest) (sym (brought_adds buses b own rest) ∙ y.1) in
      let at_a = panel_others buses n stand.events bytes nexts p layout first (opening_others n calls) x.0 in
      let at_b = panel_others buses n a bytes nexts at_a layout before (visits_others n calls among.before apart.0) y.0 in
      let asked = rw begun_events at (visit_in buses _ now.events calls among.before client among.rest (rw among.are at t.0.asked)) in
      let v = visited_whole buses layout client b (visit calls client) bytes nexts at_b asked
      (all_filter IsFair (is_about client.peer) calls t.0.fair) still.0.1.keeps still.0.1.whole in
      let at_c = subst (λ (es : List Event). Panel buses n (b ++ es) [] v.rest) (sym (stays_exchange calls client v.stays)) v.panel in
      let at_end = panel_others buses n c [] v.rest at_c layout rest (visits_others n calls among.rest apart.1) z.1 in
      let end : c ++ rest ≡ (turned buses stand calls).events =
      cc (
        append_assoc b own rest,
        append_assoc a before (own ++ rest),
        append_assoc stand.events first (before ++ (own ++ rest)),
        turned_events buses stand calls,
      ) in
      turns_settle all (turned buses stand calls) [] v.rest t.1 still.1 (rw (slice_get-map, here, v.stays)) (rw end at at_end)
      (fewer v.lines v.rest v.whole v.ends)
    where
      fewer : (lines rest : List Next) → nexts ≡ lines ++ rest → (rest ≡ []) ⊎ (length lines + one_unless_nil bytes ≡ 300)
          → length rest + 0 ≤ 300 * length all
      fewer lines rest whole (inl none) = omega (arith, ap {B = ℕ} length none)
      fewer lines rest whole (inr many) =
          let size : length nexts ≡ length lines + length rest = rw (whole, length-append lines rest) in omega (arith, size, many, few)

-- ---- the laws of panels that take what they are handed

module _ (buses : List Bus) where
  -- the later turns
  later_turns : (Law : Stand → List Call → Type 0) (before after : List (List Call)) (stand : Stand)
      → OfEachTurn buses Law stand (before ++ after) → OfEachTurn buses Law (fold (turned buses) stand before) after
  later_turns Law [] after stand h = h
  later_turns Law (calls ∷ before) after stand h = later_turns Law before after (turned buses stand calls) h.1

  pub settles_soon : SettlesSoon buses
  settles_soon layout count trace served differ fair before after parts slot client has conn is still enough later there =
      let now = fold (turned buses) empty_stand before in
      let u = course buses (events_of buses trace) in
      let due = owed conn _ _ in
      let runs = later_turns _ before after _ (rw parts at (turns_of_peers buses count trace served differ fair)) in
      let p : Panel buses client.conn now.events (unsent conn) due = record { conn = conn; is = is; left = refl; owes = refl } in
      let end = ap (λ (s : Stand). s.events) (sym (fold-append _ _ before after) ∙ ap (fold (turned buses) empty_stand) (sym parts)) in
      let q = rw end at (turns_settle buses layout slot client after now _ due runs still has p enough) in
      let found = sym q.is.there ∙ there in
      let same : q.conn ≡ later = cc in
      let settled : is_settled q.conn (history buses u) (rows buses u) ≡ true = cc (q.is.open_now, q.is.info, q.left, q.owes) in
      subst (λ (c : Connection). is_settled c (history buses u) (rows buses u) ≡ true) same settled

  -- ---- the changes that wait

  -- once as many lines are given as changes waited, none waits
  none_waits : (changes : List Change) (listed : List Shown) (lines rest : List Next) (more : List Change) (others : List Next)
      → map Told changes ++ map Listed listed ≡ lines ++ rest → length changes ≤ length lines → rest ≡ map Told more ++ others → more ≡ []
  none_waits changes listed lines rest [] others e h r = refl
  none_waits (change ∷ changes) listed [] rest _ others e h r = absurd (omega (arith, h))
  none_waits (change ∷ changes) listed (line ∷ lines) rest _ others e h r =
      none_waits changes listed lines rest _ others (cc) (omega (arith, h)) r
  none_waits [] (row ∷ listed) (line ∷ lines) rest _ others e h r = none_waits [] listed lines rest _ others (cc) (omega (arith, h)) r
  none_waits [] [] (line ∷ lines) rest (m ∷ more) others e h r = cc
  none_waits [] [] [] rest _ others e h r = let no = e ∙ r in cc
  none_waits [] (row ∷ listed) [] rest _ others e h r = let no = e ∙ r in cc

  -- what an open information session is owed
  owed_is : (conn : Connection) (h : History) (shown : List Shown) → is_open conn ≡ true → conn.info ≡ true → owed conn h shown
      ≡ map Told (untold conn h) ++ map Listed (beyond (cursor_at conn (length h)) shown)
  owed_is conn h shown up info = cc

  takes_waits : (layout : IsLayout buses) (events : List Event) (calls : List Call) (client : Client) → map question (visit calls client)
      ≡ visit_asks buses events (visit calls client) client → AllByRecursion IsFair calls → TakesWaits buses events calls client
  takes_waits layout events calls client asked fair conn later is takes there =
      let w = course buses events in
      let h = history buses w in
      let shown = rows buses w in
      let p : Panel buses client.conn events (unsent conn) (owed conn h shown) =
      record { conn = conn; is = is; left = refl; owes = refl } in
      let v = visited_whole buses layout client events (visit calls client) (unsent conn) (owed conn h shown) p asked
      (all_filter IsFair (is_about client.peer) calls fair) takes.keeps takes.whole in
      let q : Panel buses client.conn (events ++ visit_events calls client) [] v.rest = rw (stays_exchange calls client v.stays) v.panel in
      let u = course buses (events ++ visit_events calls client) in
      let past = history buses u in
      let found = sym q.is.there ∙ there in
      let same : q.conn ≡ later = cc in
      let few = ltb-false 256 (length (untold conn h)) is.fine in
      let one : one_unless_nil (unsent conn) ≤ 1 = grind arith in
      let left = sym q.owes ∙ owed_is q.conn past (rows buses u) q.is.open_now q.is.info in
      let none =
      gone (untold conn h) (beyond (cursor_at conn (length h)) shown) v.lines v.rest (untold q.conn past)
      (map Listed (beyond (cursor_at q.conn (length past)) (rows buses u))) (one_unless_nil (unsent conn))
      (sym (owed_is conn h shown is.open_now is.info) ∙ v.whole) few one left v.ends in
      subst (λ (c : Connection). waiting c past ≡ []) same (cc)
    where
      gone : (changes : List Change) (listed : List Shown) (lines rest : List Next) (more : List Change) (others : List Next) (one : ℕ)
          → map Told changes ++ map Listed listed ≡ lines ++ rest → length changes ≤ 256 → one ≤ 1 → rest ≡ map Told more ++ others
          → (rest ≡ []) ⊎ (length lines + one ≡ 300) → more ≡ []
      gone changes listed lines rest more others one e few low r (inl none) =
          no_map Told more (no_lists (map Told more) others (sym r ∙ none)).0
      gone changes listed lines rest more others one e few low r (inr many) =
          none_waits changes listed lines rest more others e (omega (arith, few, low, many)) r

  visits_take : (layout : IsLayout buses) (events : List Event) (calls : List Call) (all : List Client) → AllByRecursion IsFair calls
      → AreAsked buses events calls all → OfEachVisit buses (TakesWaits buses) events calls all
  visits_take layout events calls [] fair asked = tt
  visits_take layout events calls (client ∷ all) fair asked =
      (takes_waits layout events calls client asked.0 fair, visits_take layout (events ++ visit_events calls client) calls all fair asked.1)

  pub waits_are_gone : WaitsAreGoneAfterAVisit buses
  waits_are_gone layout count trace served differ fair =
      each_turn buses (IsTurnOfPeers buses) _ (λ stand calls t. visits_take layout (begun buses stand calls).events calls
      (clients (begun buses stand calls).slots) t.fair t.asked) _ _ (turns_of_peers buses count trace served differ fair)
