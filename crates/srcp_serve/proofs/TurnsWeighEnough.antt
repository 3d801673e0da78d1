-- The lines that end in the bytes of a turn weigh no more than the door weighs what it handed out in the turn.
use Rattle.srcp_serve.proofs.Names.{◌≡◌, ◌∙◌, ℕ, zero, suc, ◌+◌, ◌≤◌, ◌==◌, Bool, true, false, List, [], ◌∷◌, ◌++◌, map, filter, drop}
use Rattle.srcp_serve.proofs.Names.{Option, length, Some, None, Ok, refl, ap, sym, subst, arith, append-nil, append_assoc, if◌then◌else◌}
use Rattle.srcp_serve.proofs.Names.{nat_tests, AllByRecursion, filter_map, flat_map, fold, fold-append, filter_map-append, map-append}
use Rattle.srcp_serve.proofs.Names.{flat_map-append, drop_at, Bus, Event, At, Bytes, Room, Shut, Piece, World, Connection, course}
use Rattle.srcp_serve.proofs.Names.{happens, start, numbered, open_connection, Call, ReadCall, Client, Stand, question, IsFair}
use Rattle.srcp_serve.proofs.Names.{handed_out, handed_out_in, is_about, piece_of, accept_of, moment_of, clients, begun, turned, visit}
use Rattle.srcp_serve.proofs.Names.{visit_asks, visit_events, writes_of, closes_of, reads_of, is_ready, is_close, list_any, rooms, turns}
use Rattle.srcp_serve.proofs.Names.{empty_stand, Question, Reads, asks_of, is_open, le_refl, take}
use Rattle.srcp_core.specs.Course.{if_open, new_marks}
use Rattle.srcp_core.specs.Waits.{completed, weighs, weight_of_mark}
use Rattle.srcp_door.specs.Pacing.{line_after, weight_of}
use Rattle.srcp_door.specs.declared.door.Got.TheVariants as got
use Rattle.srcp_door.specs.declared.pacing.LineBoundary.TheVariants as boundary
use Rattle.srcp_serve.specs.Pacing.{OfEachTurnAfter, TurnsWeighEnough, weighed, weighed_in, weight_of_turn}
use Rattle.std.specs.List.{sum_by}
use Rattle.srcp_serve.proofs.CallsByTurnAndPeer.{IsNoneOf, PeersApart, AreAsked, AreTurnsAsked, other_question, turned_round, same_peer}
use Rattle.srcp_serve.proofs.CallsByTurnAndPeer.{turns_parted, visit_own, visits_parted}
use Rattle.srcp_serve.proofs.PacedTurnsSparePanels.{begun_events, opens, turn_events, turned_events}
use Rattle.srcp_serve.proofs.PiecesWeighEnough.{piece_weighs}
use Rattle.srcp_serve.proofs.Stream.{made_of}
use Rattle.srcp_serve.proofs.TurnsCarryStreams.{AreNew, IsFresh, fresh_turned, joined, new_turned, peers_in, peers_trace, turn_begins}
use Rattle.srcp_serve.proofs.TurnsCarryStreams.{whole}
use Rattle.srcp_serve.proofs.VisitsCarryStreams.{ArePeersOf, IsCarried, IsPeerOf, carried_after_visits, carried_by_visit, carried_visit}
use Rattle.srcp_serve.proofs.VisitsCarryStreams.{at_first, so_far}
use Rattle.srcp_serve.proofs.VisitsFeedWhatIsHanded.{AreNoReads, fed_stream, handed_own, no_reads_after, none_handed}
use Rattle.srcp_serve.proofs.VisitsSendWhatIsTaken.{all_parts}

-- how much the door weighs bytes of a peer of which it handed out those before
abbrev weight_behind : (fed piece : List ℕ) → ℕ
weight_behind fed piece = weight_of (line_after boundary.At fed) piece

-- ---- sums over those that have a slot

abbrev over : (Client → ℕ) → List Client → ℕ
over f [] = 0
over f (client ∷ all) = f client + over f all

over_none : (all : List Client) → over (λ client. 0) all ≡ 0
over_none [] = refl
over_none (client ∷ all) = let ih = over_none all in omega (arith, ih)

over_both : (f g : Client → ℕ) (all : List Client) → over (λ client. f client + g client) all ≡ over f all + over g all
over_both f g [] = refl
over_both f g (client ∷ all) = let ih = over_both f g all in omega (arith, ih)

over_less : (f g : Client → ℕ) (all : List Client) → AllByRecursion (λ client. f client ≤ g client) all → over f all ≤ over g all
over_less f g [] h = omega arith
over_less f g (client ∷ all) h = let ih = over_less f g all h.1 in let one = h.0 in omega (arith, ih, one)

-- ---- what the door weighs of each peer alone

-- of a call, if it is about the peer
abbrev share : ℕ → Call → (peer : ℕ) → ℕ
share weight call peer = if is_about peer call then weight else 0

-- and of calls
abbrev own_weight : (past calls : List Call) (peer : ℕ) → ℕ
own_weight past [] peer = 0
own_weight past (call ∷ calls) peer = share (weighed_in past call) call peer + own_weight (past ++ call ∷ []) calls peer

none_counted : (n : ℕ) (call : Call) (peer : ℕ) (all : List Client) → is_about peer call ≡ true → IsNoneOf peer all
    → over (λ client. share n call client.peer) all ≡ 0
none_counted n call peer [] e h = refl
none_counted n call peer (other ∷ all) e h =
    let ih = none_counted n call peer all e h.1 in
    let apart : is_about other.peer call ≡ false = other_question peer other.peer (question call) (turned_round other.peer peer h.0) e in
    rw apart (omega (arith, ih))

-- a call is about one peer at most
counted_once : (n : ℕ) (call : Call) (all : List Client) → PeersApart all → over (λ client. share n call client.peer) all ≤ n
counted_once n call [] h = omega arith
counted_once n call (client ∷ all) h = by (is_about client.peer call) refl (counted_once n call all h.1)
  where
    by : (b : Bool) → is_about client.peer call ≡ b → over (λ client. share n call client.peer) all ≤ n
        → (if b then n else 0) + over (λ client. share n call client.peer) all ≤ n
    by true e ih = let none = none_counted n call client.peer all e h.0 in omega (arith, none)
    by false e ih = omega (arith, ih)

owns_fit : (past calls : List Call) (all : List Client) → PeersApart all
    → over (λ client. own_weight past calls client.peer) all ≤ weighed past calls
owns_fit past [] all h = let none = over_none all in omega (arith, none)
owns_fit past (call ∷ calls) all h =
    let one = counted_once (weighed_in past call) call all h in
    let more = owns_fit (past ++ call ∷ []) calls all h in
    let both = over_both (λ client. share (weighed_in past call) call client.peer)
    (λ client. own_weight (past ++ call ∷ []) calls client.peer) all in
    omega (arith, one, more, both)

-- after the first of these calls no read comes
abbrev ReadsFirst : List Call → Type 0
ReadsFirst calls = AreNoReads (map question (drop 1 calls))

module _ (buses : List Bus) where
  one_weighs : (peer : ℕ) (past : List Call) (call : Call) → is_about peer call ≡ true
      → weight_behind (handed_out peer past) (handed_out_in peer call) ≤ weighed_in past call
  one_weighs peer past (ReadCall who answer buffer grants) e =
      let same : who ≡ peer = grind (arith, nat_tests) in
      subst (λ (p : ℕ). weight_behind (handed_out p past) (handed_out_in p (ReadCall who answer buffer grants))
      ≤ weighed_in past (ReadCall who answer buffer grants)) same (le_refl _)
  one_weighs peer past other e = omega arith

  -- what is handed out of a peer that is read once, weighs no more than the door weighs it
  own_weighs : (peer : ℕ) (past calls : List Call) → ReadsFirst (filter (is_about peer) calls)
      → weight_behind (handed_out peer past) (handed_out peer calls) ≤ own_weight past calls peer
  own_weighs peer past [] h = omega arith
  own_weighs peer past (call ∷ calls) h = by (is_about peer call) refl h (own_weighs peer (past ++ call ∷ []) calls)
    where
      by : (b : Bool) → is_about peer call ≡ b
          → ReadsFirst (if b then call ∷ filter (is_about peer) calls else filter (is_about peer) calls)
          → (ReadsFirst (filter (is_about peer) calls) → weight_behind (handed_out peer (past ++ call ∷ [])) (handed_out peer calls)
          ≤ own_weight (past ++ call ∷ []) calls peer)
          → weight_behind (handed_out peer past) (handed_out_in peer call ++ handed_out peer calls)
          ≤ (if b then weighed_in past call else 0) + own_weight (past ++ call ∷ []) calls peer
      by true e h more =
          let none : handed_out peer calls ≡ [] =
          sym (carried_visit buses (fed_stream buses) peer calls) ∙ (none_handed peer (filter (is_about peer) calls) h).1 in
          let one = one_weighs peer past call e in
          rw (none, append-nil (handed_out_in peer call)) (omega (arith, one))
      by false e h more =
          let none = handed_own peer call e in
          let same : handed_out peer (past ++ call ∷ []) ≡ handed_out peer past =
          cc (flat_map-append (handed_out_in peer) past (call ∷ []), none, append-nil (handed_out peer past)) in
          let later = rw same at (more h) in
          rw none (omega (arith, later))

  -- ---- what the lines of events weigh

  weighs-append : (w : World) (xs ys : List Event)
      → weighs buses w (xs ++ ys) ≡ weighs buses w xs + weighs buses (fold (happens buses) w xs) ys
  weighs-append w [] ys = omega arith
  weighs-append w (x ∷ xs) ys = let ih = weighs-append (happens buses w x) xs ys in omega (arith, ih)

  none_weigh : {X : Type 0} (f : X → Event) → ((x : X) (w : World) → completed buses w (f x) ≡ []) → (xs : List X) (w : World)
      → weighs buses w (map f xs) ≡ 0
  none_weigh f h [] w = refl
  none_weigh f h (x ∷ xs) w = let ih = none_weigh f h xs (happens buses w (f x)) in rw (h x w) (omega (arith, ih))

  shut_weighs : (n : ℕ) (b : Bool) (w : World) → weighs buses w (if b then Shut n ∷ [] else []) ≡ 0
  shut_weighs n true w = omega arith
  shut_weighs n false w = refl

  -- ---- a visit

  module _ (f : ℕ → List ℕ) where
    -- a peer's connection was fed what stands for the peer
    has_fed : (n peer : ℕ) (conns : List Connection) (connected : List ℕ) (conn : Connection)
        → map (λ conn. conn.fed) conns ≡ map f connected → IsPeerOf n peer connected → numbered n conns ≡ Some conn → conn.fed ≡ f peer
    has_fed n peer conns [] conn e known there = absurd known
    has_fed zero peer conns (who ∷ connected) conn e known there = absurd known
    has_fed n peer [] (who ∷ connected) conn e known there = cc
    has_fed (suc zero) peer (first ∷ conns) (who ∷ connected) conn e known there = let same = known.0 in cc
    has_fed (suc (suc n)) peer (first ∷ conns) (who ∷ connected) conn e known there =
        has_fed (suc n) peer conns connected conn (cc) known.1 there

    is_numbered : (o : Option Connection) (conn : Connection) → if_open o ≡ Some conn → o ≡ Some conn
    is_numbered None conn e = cc
    is_numbered (Some one) conn e = by (is_open one) e
      where
        by : (b : Bool) → (if b then Some one else None) ≡ Some conn → Some one ≡ Some conn
        by true e = e
        by false e = cc

    piece_fits : (n peer : ℕ) (connected : List ℕ) (piece : Piece) (w : World) → map (λ conn. conn.fed) w.connections ≡ map f connected
        → IsPeerOf n peer connected
        → sum_by weight_of_mark (completed buses w (Bytes n piece)) ≤ weight_behind (f peer) piece.bytes
    piece_fits n peer connected piece w has known = by (open_connection w n) refl
      where
        by : (o : Option Connection) → open_connection w n ≡ o
            → sum_by weight_of_mark (completed buses w (Bytes n piece)) ≤ weight_behind (f peer) piece.bytes
        by None e = rw e (omega arith)
        by (Some conn) e =
            let fed = has_fed n peer w.connections connected conn has known (is_numbered (numbered n w.connections) conn e) in
            rw e (subst (λ (text : List ℕ). sum_by weight_of_mark (new_marks buses conn.fed piece.bytes) ≤ weight_behind text piece.bytes)
            fed (piece_weighs conn.fed piece.bytes))

  -- a visit begins with its read
  reads_first : (events : List Event) (calls : List Call) (client : Client) → map question calls ≡ visit_asks buses events calls client
      → ReadsFirst calls
  reads_first events calls client e =
      by (is_ready buses client.conn events) calls
      (e ∙ append_assoc (reads_of buses events client) (writes_of buses events calls client) (closes_of buses events calls client))
    where
      after : List Question
      after = writes_of buses events calls client ++ closes_of buses events calls client

      none : AreNoReads after
      none = no_reads_after buses client events calls

      by : (b : Bool) (calls : List Call) → map question calls ≡ (if b then Reads client.peer 256 ∷ [] else []) ++ after → ReadsFirst calls
      by b [] e = tt
      by true (call ∷ more) e = let same : map question more ≡ after = cc in rw same none
      by false (call ∷ more) e = let all = subst (λ (qs : List Question). AreNoReads qs) (sym e) none in all.1

  module _ (events : List Event) (client : Client) where
    abbrev now : World
    now = course buses events

    -- the lines of the read weigh no more than the door weighs it
    read_fits : (f : ℕ → List ℕ) (connected : List ℕ) (calls : List Call) → map (λ conn. conn.fed) now.connections ≡ map f connected
        → IsPeerOf client.conn client.peer connected → AllByRecursion (λ q. asks_of client.peer q ≡ true) (map question calls)
        → ReadsFirst calls
        → weighs buses now (map (Bytes client.conn) (filter_map piece_of calls))
        ≤ weight_behind (f client.peer) (handed_out client.peer calls)
    read_fits f connected [] has known own first = omega arith
    read_fits f connected (ReadCall who (Ok (got.Bytes count)) buffer grants ∷ calls) has known own first =
        let none = none_handed client.peer calls first in
        let mine : (who == client.peer) ≡ true = own.0 in
        let piece : Piece = record { bytes = take count buffer; grants = grants } in
        let fits = piece_fits f client.conn client.peer connected piece now has known in
        rw (none.0, none.1, mine, append-nil (take count buffer)) (omega (arith, fits))
    read_fits f connected (ReadCall who answer buffer grants ∷ calls) has known own first =
        let none = none_handed client.peer calls first in rw none.0 (omega arith)
    read_fits f connected (call ∷ calls) has known own first =
        let none = none_handed client.peer calls first in rw none.0 (omega arith)

    -- so do those of the visit
    visit_fits : (f : ℕ → List ℕ) (connected : List ℕ) (calls : List Call) → map (λ conn. conn.fed) now.connections ≡ map f connected
        → IsPeerOf client.conn client.peer connected → map question calls ≡ visit_asks buses events calls client
        → weighs buses now (made_of client.conn calls) ≤ weight_behind (f client.peer) (handed_out client.peer calls)
    visit_fits f connected calls has known e =
        let read = map (Bytes client.conn) (filter_map piece_of calls) in
        let roomed = map (Room client.conn) (rooms calls) in
        let shut = if list_any is_close calls then Shut client.conn ∷ [] else [] in
        let own : AllByRecursion (λ q. asks_of client.peer q ≡ true) (map question calls) = rw e (visit_own buses events calls client) in
        let fits = read_fits f connected calls has known own (reads_first events calls client e) in
        let both = weighs-append now (read ++ roomed) shut in
        let first = weighs-append now read roomed in
        let no_room = none_weigh (Room client.conn) (λ bytes w. refl) (rooms calls) (fold (happens buses) now read) in
        let no_shut = shut_weighs client.conn (list_any is_close calls) (fold (happens buses) now (read ++ roomed)) in
        omega (arith, fits, both, first, no_room, no_shut)

  -- ---- a turn

  module _ (past : List Call) (connected : List ℕ) (calls : List Call) (fair : AllByRecursion IsFair calls) where
    abbrev before : ℕ → List ℕ
    before peer = handed_out peer past

    abbrev of_peer : Client → ℕ
    of_peer client = weight_behind (before client.peer) (handed_out client.peer calls)

    visits_fit : (events : List Event) (all : List Client) → ArePeersOf connected all → PeersApart all → AreAsked buses events calls all
        → map (λ conn. conn.fed) (course buses events).connections ≡ map (so_far buses (fed_stream buses) before calls all) connected
        → weighs buses (course buses events) (flat_map (visit_events calls) all) ≤ over of_peer all
    visits_fit events [] known apart asked has = omega arith
    visits_fit events (client ∷ all) known apart asked has =
        let soon = so_far buses (fed_stream buses) before calls (client ∷ all) in
        let mine = visit calls client in
        let one = visit_fits events client soon connected mine has known.0 asked.0 in
        let fed : soon client.peer ≡ before client.peer = rw (same_peer client.peer) (append-nil (before client.peer)) in
        let same : handed_out client.peer mine ≡ handed_out client.peer calls = carried_visit buses (fed_stream buses) client.peer calls in
        let here : weighs buses (course buses events) (visit_events calls client) ≤ of_peer client = rw (fed, same) at one in
        let next = carried_by_visit buses (fed_stream buses) connected before calls fair events client all known.0 apart.0 asked.0 has in
        let more = visits_fit (events ++ visit_events calls client) all known.1 apart.1 asked.1 next in
        let later = fold-append (happens buses) start events (visit_events calls client) in
        let both = weighs-append (course buses events) (visit_events calls client) (flat_map (visit_events calls) all) in
        omega (arith, here, rw later at more, both)

    each_read_first : (events : List Event) (all : List Client) → AreAsked buses events calls all
        → AllByRecursion (λ client. of_peer client ≤ own_weight past calls client.peer) all
    each_read_first events [] asked = tt
    each_read_first events (client ∷ all) asked = (
      own_weighs client.peer past calls (reads_first events (visit calls client) client asked.0),
      each_read_first (events ++ visit_events calls client) all asked.1,
    )

  turn_fits : (past : List Call) (stand : Stand) (calls : List Call)
      → (let s = begun buses stand calls in AllByRecursion IsFair calls → AreAsked buses s.events calls (clients s.slots)
      → IsCarried buses (fed_stream buses) (λ peer. handed_out peer past) s
      → map (λ conn. conn.fed) (course buses s.events).connections
      ≡ map (so_far buses (fed_stream buses) (λ peer. handed_out peer past) calls (clients s.slots)) s.connected
      → weight_of_turn buses stand calls ≤ weighed past calls)
  turn_fits past stand calls fair asked c has =
      let s = begun buses stand calls in
      let w = course buses stand.events in
      let moments = map At (filter_map moment_of calls) in
      let accepts = map opens (filter_map accept_of calls) in
      let visits = flat_map (visit_events calls) (clients s.slots) in
      let same = turned_events buses stand calls in
      let events : drop (length stand.events) (turned buses stand calls).events ≡ turn_events buses stand calls =
      cc (drop_at stand.events (turn_events buses stand calls) (length stand.events) refl) in
      let opening = weighs-append w moments accepts in
      let no_moment = none_weigh At (λ moment w. refl) (filter_map moment_of calls) w in
      let no_accept = none_weigh opens (λ accept w. refl) (filter_map accept_of calls) (fold (happens buses) w moments) in
      let whole = weighs-append w (moments ++ accepts) visits in
      let later : fold (happens buses) w (moments ++ accepts) ≡ course buses s.events =
      sym (ap (course buses) (begun_events buses stand calls) ∙ fold-append (happens buses) start stand.events (moments ++ accepts)) in
      let all = visits_fit past s.connected calls fair s.events (clients s.slots) c.known c.apart asked has in
      let less = over_less _ _ (clients s.slots) (each_read_first past s.connected calls fair s.events (clients s.slots) asked) in
      let most = owns_fit past calls (clients s.slots) c.apart in
      rw events (omega (arith, opening, no_moment, no_accept, rw later at whole, all, less, most))

  -- ---- turn after turn

  turns_fit : (all : List (List Call)) (past : List Call) (stand : Stand) → AreTurnsAsked buses stand all
      → AllByRecursion IsFair (joined all) → AreNew stand.connected (peers_in (filter_map accept_of (joined all)))
      → IsFresh (λ peer. handed_out peer past) stand.connected
      → IsCarried buses (fed_stream buses) (λ peer. handed_out peer past) stand
      → OfEachTurnAfter buses (λ past stand calls. weight_of_turn buses stand calls ≤ weighed past calls) past stand all
  turns_fit [] past stand asked fair new fresh was = tt
  turns_fit (calls ∷ all) past stand asked fair new fresh was =
      let stream = fed_stream buses in
      let before : ℕ → List ℕ = λ peer. handed_out peer past in
      let parts = all_parts IsFair calls (joined all) fair in
      let more = peers_in (filter_map accept_of (joined all)) in
      let apart = rw (filter_map-append, map-append) at new in
      let b = turn_begins buses stream before stand calls parts.0 fresh was more asked.0 apart in
      let s = b.carried_before_visits in
      let now = begun buses stand calls in
      let parted = visits_parted buses b.first now.events calls (clients now.slots) s.apart b.none b.asked in
      let at_once : before ≡ so_far buses stream before calls (clients now.slots) =
      λ i peer. at_first buses stream before now calls b.first b.still b.asked peer i in
      let after : (λ (peer : ℕ). before peer ++ handed_out peer calls) ≡ (λ peer. handed_out peer (past ++ calls)) =
      λ i peer. sym (flat_map-append (handed_out_in peer) past calls) i in (
        turn_fits past stand calls parts.0 parted s (rw at_once at s.has),
        turns_fit all (past ++ calls) (turned buses stand calls) asked.1 parts.1
            (new_turned buses stream before stand calls more apart fresh was)
            (subst (λ (g : ℕ → List ℕ). IsFresh g (turned buses stand calls).connected) after
            (fresh_turned buses stream before stand calls more apart fresh was asked.0))
            (subst (λ (g : ℕ → List ℕ). IsCarried buses stream g (turned buses stand calls)) after
            (carried_after_visits buses stream before now calls b.first b.still b.asked parts.0 b.none s)),
      )

  pub turns_weigh : TurnsWeighEnough buses
  turns_weigh count trace served differ fair =
      let first : AreNew [] (peers_in (filter_map accept_of trace)) = rw peers_trace at differ in
      let same = whole buses count trace served differ fair in
      turns_fit (turns trace) [] empty_stand (turns_parted buses empty_stand trace [] tt served.asked).1
      (rw same fair) (rw same first) (λ peer h. refl)
      (record { has = refl; known = tt; apart = tt })
