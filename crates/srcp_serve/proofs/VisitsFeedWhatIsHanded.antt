-- What the calls of a visit say was handed out of a peer is what its events feed.
use Rattle.srcp_serve.proofs.Names.{◌≡◌, ◌∙◌, ℕ, ◌≤◌, Bool, true, false, not, List, [], ◌∷◌, ◌++◌, map, take, length, if◌then◌else◌}
use Rattle.srcp_serve.proofs.Names.{Option, Some, None, Ok, refl, ap, sym, subst, arith, append-nil, append_assoc, length-take, ◌==◌, ◌||◌}
use Rattle.srcp_serve.proofs.Names.{filter_map, is_none, list_any, nat_lt, nat_tests, AllByRecursion, flat_map-append}
use Rattle.srcp_serve.proofs.Names.{filter_map-append, fold-append, all_append, cond_both, is_nil}
use Rattle.srcp_serve.proofs.Names.{Bus, Piece, Event, Bytes, Room, Shut, World, Connection, happens, course, counted}
use Rattle.srcp_serve.proofs.Names.{fault, giving, history, rows, overran, unsent, took, owed, given_room, with_numbered, at_connection}
use Rattle.srcp_serve.proofs.Names.{open_connection, new_lines, IsAnswered, kept_lines, kept_shut, Call, ReadCall, Question}
use Rattle.srcp_serve.proofs.Names.{Reads, Writes, Closes, Client, question, IsFair, handed_out, handed_out_in, piece_of, is_close, rooms}
use Rattle.srcp_serve.proofs.Names.{is_about, is_ready, is_closing, reads_of, writes_of, closes_of, visit_asks, handed, count_of, loses}
use Rattle.srcp_serve.proofs.Names.{loses_reading, exchange}
use Rattle.srcp_core.specs.Course.{bytes_fault}
use Rattle.srcp_core.specs.declared.record.CoreFault.TheVariants.{Busy, Closing, PieceTooLong}
use Rattle.srcp_door.specs.declared.door.Got.TheVariants as got
use Rattle.srcp_serve.proofs.CallsByTurnAndPeer.{all_if, same_peer}
use Rattle.srcp_serve.proofs.OnlyRoomSends.{event_keeps}
use Rattle.srcp_serve.proofs.Stream.{Stream, asks_bytes, made_of, put, put_none, put_with}
use Rattle.srcp_serve.proofs.VisitsSendWhatIsTaken.{split}

-- the bytes that were fed of each connection
abbrev fed_of : List Connection → List (List ℕ)
fed_of conns = map (λ conn. conn.fed) conns

-- a connection that accepts bytes accepts each piece of at most 256
accepts_piece : (buses : List Bus) (w : World) (o : Option Connection) (bytes : List ℕ) → length bytes ≤ 256
    → is_none (bytes_fault buses w o []) ≡ true → bytes_fault buses w o bytes ≡ None
accepts_piece buses w None bytes fits ready = cc
accepts_piece buses w (Some conn) bytes fits ready =
    by (conn.ended || overran conn (history buses w)) (not (is_nil (unsent conn))) (nat_lt 256 (length bytes))
    (grind (arith, nat_tests)) ready
  where
    by : (closing busy long : Bool) → long ≡ false
        → is_none (if closing then Some Closing else (if busy then Some Busy else None)) ≡ true
        → (if closing then Some Closing else (if busy then Some Busy else (if long then Some PieceTooLong else None))) ≡ None
    by true busy long short free = cc
    by false true long short free = cc
    by false false long short free = rw short refl

module _ (buses : List Bus) (n : ℕ) (texts : List (List ℕ)) where
  abbrev Feeds : World → Type 0
  Feeds w = fed_of w.connections ≡ texts

  same_fed : (f : Connection → Connection) (conns : List Connection) → ((conn : Connection) → (f conn).fed ≡ conn.fed)
      → fed_of conns ≡ texts → fed_of (with_numbered n f conns) ≡ texts
  same_fed f conns h a = put_with (λ conn. conn.fed) n f [] conns (λ conn there. h conn ∙ sym (append-nil conn.fed))
      ∙ put_none n (fed_of conns) ∙ a

  feeding_answered : IsAnswered buses n Feeds
  feeding_answered = record {
    step = λ step w a. a;
    numbers = λ id w a. a;
    says = λ mode ends w plain a. same_fed _ w.connections (λ c. refl) a;
    answers = λ reply w plain a. same_fed _ w.connections (λ c. refl) a;
    enters = λ id reply w plain a. same_fed _ _ (λ c. refl) (same_fed _ w.connections (λ c. refl) a);
  }

  feeding_room : (bytes : ℕ) (w : World) → Feeds w → Feeds (happens buses w (Room n bytes))
  feeding_room bytes w a =
      event_keeps buses (λ conns. fed_of conns ≡ texts) (Room n bytes) w
      (same_fed (given_room bytes (history buses w) (rows buses w)) w.connections
      (λ c. cond_both (overran c (history buses w)) c (took bytes (length (history buses w)) (owed c (history buses w) (rows buses w)) c)
      (λ (d : Connection). d.fed ≡ c.fed) (λ e. refl) (λ e. refl)) a) a

  feeding_shut : (w : World) → Feeds w → Feeds (happens buses w (Shut n))
  feeding_shut w a =
      event_keeps buses (λ conns. fed_of conns ≡ texts) (Shut n) w (kept_shut buses n Feeds feeding_answered
      (open_connection (counted w) n) (counted w) a (λ conn there. same_fed _ w.connections (λ c. refl) a)) a

-- a piece of a connection that accepts bytes is fed to it
feeding_bytes : (buses : List Bus) (n : ℕ) (texts : List (List ℕ)) (piece : Piece) (w : World) → length piece.bytes ≤ 256
    → is_none (fault buses w (Bytes n (giving []))) ≡ true → fed_of w.connections ≡ texts
    → fed_of (happens buses w (Bytes n piece)).connections ≡ put n piece.bytes texts
feeding_bytes buses n texts piece w fits ready a = by (open_connection (counted w) n) refl
  where
    by : (o : Option Connection) → open_connection (counted w) n ≡ o
        → fed_of (happens buses w (Bytes n piece)).connections ≡ put n piece.bytes texts
    by None e = cc
    by (Some conn) e =
        let now = at_connection n (λ c. record c { fed = c.fed ++ piece.bytes }) (counted w) in
        let fed : fed_of now.connections ≡ put n piece.bytes texts =
        put_with (λ c. c.fed) n _ piece.bytes w.connections (λ c there. refl) ∙ ap (put n piece.bytes) a in
        let free = accepts_piece buses (counted w) (open_connection (counted w) n) piece.bytes fits ready in
        let all = kept_lines buses n (λ v. fed_of v.connections ≡ put n piece.bytes texts)
        (feeding_answered buses n (put n piece.bytes texts)) (new_lines buses conn.fed piece) now fed in
        rw (free, e) all

-- ---- the calls of a visit

abbrev pub asks_read : Question → Bool
asks_read (Reads peer most) = true
asks_read other = false

abbrev pub AreNoReads : List Question → Type 0
AreNoReads questions = AllByRecursion (λ q. asks_read q ≡ false) questions

written_no_reads : (peer : ℕ) (texts : List (List ℕ)) → AreNoReads (map (Writes peer) texts)
written_no_reads peer [] = tt
written_no_reads peer (text ∷ texts) = (refl, written_no_reads peer texts)

-- calls that are no reads hand out nothing
pub none_handed : (peer : ℕ) (calls : List Call) → AreNoReads (map question calls)
    → (filter_map piece_of calls ≡ []) × (handed_out peer calls ≡ [])
none_handed peer [] h = (refl, refl)
none_handed peer (ReadCall who answer buffer grants ∷ calls) h = let no = h.0 in cc
none_handed peer (other ∷ calls) h = none_handed peer calls h.1

-- what comes of two lists is what comes of the first, if nothing comes of the second
parts_first : {X : Type 0} (f : List Call → List X) (calls xs ys : List Call) → calls ≡ xs ++ ys → f (xs ++ ys) ≡ f xs ++ f ys → f ys ≡ []
    → f calls ≡ f xs
parts_first f calls xs ys is both none = ap f is ∙ both ∙ ap (λ more. f xs ++ more) none ∙ append-nil (f xs)

module _ (buses : List Bus) (client : Client) where
  abbrev Fed : List (List ℕ) → List Event → Type 0
  Fed texts events = fed_of (course buses events).connections ≡ texts

  -- one read of a connection that accepts bytes
  feeding_read : (events : List Event) (texts : List (List ℕ)) (call : Call) → question call ≡ Reads client.peer 256
      → is_ready buses client.conn events ≡ true → Fed texts events
      → Fed (put client.conn (handed_out client.peer (call ∷ [])) texts)
      (events ++ map (Bytes client.conn) (filter_map piece_of (call ∷ [])))
  feeding_read events texts (ReadCall who (Ok (got.Bytes count)) buffer grants) e ready a =
      let same : who ≡ client.peer = cc in
      let size : length buffer ≡ 256 = cc in
      let own : (who == client.peer) ≡ true = rw same (same_peer client.peer) in
      let handed_then : handed_out client.peer (ReadCall who (Ok (got.Bytes count)) buffer grants ∷ []) ≡ take count buffer =
      ap (λ b. (if b then take count buffer else []) ++ []) own ∙ append-nil (take count buffer) in
      let fits : length (take count buffer) ≤ 256 = omega (arith, size, length-take count buffer) in
      rw (handed_then, fold-append) (feeding_bytes buses client.conn texts (record { bytes = take count buffer; grants = grants })
      (course buses events) fits ready a)
  feeding_read events texts (ReadCall who answer buffer grants) e ready a = rw (put_none, append-nil) a
  feeding_read events texts call e ready a = cc

  -- one read, or none
  feeding_reads : (events : List Event) (texts : List (List ℕ)) (calls : List Call) → map question calls ≡ reads_of buses events client
      → Fed texts events
      → Fed (put client.conn (handed_out client.peer calls) texts) (events ++ map (Bytes client.conn) (filter_map piece_of calls))
  feeding_reads events texts calls e a = by calls (is_ready buses client.conn events) refl e
    where
      by : (calls : List Call) (b : Bool) → is_ready buses client.conn events ≡ b
          → map question calls ≡ (if b then Reads client.peer 256 ∷ [] else [])
          → Fed (put client.conn (handed_out client.peer calls) texts) (events ++ map (Bytes client.conn) (filter_map piece_of calls))
      by [] b ready asked = rw (put_none, append-nil) a
      by (call ∷ []) true ready asked = feeding_read events texts call (cc) ready a
      by (call ∷ other ∷ calls) true ready asked = cc
      by (call ∷ calls) false ready asked = cc

  feeding_rooms : (texts : List (List ℕ)) (events : List Event) (rooms : List ℕ) → Fed texts events
      → Fed texts (events ++ map (Room client.conn) rooms)
  feeding_rooms texts events [] a = rw append-nil a
  feeding_rooms texts events (bytes ∷ rooms) a =
      let one : Fed texts (events ++ Room client.conn bytes ∷ []) =
      rw fold-append (feeding_room buses client.conn texts bytes (course buses events) a) in
      rw append_assoc at (feeding_rooms texts (events ++ Room client.conn bytes ∷ []) rooms one)

  feeding_close : (texts : List (List ℕ)) (events : List Event) (b : Bool) → Fed texts events
      → Fed texts (events ++ (if b then Shut client.conn ∷ [] else []))
  feeding_close texts events true a = rw fold-append (feeding_shut buses client.conn texts (course buses events) a)
  feeding_close texts events false a = rw append-nil a

  -- after the read a visit reads no more
  pub no_reads_after : (events : List Event) (calls : List Call)
      → AreNoReads (writes_of buses events calls client ++ closes_of buses events calls client)
  no_reads_after events calls =
      let No : Question → Type 0 = λ q. asks_read q ≡ false in
      let bytes = take 300 (handed buses client.conn (events ++ map (Bytes client.conn) (filter_map piece_of calls))
      (filter_map count_of calls)) in
      let closing = list_any loses calls || is_closing buses client.conn (events ++ exchange client.conn calls) in
      all_append No (writes_of buses events calls client) (closes_of buses events calls client)
      (all_if No (list_any loses_reading calls) [] (map (Writes client.peer) bytes) tt (written_no_reads client.peer bytes))
      (all_if No closing (Closes client.peer ∷ []) [] (refl, tt) tt)

  joined : (events pieces rooms shut : List Event) → ((events ++ pieces) ++ rooms) ++ shut ≡ events ++ ((pieces ++ rooms) ++ shut)
  joined events pieces rooms shut = simp append_assoc

  -- what the calls of a visit say was handed out is fed
  pub feeding_visit : (events : List Event) (calls : List Call) (texts : List (List ℕ))
      → map question calls ≡ visit_asks buses events calls client → AllByRecursion IsFair calls → Fed texts events
      → Fed (put client.conn (handed_out client.peer calls) texts) (events ++ made_of client.conn calls)
  feeding_visit events calls texts e fair a =
      let reads = reads_of buses events client in
      let writes = writes_of buses events calls client in
      let closes = closes_of buses events calls client in
      let s = split calls reads (writes ++ closes) (e ∙ append_assoc reads writes closes) in
      let none = none_handed client.peer s.ys (rw s.suffix (no_reads_after events calls)) in
      let pieces : filter_map piece_of calls ≡ filter_map piece_of s.xs =
      parts_first (filter_map piece_of) calls s.xs s.ys s.is (filter_map-append piece_of s.xs s.ys) none.0 in
      let same : handed_out client.peer calls ≡ handed_out client.peer s.xs =
      parts_first (handed_out client.peer) calls s.xs s.ys s.is (flat_map-append (handed_out_in client.peer) s.xs s.ys) none.1 in
      let now = put client.conn (handed_out client.peer calls) texts in
      let read : Fed now (events ++ map (Bytes client.conn) (filter_map piece_of calls)) =
      subst (λ (ps : List Piece). Fed now (events ++ map (Bytes client.conn) ps)) (sym pieces)
      (subst (λ (bs : List ℕ). Fed (put client.conn bs texts) (events ++ map (Bytes client.conn) (filter_map piece_of s.xs))) (sym same)
      (feeding_reads events texts s.xs s.prefix a)) in
      let fed = map (Bytes client.conn) (filter_map piece_of calls) in
      let roomed = feeding_rooms now (events ++ fed) (rooms calls) read in
      rw joined at (feeding_close now ((events ++ fed) ++ map (Room client.conn) (rooms calls)) (list_any is_close calls) roomed)

-- ---- the stream from the peers

-- a call about another hands out nothing of a peer
pub handed_own : (peer : ℕ) (call : Call) → is_about peer call ≡ false → handed_out_in peer call ≡ []
handed_own peer (ReadCall who (Ok (got.Bytes count)) buffer grants) e = ap (λ b. if b then take count buffer else []) e
handed_own peer other e = refl

pub handed_none : (peer : ℕ) (call : Call) → asks_bytes (question call) ≡ false → handed_out_in peer call ≡ []
handed_none peer (ReadCall who answer buffer grants) e = cc
handed_none peer other e = refl

abbrev pub fed_stream : (buses : List Bus) → Stream buses
fed_stream buses = record {
  bytes = λ conn. conn.fed;
  carried_in = handed_out_in;
  begins = refl;
  own = handed_own;
  none = handed_none;
  visits = λ client events calls texts. feeding_visit buses client events calls texts;
}
