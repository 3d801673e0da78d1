-- What the calls of a visit say was taken of a peer is what its events send.
use Rattle.srcp_serve.proofs.Names.{◌≡◌, ◌∙◌, ℕ, zero, suc, ◌≤◌, Bool, true, false, not, List, [], ◌∷◌, ◌++◌, map, take, length}
use Rattle.srcp_serve.proofs.Names.{if◌then◌else◌, Ok, Err, refl, ap, sym, subst, arith, append-nil, append_assoc, ◌==◌, ◌<◌, ◌||◌}
use Rattle.srcp_serve.proofs.Names.{filter_map, flat_map, rooms_of, list_all, list_any, AllByRecursion, nat_tests, flat_map-append}
use Rattle.srcp_serve.proofs.Names.{map-append, filter_map-append, fold-append, Bus, Piece, Event, Bytes, Room, Shut, World, start}
use Rattle.srcp_serve.proofs.Names.{happens, course, Call, WriteCall, Question, Reads, Writes, Closes, Client, question, IsFair, taken}
use Rattle.srcp_serve.proofs.Names.{taken_in, piece_of, count_of, is_close, loses, loses_reading, lent_none_last, exchange, is_ready}
use Rattle.srcp_serve.proofs.Names.{is_closing, lent, handed, unless_nil, reads_of, writes_of, closes_of, visit_asks, cond_both, take-nil}
use Rattle.srcp_serve.proofs.Names.{is_about, sent}
use Rattle.srcp_serve.proofs.OnlyRoomSends.{IsSending, sending_bytes, sending_shut}
use Rattle.srcp_serve.proofs.RoomSendsWhatIsLent.{sending_room, sending_write, steady_course}
use Rattle.srcp_serve.proofs.Stream.{Stream, asks_bytes, made_of, put, put_none, put_put}

-- ---- calls by their questions

abbrev pub asks_write : Question → Bool
asks_write (Writes peer bytes) = true
asks_write other = false

abbrev pub no_writes : List Question → Bool
no_writes questions = list_all (λ q. not (asks_write q)) questions

-- calls that are no writes take nothing
pub none_taken : (peer : ℕ) (calls : List Call) → no_writes (map question calls) ≡ true
    → (filter_map count_of calls ≡ []) × (taken peer calls ≡ [])
none_taken peer [] h = (refl, refl)
none_taken peer (WriteCall who bytes answer ∷ calls) h = cc
none_taken peer (other ∷ calls) h = none_taken peer calls h

-- the calls that asked the first, and those that asked the others
pub record IsSplit (calls : List Call) (first others : List Question) : Type 0 where
  pub xs : List Call
  pub ys : List Call
  pub is : calls ≡ xs ++ ys
  pub prefix : map question xs ≡ first
  pub suffix : map question ys ≡ others

pub split : (calls : List Call) (first others : List Question) → map question calls ≡ first ++ others → IsSplit calls first others
split calls [] others e = record { xs = []; ys = calls; is = refl; prefix = refl; suffix = e }
split [] (q ∷ first) others e = cc
split (call ∷ calls) (q ∷ first) others e =
    let more = split calls first others (cc) in
    record { xs = call ∷ more.xs; ys = more.ys; is = ap (λ cs. call ∷ cs) more.is; prefix = cc (e, more.prefix); suffix = more.suffix }

pub all_parts : {X : Type 0} (P : X → Type 0) (xs ys : List X) → AllByRecursion P (xs ++ ys) → AllByRecursion P xs × AllByRecursion P ys
all_parts P [] ys h = (tt, h)
all_parts P (x ∷ xs) ys h = let more = all_parts P xs ys h.1 in ((h.0, more.0), more.1)

-- the first question is the first write, which hands over something
pub record IsFirst (peer who most : ℕ) (bytes now : List ℕ) (questions : List Question) (more : List (List ℕ)) : Type 0 where
  pub peer_is : who ≡ peer
  pub bytes_are : bytes ≡ now
  pub some : 0 < length now
  pub left : ℕ
  pub one_less : most ≡ suc left
  pub others : questions ≡ map (Writes peer) (take left more)

pub first_of_writes : (peer who most : ℕ) (bytes now : List ℕ) (questions : List Question) (more : List (List ℕ))
    → Writes who bytes ∷ questions ≡ map (Writes peer) (take most (unless_nil now more)) → IsFirst peer who most bytes now questions more
first_of_writes peer who zero bytes now questions more e = cc
first_of_writes peer who (suc most) bytes [] questions more e = cc
first_of_writes peer who (suc most) bytes (byte ∷ now) questions more e =
    record { peer_is = cc; bytes_are = cc; some = omega arith; left = most; one_less = refl; others = cc }

pub no_write : (peer : ℕ) (q : Question) (questions : List Question) (texts : List (List ℕ)) → asks_write q ≡ false → q ∷ questions
    ≡ map (Writes peer) texts → ⊥
no_write peer q questions [] h e = cc
no_write peer q questions (text ∷ texts) h e =
    let same : q ≡ Writes peer text = cc in let t = ap asks_write same in cc

module _ (buses : List Bus) (peer conn : ℕ) where
  abbrev Sends : List (List ℕ) → List Event → Type 0
  Sends texts events = IsSending texts (course buses events).connections

  sends_bytes : (texts : List (List ℕ)) (events : List Event) (pieces : List Piece) → Sends texts events
      → Sends texts (events ++ map (Bytes conn) pieces)
  sends_bytes texts events [] a = subst (λ (all : List Event). Sends texts all) (sym (append-nil events)) a
  sends_bytes texts events (piece ∷ pieces) a =
      let one : Sends texts (events ++ Bytes conn piece ∷ []) =
      rw fold-append (sending_bytes buses conn texts piece (course buses events) a) in
      rw append_assoc at (sends_bytes texts (events ++ Bytes conn piece ∷ []) pieces one)

  -- what a number of writes does
  abbrev WritesSend : List Call → Type 0
  WritesSend calls =
      (most : ℕ) (events : List Event) (texts : List (List ℕ))
      → map question calls ≡ map (Writes peer) (take most (handed buses conn events (filter_map count_of calls))) → Sends texts events
      → Sends (put conn (taken peer calls) texts) (events ++ map (Room conn) (flat_map rooms_of (filter_map count_of calls)))

  then_sends : (calls : List Call) → WritesSend calls → (most count : ℕ) (events : List Event) (texts : List (List ℕ))
      → count ≤ length (lent buses conn events)
      → map question calls
      ≡ map (Writes peer)
      (take most
      (if count == length (lent buses conn events)
      then handed buses conn (events ++ map (Room conn) (rooms_of count)) (filter_map count_of calls) else []))
      → Sends texts events
      → Sends (put conn (take count (lent buses conn events) ++ taken peer calls) texts)
      (events ++ map (Room conn) (rooms_of count ++ flat_map rooms_of (filter_map count_of calls)))
  then_sends calls ih most count events texts h e a =
      let one = sending_write buses events conn count texts h a in
      let next = events ++ map (Room conn) (rooms_of count) in
      let sent = put conn (take count (lent buses conn events)) texts in
      let all = cond_both (count == length (lent buses conn events)) (handed buses conn next (filter_map count_of calls)) []
      (λ (ts : List (List ℕ)). map question calls ≡ map (Writes peer) (take most ts)
      → Sends (put conn (taken peer calls) sent) (next ++ map (Room conn) (flat_map rooms_of (filter_map count_of calls))))
      (λ t q. ih most next sent q one) (λ t q. ih 0 next sent (q ∙ simp take-nil) one) e in
      let later = flat_map rooms_of (filter_map count_of calls) in
      let joined : next ++ map (Room conn) later ≡ events ++ map (Room conn) (rooms_of count ++ later) =
      cc (append_assoc events (map (Room conn) (rooms_of count)) (map (Room conn) later), map-append (Room conn) (rooms_of count) later) in
      rw put_put at (rw joined at all)

  taken_here : (who count : ℕ) (bytes now : List ℕ) → who ≡ peer → bytes ≡ now
      → (if who == peer then take count bytes else []) ≡ take count now
  taken_here who count bytes now p b = let own : (who == peer) ≡ true = grind (arith, nat_tests) in cc

  pub sending_writes : (calls : List Call) → AllByRecursion IsFair calls → WritesSend calls
  sending_writes [] fair most events texts e a =
      subst (λ (ts : List (List ℕ)). Sends ts (events ++ [])) (sym (put_none conn texts)) (rw append-nil a)
  sending_writes (WriteCall who bytes (Ok count) ∷ calls) fair most events texts e a =
      let now = lent buses conn events in
      let f = first_of_writes peer who most bytes now _ _ e in
      rw (taken_here who count bytes now f.peer_is f.bytes_are)
      (then_sends calls (sending_writes calls fair.1) f.left count events texts (rw f.bytes_are at fair.0) f.others a)
  sending_writes (WriteCall who bytes (Err failed) ∷ calls) fair most events texts e a =
      let f = first_of_writes peer who most bytes (lent buses conn events) _ _ e in
      then_sends calls (sending_writes calls fair.1) f.left 0 events texts (omega arith) f.others a
  sending_writes (call ∷ calls) fair most events texts e a = absurd (no_write peer (question call) _ _ refl e)

  -- ---- a whole visit

  last_room : (events : List Event) (texts : List (List ℕ)) (b : Bool) → Sends texts events
      → Sends texts (events ++ map (Room conn) (if b then 0 ∷ [] else []))
  last_room events texts true a =
      subst (λ (ts : List (List ℕ)). Sends ts (events ++ Room conn 0 ∷ [])) (put_none conn texts)
      (sending_room buses events conn 0 texts (omega arith) a)
  last_room events texts false a = rw append-nil a

  last_shut : (events : List Event) (texts : List (List ℕ)) (b : Bool) → Sends texts events
      → Sends texts (events ++ (if b then Shut conn ∷ [] else []))
  last_shut events texts true a =
      subst (λ (v : World). IsSending texts v.connections) (sym (fold-append (happens buses) start events (Shut conn ∷ [])))
      (sending_shut buses conn texts (course buses events) a)
  last_shut events texts false a = rw append-nil a

module _ (buses : List Bus) (client : Client) (events : List Event) (calls : List Call) where
  abbrev read_events : List Event
  read_events = events ++ map (Bytes client.conn) (filter_map piece_of calls)

  abbrev writes_asked : List Question
  writes_asked = writes_of buses events calls client

  abbrev closes_asked : List Question
  closes_asked = closes_of buses events calls client

  abbrev NoWrites : List Question → Type 0
  NoWrites questions = no_writes questions ≡ true

  -- the writes among the calls
  pub record HasWrites : Type 1 where
    pub writes : List Call
    pub asked : map question writes ≡ writes_asked
    pub each : (P : Call → Type 0) → AllByRecursion P calls → AllByRecursion P writes
    pub counts : filter_map count_of calls ≡ filter_map count_of writes
    pub took : taken client.peer calls ≡ taken client.peer writes

  pub has_writes : map question calls ≡ visit_asks buses events calls client → HasWrites
  has_writes e =
      let s = split calls (reads_of buses events client) (writes_asked ++ closes_asked)
      (e ∙ append_assoc (reads_of buses events client) writes_asked closes_asked) in
      let t = split s.ys writes_asked closes_asked s.suffix in
      let reads = none_taken client.peer s.xs (rw s.prefix
      (cond_both (is_ready buses client.conn events) (Reads client.peer 256 ∷ []) [] NoWrites (λ e. refl) (λ e. refl))) in
      let closing = list_any loses calls || is_closing buses client.conn (events ++ exchange client.conn calls) in
      let closes = none_taken client.peer t.ys (rw t.suffix
      (cond_both closing (Closes client.peer ∷ []) [] NoWrites (λ e. refl) (λ e. refl))) in
      record {
        writes = t.xs;
        asked = t.prefix;
        each = λ P all. (all_parts P t.xs t.ys (rw t.is at (all_parts P s.xs s.ys (rw s.is at all)).1)).0;
        counts = cc (filter_map-append count_of s.xs s.ys, filter_map-append count_of t.xs t.ys, append-nil (filter_map count_of t.xs));
        took =
            cc (
              flat_map-append (taken_in client.peer) s.xs s.ys,
              flat_map-append (taken_in client.peer) t.xs t.ys,
              append-nil (taken client.peer t.xs),
            );
      }

  -- the room of writes that took so many bytes
  abbrev roomed_by : List ℕ → List Event
  roomed_by counts = map (Room client.conn) (flat_map rooms_of counts)

  joined : (room : List ℕ) (shut : List Event)
      → ((read_events ++ roomed_by (filter_map count_of calls)) ++ map (Room client.conn) room) ++ shut
      ≡ events
      ++ ((map (Bytes client.conn) (filter_map piece_of calls)
      ++ map (Room client.conn) (flat_map rooms_of (filter_map count_of calls) ++ room)) ++ shut)
  joined room shut = simp (append_assoc, map-append)

  -- what the calls of a visit say was taken is sent
  pub sending_visit : (texts : List (List ℕ)) → map question calls ≡ visit_asks buses events calls client → AllByRecursion IsFair calls
      → IsSending texts (course buses events).connections
      → IsSending (put client.conn (taken client.peer calls) texts) (course buses (events ++ made_of client.conn calls)).connections
  sending_visit texts e fair a =
      let h = has_writes e in
      let now = put client.conn (taken client.peer calls) texts in
      let read = sends_bytes buses client.peer client.conn texts events (filter_map piece_of calls) a in
      let writing = sending_writes buses client.peer client.conn h.writes (h.each IsFair fair) in
      let wrote : IsSending now (course buses (read_events ++ roomed_by (filter_map count_of calls))).connections =
      rw (h.took, h.counts) (cond_both (list_any loses_reading calls) []
      (map (Writes client.peer) (take 300 (handed buses client.conn read_events (filter_map count_of calls))))
      (λ (qs : List Question). map question h.writes ≡ qs
      → IsSending (put client.conn (taken client.peer h.writes) texts)
      (course buses (read_events ++ roomed_by (filter_map count_of h.writes))).connections)
      (λ t q. writing 0 read_events texts q read) (λ t q. writing 300 read_events texts (rw h.counts at q) read) h.asked) in
      let roomed =
      last_room buses client.peer client.conn (read_events ++ roomed_by (filter_map count_of calls)) now (lent_none_last calls) wrote in
      rw joined at (last_shut buses client.peer client.conn ((read_events ++ roomed_by (filter_map count_of calls))
      ++ map (Room client.conn) (if lent_none_last calls then 0 ∷ [] else [])) now (list_any is_close calls) roomed)

-- ---- the stream to the peers

-- a call about another takes nothing of a peer
pub taken_own : (peer : ℕ) (call : Call) → is_about peer call ≡ false → taken_in peer call ≡ []
taken_own peer (WriteCall who bytes (Ok count)) e = ap (λ b. if b then take count bytes else []) e
taken_own peer other e = refl

pub taken_none : (peer : ℕ) (call : Call) → asks_bytes (question call) ≡ false → taken_in peer call ≡ []
taken_none peer (WriteCall who bytes answer) e = cc
taken_none peer other e = refl

abbrev pub sent_stream : (buses : List Bus) → Stream buses
sent_stream buses = record {
  bytes = sent;
  carried_in = taken_in;
  begins = refl;
  own = taken_own;
  none = taken_none;
  visits = λ client events calls texts e fair a.
      (sending_visit buses client events calls texts e fair (record { steady = steady_course buses events; sends = a })).sends;
}
