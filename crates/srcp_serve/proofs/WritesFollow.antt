-- The writes of a visit: all but the last took all that was lent.
use Rattle.srcp_serve.proofs.Names.{number_in, ◌≡◌, ◌∙◌, ℕ, ◌<◌, true, ◌==◌, List, [], ◌∷◌, ◌++◌, map, length, if◌then◌else◌, refl, ap}
use Rattle.srcp_serve.proofs.Names.{sym, arith, append_assoc, append-nil, suc, ◌+◌, ◌≤◌, Bool, false, cond, not, take, Some, Ok, Err, inl}
use Rattle.srcp_serve.proofs.Names.{inr, length-append, nat_tests, Event, Room, Bus, lent, handed, unless_nil, Writes, question, count_of}
use Rattle.srcp_serve.proofs.Names.{is_write, loses, falls_short, rooms, rooms_of, take-append_seam, map-append, sum_by-cons, list_any}
use Rattle.srcp_serve.proofs.Names.{filter_map, flat_map, flat_map-append, count_by, ◌||◌, ◌&&◌, nat_lt, Past, happened, number, room_for}
use Rattle.srcp_serve.proofs.Names.{DoorCall, Trace, Call, WriteCall, AreAboutPeers, Asks, AddsGiven, HasActed, HasWritten, Went}
use Rattle.srcp_serve.proofs.Names.{WritesOnce, WritesOut, All, Less, Failed, take_all, Wrote}
use Rattle.srcp_serve.proofs.CallsAreAdded.{adds_none, denied_rooms, given_then, went_as, went_none, went_then, went_write}
use Rattle.srcp_serve.proofs.VisitsFollow.{are_writes}

-- if there is something, it is the first
pub unless_some : (bytes : List ℕ) (more : List (List ℕ)) → 0 < length bytes → unless_nil bytes more ≡ bytes ∷ more
unless_some [] more h = absurd (omega arith)
unless_some (byte ∷ bytes) more h = refl

-- the events of some writes
abbrev pub after : ℕ → List Event → List ℕ → List Event
after conn events counts = events ++ map (Room conn) (flat_map rooms_of counts)

-- of one, and then of others
after_one : (conn : ℕ) (events : List Event) (count : ℕ) (counts : List ℕ)
    → after conn (events ++ map (Room conn) (rooms_of count)) counts ≡ after conn events (count ∷ counts)
after_one conn events count counts = cc (
  append_assoc events (map (Room conn) (rooms_of count)) (map (Room conn) (flat_map rooms_of counts)),
  map-append (Room conn) (rooms_of count) (flat_map rooms_of counts),
)

module _ (buses : List Bus) (conn : ℕ) where
  -- each time all was taken, and it was something
  abbrev pub AreFull : List Event → List ℕ → Type 0
  AreFull events [] = Unit {0}
  AreFull events (count ∷ counts) =
      (count ≡ length (lent buses conn events)) × (0 < count) × AreFull (events ++ map (Room conn) (rooms_of count)) counts

  -- what was handed over each time
  abbrev pub texts : List Event → List ℕ → List (List ℕ)
  texts events [] = []
  texts events (count ∷ counts) = lent buses conn events ∷ texts (events ++ map (Room conn) (rooms_of count)) counts

  -- after writes that took all, the rest is handed over as from there
  pub handed-append : (events : List Event) (counts more : List ℕ) → AreFull events counts
      → handed buses conn events (counts ++ more) ≡ texts events counts ++ handed buses conn (after conn events counts) more
  handed-append events [] more h = ap (λ all. handed buses conn all more) (sym (append-nil events))
  handed-append events (count ∷ counts) more h =
      let now = lent buses conn events in
      let whole : (count == length now) ≡ true = let full = h.0 in grind (arith, nat_tests) in
      let later = handed-append (events ++ map (Room conn) (rooms_of count)) counts more h.2 in
      cc (unless_some now _ (rw h.0 at h.1), after_one conn events count counts)

  -- one write more that took all
  pub full-more : (events : List Event) (counts : List ℕ) (count : ℕ) → AreFull events counts
      → count ≡ length (lent buses conn (after conn events counts)) → 0 < count → AreFull events (counts ++ count ∷ [])
  full-more events [] count h e some = (rw append-nil at e, some, tt)
  full-more events (first ∷ counts) count h e some =
      (h.0, h.1, full-more (events ++ map (Room conn) (rooms_of first)) counts count h.2 (rw after_one e) some)

-- ---- the writes of a visit: all but the last took all that was lent

-- no write comes after it; the peer is not lost by it
abbrev pub IsLast : Wrote → Type 0
IsLast All = ⊥
IsLast other = Unit {0}

abbrev pub keeps : Wrote → Bool
keeps Failed = false
keeps other = true

module _ (buses : List Bus) (peer conn : ℕ) where
  -- writes that took all, and then others
  abbrev pub written : List Event → List ℕ → List Call → List Call
  written events [] last = last
  written events (count ∷ counts) last =
      WriteCall peer (lent buses conn events) (Ok count) ∷ written (events ++ map (Room conn) (rooms_of count)) counts last

  pub written-append : (events : List Event) (counts : List ℕ) (last : List Call)
      → written events counts [] ++ last ≡ written events counts last
  written-append events [] last = refl
  written-append events (count ∷ counts) last =
      ap (λ calls. WriteCall peer (lent buses conn events) (Ok count) ∷ calls)
      (written-append (events ++ map (Room conn) (rooms_of count)) counts last)

  pub written-more : (events : List Event) (counts : List ℕ) (count : ℕ)
      → written events (counts ++ count ∷ []) []
      ≡ written events counts (WriteCall peer (lent buses conn (after conn events counts)) (Ok count) ∷ [])
  written-more events [] count = ap (λ all. WriteCall peer (lent buses conn all) (Ok count) ∷ []) (sym (append-nil events))
  written-more events (first ∷ counts) count =
      ap (λ calls. WriteCall peer (lent buses conn events) (Ok first) ∷ calls)
      (cc (written-more (events ++ map (Room conn) (rooms_of first)) counts count, after_one conn events first counts))

  length-texts : (events : List Event) (counts : List ℕ) → length (texts buses conn events counts) ≡ length counts
  length-texts events [] = refl
  length-texts events (count ∷ counts) = ap (λ n. suc n) (length-texts (events ++ map (Room conn) (rooms_of count)) counts)

  -- what such writes say
  record AreWritten (events : List Event) (counts : List ℕ) (last calls : List Call) : Type 0 where
    counted : filter_map count_of calls ≡ counts ++ filter_map count_of last
    asked : map question calls ≡ map (Writes peer) (texts buses conn events counts) ++ map question last
    losing : list_any loses calls ≡ list_any loses last
    short : list_any falls_short calls ≡ list_any falls_short last
    many : count_by is_write calls ≡ length counts + count_by is_write last

  are_written : (events : List Event) (counts : List ℕ) (last : List Call) → AreFull buses conn events counts
      → AreWritten events counts last (written events counts last)
  are_written events [] last full =
      record { counted = refl; asked = refl; losing = refl; short = refl; many = let k = count_by is_write last in omega arith }
  are_written events (count ∷ counts) last full =
      let w = are_written (events ++ map (Room conn) (rooms_of count)) counts last full.2 in
      let more = written (events ++ map (Room conn) (rooms_of count)) counts last in
      let all : nat_lt count (length (lent buses conn events)) ≡ false = let e = full.0 in grind (arith, nat_tests) in
      record {
        counted = ap (λ more. count ∷ more) w.counted;
        asked = ap (λ more. Writes peer (lent buses conn events) ∷ more) w.asked;
        losing = w.losing;
        short = cc (all, w.short);
        many = omega (arith, sum_by-cons (λ x. cond (is_write x) 1 0) (WriteCall peer (lent buses conn events) (Ok count)) more, w.many);
      }

  -- the rooms of the writes
  rooms_are : (events : List Event) (counts : List ℕ) (last : List Call) (lost short : Bool) → AreFull buses conn events counts
      → list_any loses last ≡ lost → list_any falls_short last ≡ short
      → rooms (written events counts last)
      ≡ flat_map rooms_of (counts ++ filter_map count_of last)
      ++ (if not lost && (not short && nat_lt (length counts + count_by is_write last) 300) then 0 ∷ [] else [])
  rooms_are events counts last lost short full l s =
      let w = are_written events counts last full in cc (w.counted, w.losing, w.short, w.many)

-- the writes of a visit of a core
module _ (peer key : ℕ) (old : Past) (trace_old : Trace) where
  abbrev pub n : ℕ
  n = number key old

  -- the calls of writes that took all, and then others
  abbrev pub writes : List ℕ → List Call → List Call
  writes counts last = written old.buses peer n old.events counts last

  -- what is lent after them
  abbrev lends : List ℕ → List ℕ
  lends counts = lent old.buses n (after n old.events counts)

  -- this many writes took all
  pub record IsTaking (trace : List DoorCall) (now : Past) (times : ℕ) : Type 0 where
    pub counts : List ℕ
    pub many : length counts ≡ times
    pub full : AreFull old.buses n old.events counts
    pub adds : AddsGiven trace_old trace (writes counts [])
    pub went : Went (map (Room n) (flat_map rooms_of counts)) old.keys old now

  abbrev Writes_out : List DoorCall → Past → Bool → Type 0
  Writes_out trace new stays = HasActed old trace_old new trace
      (λ calls. map (Writes peer) (take 300 (handed old.buses n old.events (filter_map count_of calls))))
      (λ calls. map (Room n) (rooms calls)) loses old.keys stays

  -- writes ask for no memory
  writes_out : (trace : List DoorCall) (new : Past) (stays : Bool) (calls : List Call) → AddsGiven trace_old trace calls
      → map question calls ≡ map (Writes peer) (take 300 (handed old.buses n old.events (filter_map count_of calls)))
      → list_any loses calls ≡ not stays → Went (map (Room n) (rooms calls)) old.keys old new → Writes_out trace new stays
  writes_out trace new stays calls adds asked stays_is went = record {
    calls = calls;
    made = record {
      adds = adds;
      counted = rw (are_writes peer _ calls asked).answers
          (rw (went.layout, went.events) (denied_rooms old.buses n (rooms calls) old.events));
    };
    asked = asked;
    stays_is = stays_is;
    went = went;
  }

  -- the last write, or none
  ended_by : (trace : List DoorCall) (new : Past) (counts : List ℕ) (last : List Call) (end : List (List ℕ))
      (room : List ℕ) (stays : Bool)
      → AreFull old.buses n old.events counts → AddsGiven trace_old trace (writes counts last)
      → handed old.buses n (after n old.events counts) (filter_map count_of last) ≡ end
      → map question last ≡ map (Writes peer) end → length counts + length end ≤ 300
      → list_any loses last ≡ not stays → rooms (writes counts last) ≡ flat_map rooms_of counts ++ room
      → Went (map (Room n) (flat_map rooms_of counts ++ room)) old.keys old new → Writes_out trace new stays
  ended_by trace new counts last end room stays full adds hands asks few lost are went =
      let w = are_written old.buses peer n old.events counts last full in
      let first = texts old.buses n old.events counts in
      let all : handed old.buses n old.events (counts ++ filter_map count_of last) ≡ first ++ end = simp (handed-append, hands) in
      let size : length (first ++ end) ≤ 300 =
      omega (arith, length-append first end, length-texts old.buses peer n old.events counts, few) in
      let asked : map question (writes counts last)
      ≡ map (Writes peer) (take 300 (handed old.buses n old.events (filter_map count_of (writes counts last)))) =
      cc (w.asked, map-append (Writes peer) first end, all, take_all 300 (first ++ end) size, w.counted) in
      writes_out trace new stays (writes counts last) adds asked (w.losing ∙ lost) (rw are went)

  -- the peer took less, or the write failed
  last_write : (trace : List DoorCall) (new : Past) (counts : List ℕ) (call : Call) (count : ℕ) (stays short : Bool)
      → AreFull old.buses n old.events counts → AddsGiven trace_old trace (writes counts (call ∷ []))
      → count_of call ≡ Some count → question call ≡ Writes peer (lends counts) → count < length (lends counts) → length counts < 300
      → list_any loses (call ∷ []) ≡ not stays → list_any falls_short (call ∷ []) ≡ short → not (not stays) && not short ≡ false
      → Went (map (Room n) (flat_map rooms_of counts ++ rooms_of count)) old.keys old new → Writes_out trace new stays
  last_write trace new counts call count stays short full adds count_is asks short_of few stays_is short_is ends went =
      let bytes = lends counts in
      let differs : (count == length bytes) ≡ false = grind (arith, nat_tests) in
      let some : 0 < length bytes = omega arith in
      let counted : filter_map count_of (call ∷ []) ≡ count ∷ [] = rw count_is refl in
      let next = after n old.events counts in
      let hands =
      unless_some bytes _ some
      ∙ ap (λ t. bytes ∷ (if t then handed old.buses n (next ++ map (Room n) (rooms_of count)) [] else [])) differs in
      let size : length counts + 1 ≤ 300 = omega arith in
      let stops : (more : Bool) → not (not stays) && (not short && more) ≡ false = λ more. grind arith in
      let are : rooms (writes counts (call ∷ [])) ≡ flat_map rooms_of counts ++ rooms_of count =
      cc (
        rooms_are old.buses peer n old.events counts (call ∷ []) (not stays) short full stays_is short_is,
        stops (nat_lt (length counts + count_by is_write (call ∷ [])) 300),
        append-nil (flat_map rooms_of (counts ++ filter_map count_of (call ∷ []))),
        counted,
        flat_map-append rooms_of counts (count ∷ []),
        append-nil (rooms_of count),
      ) in
      ended_by trace new counts (call ∷ []) (bytes ∷ []) (rooms_of count) stays full adds
      (ap (handed old.buses n next) counted ∙ hands) (ap (λ q. q ∷ []) asks) size stays_is are went

  -- more calls after these writes
  adds_last : (counts : List ℕ) (mid trace : List DoorCall) (calls : List Call) (trace_mid : Trace)
      → trace_mid ≡ Some mid → AddsGiven trace_old mid (writes counts []) → AddsGiven trace_mid trace calls
      → AddsGiven trace_old trace (writes counts calls)
  adds_last counts mid trace calls _ is first second = rw written-append at (given_then _ calls is first second)

  -- one write more
  write_more : (counts : List ℕ) (count : ℕ) (mid new : Past) → Went (map (Room n) (flat_map rooms_of counts)) old.keys old mid
      → new ≡ room_for key count (happened (Room (number key mid) 0) mid)
      → Went (map (Room n) (flat_map rooms_of counts ++ rooms_of count)) old.keys old new
  write_more counts count mid new w is =
      rw map-append (went_then (map (Room n) (flat_map rooms_of counts)) (map (Room n) (rooms_of count)) old.keys old.keys old mid new w
      (went_as _ _ mid.keys old.keys mid new (went_write key count mid new is)
      (ap (λ ks. map (Room (number_in key ks)) (rooms_of count)) w.keys) w.keys))

  -- the most writes there may be took all
  out_full : (trace : List DoorCall) (now : Past) → IsTaking trace now 300 → Writes_out trace now true
  out_full trace now t =
      let counts = t.counts in
      let w = are_written old.buses peer n old.events counts [] t.full in
      let prefix = texts old.buses n old.events counts in
      let size = sym (length-texts old.buses peer n old.events counts ∙ t.many) in
      let over : nat_lt (length counts + 0) 300 ≡ false = let many = t.many in grind (arith, nat_tests) in
      let are : rooms (writes counts []) ≡ flat_map rooms_of counts =
      cc (
        rooms_are old.buses peer n old.events counts [] false false t.full refl refl,
        append-nil counts,
        append-nil (flat_map rooms_of counts),
      ) in
      let asked : map question (writes counts [])
      ≡ map (Writes peer) (take 300 (handed old.buses n old.events (filter_map count_of (writes counts [])))) =
      cc (
        w.asked,
        append-nil (map (Writes peer) prefix),
        take-append_seam prefix (handed old.buses n (after n old.events counts) []),
        handed-append old.buses n old.events counts [] t.full,
        w.counted,
      ) in
      writes_out trace now true (writes counts []) t.adds asked w.losing (rw are t.went)

  module _ (mid trace : List DoorCall) (before new : Past) (times : ℕ) (trace_mid : Trace)
      (is : trace_mid ≡ Some mid) (t : IsTaking mid before times) where
    lends_now : lent before.buses (number key before) before.events ≡ lends t.counts
    lends_now = rw (t.went.layout, t.went.events, t.went.keys) refl

    pub takes_more : HasWritten peer key before trace_mid new trace All → IsTaking trace new (times + 1)
    takes_more (some, took) =
        let bytes = lends t.counts in
        let count = length bytes in
        let more = rw lends_now at took.adds in
        record {
          counts = t.counts ++ count ∷ [];
          many = cc (length-append t.counts (count ∷ []), t.many);
          full = full-more old.buses n old.events t.counts count t.full refl (rw lends_now at some);
          adds = rw written-more (adds_last t.counts mid trace (WriteCall peer bytes (Ok count) ∷ []) trace_mid is t.adds more);
          went = rw (flat_map-append, append-nil) (write_more t.counts count before new t.went (rw lends_now at took.is));
        }

    -- nothing was lent, the peer took less, or the write failed
    out : times < 300 → (wrote : Wrote) → IsLast wrote → HasWritten peer key before trace_mid new trace wrote
        → Writes_out trace new (keeps wrote)
    out few All last wrote = absurd last
    out few Less last (inl was) =
        let counts = t.counts in
        let many = t.many in
        let more : nat_lt (length counts + 0) 300 ≡ true = grind (arith, nat_tests) in
        let are : rooms (writes counts []) ≡ flat_map rooms_of counts ++ 0 ∷ [] =
        cc (rooms_are old.buses peer n old.events counts [] false false t.full refl refl, append-nil counts) in
        ended_by trace new counts [] [] (0 ∷ []) true t.full
        (adds_last counts mid trace [] trace_mid is t.adds was.1.adds)
        (ap (λ l. unless_nil l []) (sym lends_now ∙ was.0)) refl (omega (arith, many, few)) refl are
        (write_more counts 0 before new t.went was.1.is)
    out few Less last (inr took) =
        let bytes = lends t.counts in
        let call = WriteCall peer bytes (Ok took.0) in
        let less : took.0 < length bytes = rw lends_now at took.1 in
        let short : nat_lt took.0 (length bytes) ≡ true = grind (arith, nat_tests) in
        last_write trace new t.counts call took.0 true true t.full
        (adds_last t.counts mid trace (call ∷ []) trace_mid is t.adds (rw lends_now at took.2.adds))
        refl refl less (omega (arith, t.many, few)) refl (ap (λ b. b || false) short) refl
        (write_more t.counts took.0 before new t.went took.2.is)
    out few Failed last took =
        let call = WriteCall peer (lends t.counts) (Err took.0) in
        last_write trace new t.counts call 0 false false t.full
        (adds_last t.counts mid trace (call ∷ []) trace_mid is t.adds (rw lends_now at took.2.adds))
        refl refl (rw lends_now at took.1) (omega (arith, t.many, few)) refl refl refl
        (write_more t.counts 0 before new t.went took.2.is)

-- ---- the loop of the writes

-- this many writes took all
abbrev pub TakesSoFar : (peer key : ℕ) (old : Past) (trace_old : Trace) (now : Past) (trace_now : Trace) (times : ℕ) → Type 0
TakesSoFar peer key old trace_old now trace_now times =
    (trace : List DoorCall) → trace_now ≡ Some trace → IsTaking peer key old trace_old trace now times

pub takes_first : (peer key : ℕ) (old : Past) (trace_old : Trace) → TakesSoFar peer key old trace_old old trace_old 0
takes_first peer key old trace_old trace is =
    record { counts = []; many = refl; full = tt; adds = adds_none is; went = went_none old }

module _ (peer key : ℕ) (old mid new : Past) (trace_old trace_mid trace_new : Trace) (times : ℕ)
    (so : TakesSoFar peer key old trace_old mid trace_mid times) (asks : Asks AreAboutPeers trace_mid trace_new) where
  pub takes_on : WritesOnce peer key mid trace_mid new trace_new All → TakesSoFar peer key old trace_old new trace_new (times + 1)
  takes_on once trace is =
      let w = (asks trace is).1 in
      takes_more peer key old trace_old w.before trace mid new times trace_mid w.was (so w.before w.was) (once trace is)

  pub takes_last : times < 300 → (wrote : Wrote) → IsLast wrote → WritesOnce peer key mid trace_mid new trace_new wrote
      → WritesOut peer key old trace_old new trace_new (keeps wrote)
  takes_last few wrote last once trace is =
      let w = (asks trace is).1 in
      out peer key old trace_old w.before trace mid new times trace_mid w.was (so w.before w.was) few wrote last (once trace is)

pub ends_full : (peer key : ℕ) (old now : Past) (trace_old trace_now : Trace) (times : ℕ) → times ≡ 300
    → TakesSoFar peer key old trace_old now trace_now times → WritesOut peer key old trace_old now trace_now true
ends_full peer key old now trace_old trace_now times e so trace is = out_full peer key old trace_old trace now (rw e at (so trace is))
