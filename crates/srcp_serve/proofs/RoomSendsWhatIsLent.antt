-- What a connection lends and its peer then takes is what the course says was sent.
use Rattle.srcp_serve.proofs.Names.{◌≡◌, ◌∙◌, ℕ, suc, ◌+◌, ◌-◌, ◌≤◌, min, Bool, true, false, List, [], ◌∷◌, ◌++◌, take, drop, length}
use Rattle.srcp_serve.proofs.Names.{refl, ap, sym, arith, length-append, length-drop, take-add, append-nil, append_assoc, add-zero}
use Rattle.srcp_serve.proofs.Names.{if◌then◌else◌, Option, Some, None, ◌<◌, flat_map, zero-min, min-eq_left, take-append-le, drop_at}
use Rattle.srcp_serve.proofs.Names.{flat_map-append, Shown, Next, Connection, History, line_of, text, given, sent, unsent, prefix}
use Rattle.srcp_serve.proofs.Names.{fitting, available, items_of, owed, overran, took, given_room, is_open, take-nil, fold-append}
use Rattle.srcp_serve.proofs.Names.{same_Some, AllByRecursion, Event, Open, Bytes, Room, At, Shut, Bus, World, fresh, start, numbered}
use Rattle.srcp_serve.proofs.Names.{open_connection, at_connection, counted, or_refused, happens, course, history, rows, NoSuch}
use Rattle.srcp_serve.proofs.Names.{owed_plain, numbered_with, fitting_none, took_within, all_numbered, all_push, lent, cond_both}
use Rattle.srcp_serve.proofs.Names.{is_none, opened, max, map, rooms_of, ◌==◌, and-false, eqb-true, eqb-false}
use Rattle.srcp_core.specs.Connection.{exhausts}
use Rattle.std.proofs.lemmas.Bool.{le-ltb}
use Rattle.srcp_core.proofs.CourseLaws.LinesHaveBytes.{AreFull, owed_full}
use Rattle.srcp_core.proofs.CourseLaws.SessionsOfACourse.{at_number}
use Rattle.srcp_serve.proofs.OnlyRoomSends.{IsSteady, IsSending, event_keeps, sending_bytes, sending_shut}
use Rattle.srcp_serve.proofs.CallsByTurnAndPeer.{fold_keeps}
use Rattle.srcp_serve.proofs.Stream.{put, put_none, put_with}

-- the text that is given after room for this many bytes, and how many bytes of it are taken then
abbrev pub now_given : (left got : List ℕ) → List Next → ℕ → List ℕ
now_given left got nexts bytes = got ++ flat_map line_of (fitting bytes left nexts)

abbrev pub now_taken : (left : List ℕ) (taken : ℕ) → List Next → ℕ → ℕ
now_taken left taken nexts bytes = taken + min bytes (length (available left nexts))

-- what room for none leaves unsent
abbrev lent_text : (left got : List ℕ) (taken : ℕ) → List Next → List ℕ
lent_text left got taken nexts = drop (now_taken left taken nexts 0) (now_given left got nexts 0)

-- if something is unsent, room for no more than that gives nothing new
pub fits_left : (bytes byte : ℕ) (left : List ℕ) (nexts : List Next) → bytes ≤ length (byte ∷ left) → fitting bytes (byte ∷ left) nexts ≡ []
fits_left bytes byte left nexts h =
    let none : max bytes 1 - length (byte ∷ left) ≡ 0 = omega arith in
    rw none refl

-- room for no more than the next line gives that line
pub first_some : (bytes : ℕ) (what : Next) (nexts : List Next) → 0 < length (line_of what) → bytes ≤ length (line_of what)
    → fitting bytes [] (what ∷ nexts) ≡ what ∷ []
first_some bytes what nexts full h =
    let asked : max bytes 1 - 0 ≡ suc (bytes - 1) = omega arith in
    let none : suc (bytes - 1) - length (line_of what) ≡ 0 = omega (arith, full, h) in
    rw asked (ap (λ n. what ∷ prefix n nexts) none)

taken_none : (left : List ℕ) (taken : ℕ) (nexts : List Next) → now_taken left taken nexts 0 ≡ taken
taken_none left taken nexts = simp (zero-min, add-zero)

takes_none : (left got : List ℕ) (taken : ℕ) (nexts : List Next) → taken ≤ length got
    → take (now_taken left taken nexts 0) (now_given left got nexts 0) ≡ take taken got ++ take 0 (lent_text left got taken nexts)
takes_none left got taken nexts within = simp (taken_none, take-append-le, append-nil)

no_bytes : (bytes : ℕ) (text : List ℕ) → text ≡ [] → bytes ≤ length text → 0 ≡ bytes
no_bytes bytes text e h = let none = ap length e in omega (arith, none, h)

takes_by : (left got : List ℕ) (taken : ℕ) (nexts : List Next) (bytes : ℕ) → AreFull nexts → drop taken got ≡ left
    → taken ≤ length got → bytes ≤ length (lent_text left got taken nexts)
    → take (now_taken left taken nexts bytes) (now_given left got nexts bytes)
    ≡ take taken got ++ take bytes (lent_text left got taken nexts)
takes_by (byte ∷ left) got taken nexts bytes full e within h =
    let all : List ℕ = byte ∷ left in
    let none : fitting 0 all nexts ≡ [] = fits_left 0 byte left nexts (omega arith) in
    let lent : lent_text all got taken nexts ≡ all = cc (taken_none all taken nexts, append-nil got) in
    let inside : bytes ≤ length all = rw lent at h in
    let size : bytes ≤ length (available all nexts) = omega (arith, inside, length-append all (flat_map line_of nexts)) in
    cc (min-eq_left size, fits_left bytes byte left nexts inside, append-nil got, take-add taken bytes got)
takes_by [] got taken [] bytes full e within h =
    let lent : lent_text [] got taken [] ≡ [] = simp (taken_none, append-nil, e) in
    rw (sym (no_bytes bytes _ lent h)) (takes_none [] got taken [] within)
takes_by [] got taken (what ∷ nexts) bytes full e within h =
    let text : List ℕ = line_of what in
    let whole : length got ≡ taken = omega (arith, within, length-drop taken got, ap length e) in
    let joined : got ++ (text ++ []) ≡ got ++ text = ap (λ l. got ++ l) (append-nil text) in
    let behind : drop taken (got ++ (text ++ [])) ≡ text = cc (drop_at got text taken whole) in
    let lent : lent_text [] got taken (what ∷ nexts) ≡ text =
    cc (taken_none [] taken (what ∷ nexts), first_some 0 what nexts full.0 (omega arith)) in
    let inside : bytes ≤ length text = rw lent at h in
    let size : bytes ≤ length (available [] (what ∷ nexts)) = omega (arith, inside, length-append text (flat_map line_of nexts)) in
    cc (
      min-eq_left size,
      first_some bytes what nexts full.0 inside,
      take-add taken bytes (got ++ (text ++ [])),
      take-append-le taken got (text ++ []) within,
    )

-- ---- of a connection

text_of_items : (steps : ℕ) (nexts : List Next) → text (items_of steps nexts) ≡ flat_map line_of nexts
text_of_items steps [] = refl
text_of_items steps (what ∷ nexts) = ap (λ l. line_of what ++ l) (text_of_items steps nexts)

-- what was given, and what was given since
pub given_more : (conn : Connection) (steps bytes : ℕ) (nexts : List Next)
    → given (took bytes steps nexts conn) ≡ now_given (unsent conn) (given conn) nexts bytes
given_more conn steps bytes nexts = simp (flat_map-append, append_assoc, text_of_items)

-- no more was taken than was given
abbrev pub IsWithin : Connection → Type 0
IsWithin conn = conn.taken ≤ length (given conn)

-- if the connection did not overrun, room for no more than it lends sends a prefix of what it lends
pub sends_lent : (history : History) (rows : List Shown) (conn : Connection) (bytes : ℕ) → overran conn history ≡ false → IsWithin conn
    → bytes ≤ length (unsent (given_room 0 history rows conn))
    → sent (given_room bytes history rows conn) ≡ sent conn ++ take bytes (unsent (given_room 0 history rows conn))
sends_lent history rows conn bytes over within h =
    let nexts : List Next = owed conn history rows in
    let steps : ℕ = length history in
    let room : (n : ℕ) → given_room n history rows conn ≡ took n steps nexts conn = λ n. rw over refl in
    let lent : unsent (given_room 0 history rows conn) ≡ lent_text (unsent conn) (given conn) conn.taken nexts =
    cc (room 0, given_more conn steps 0 nexts) in
    let inside : bytes ≤ length (lent_text (unsent conn) (given conn) conn.taken nexts) = rw lent at h in
    cc (
      room bytes,
      given_more conn steps bytes nexts,
      takes_by (unsent conn) (given conn) conn.taken nexts bytes (owed_full conn history rows) refl within inside,
    )

-- ---- what a connection lends and its peer then takes is what the course says was sent

open_room : (bytes : ℕ) (past : History) (shown : List Shown) (conn : Connection)
    → is_open (given_room bytes past shown conn) ≡ is_open conn
open_room bytes past shown conn = cond_both _ _ _ (λ (c : Connection). is_open c ≡ is_open conn) (λ e. refl) (λ e. refl)

-- what is lent of the connection after room for none
abbrev pub lends : History → List Shown → Connection → List ℕ
lends past shown conn = let now = given_room 0 past shown conn in if overran now past then [] else unsent now

conn_sends : (past : History) (shown : List Shown) (conn : Connection) (bytes : ℕ) (over over' : Bool) → overran conn past ≡ over
    → overran (given_room 0 past shown conn) past ≡ over' → IsWithin conn → bytes ≤ length (lends past shown conn)
    → sent (given_room bytes past shown conn) ≡ sent conn ++ take bytes (lends past shown conn)
conn_sends past shown conn bytes true over' e e' within h =
    let same : (k : ℕ) → given_room k past shown conn ≡ conn = λ k. rw e refl in
    let none : lends past shown conn ≡ [] = rw (same 0, e) refl in
    rw (sym (no_bytes bytes _ none h)) (simp (same, append-nil))
conn_sends past shown conn bytes false true e e' within h =
    let none = ap (λ b. if b then [] else unsent (given_room 0 past shown conn)) e' in
    rw (sym (no_bytes bytes _ none h)) (sends_lent past shown conn 0 e within (omega arith))
conn_sends past shown conn bytes false false e e' within h =
    let all = ap (λ b. if b then [] else unsent (given_room 0 past shown conn)) e' in
    cc (sends_lent past shown conn bytes e within (rw all at h))

-- ---- of all connections

steady_room : (bytes : ℕ) (past : History) (shown : List Shown) (conn : Connection) → IsSteady conn
    → IsSteady (given_room bytes past shown conn)
steady_room bytes past shown conn s =
    cond_both (overran conn past) conn (took bytes (length past) (owed conn past shown) conn) IsSteady (λ e. s) (λ e. record {
      plain = λ h. rw (owed_plain conn past shown h) (rw fitting_none (append-nil _ ∙ s.plain h));
      goes_on = s.goes_on;
      within = took_within bytes _ _ conn s.within;
    })

-- if something is unsent, room for none changes nothing
took_nothing : (steps : ℕ) (nexts : List Next) (conn : Connection) (byte : ℕ) (left : List ℕ) → unsent conn ≡ byte ∷ left
    → took 0 steps nexts conn ≡ conn
took_nothing steps nexts conn byte left e =
    let none : fitting 0 (unsent conn) nexts ≡ [] = rw e (fits_left 0 byte left nexts (omega arith)) in
    let some : 1 ≤ length (available (byte ∷ left) nexts) = omega arith in
    let goes_on : exhausts 0 (unsent conn) nexts ≡ false = rw e (le-ltb (length (available (byte ∷ left) nexts)) 1 some) in
    let same : conn.taken + min 0 (length (available (unsent conn) nexts)) ≡ conn.taken = simp (zero-min, add-zero) in
    rw (none, goes_on, same, append-nil, and-false) refl

-- so what is lent then is lent again
lends_again : (past : History) (shown : List Shown) (conn : Connection) → 0 < length (lends past shown conn)
    → lends past shown (given_room 0 past shown conn) ≡ lends past shown conn
lends_again past shown conn some = by (unsent now) refl
  where
    now : Connection
    now = given_room 0 past shown conn

    by : (left : List ℕ) → unsent now ≡ left → lends past shown now ≡ lends past shown conn
    by [] e =
        let none : lends past shown conn ≡ [] =
        cond_both (overran now past) [] (unsent now) (λ (l : List ℕ). l ≡ []) (λ t. refl) (λ t. e) in
        absurd (omega (arith, some, ap length none))
    by (byte ∷ left) e =
        let same : given_room 0 past shown now ≡ now = cond_both (overran now past) now (took 0 (length past) (owed now past shown) now)
        (λ (c : Connection). c ≡ now) (λ t. refl) (λ t. took_nothing (length past) (owed now past shown) now byte left e) in
        ap (λ (c : Connection). if overran c past then [] else unsent c) same

module _ (buses : List Bus) where
  -- room for an open connection
  pub after_room : (events : List Event) (n bytes : ℕ) (conn : Connection) → open_connection (course buses events) n ≡ Some conn
      → course buses (events ++ Room n bytes ∷ [])
      ≡ at_connection n (given_room bytes (history buses (course buses events)) (rows buses (course buses events)))
      (counted (course buses events))
  after_room events n bytes conn e = simp (fold-append, e)

  pub there_after : (events : List Event) (n bytes : ℕ) (conn : Connection) → open_connection (course buses events) n ≡ Some conn
      → numbered n (course buses (events ++ Room n bytes ∷ [])).connections
      ≡ Some (given_room bytes (history buses (course buses events)) (rows buses (course buses events)) conn)
  there_after events n bytes conn e =
      let w = course buses events in
      let change = given_room bytes (history buses w) (rows buses w) in
      cc (after_room events n bytes conn e, numbered_with n change w.connections, (opened (numbered n w.connections) conn e).0)

  pub lent_is : (events : List Event) (n : ℕ) (conn : Connection) → open_connection (course buses events) n ≡ Some conn
      → lent buses n events ≡ lends (history buses (course buses events)) (rows buses (course buses events)) conn
  lent_is events n conn e =
      let w = course buses events in
      let stays = open_room 0 (history buses w) (rows buses w) conn ∙ ap is_none (opened _ conn e).1 in
      let same = ap (history buses) (after_room events n 0 conn e) in
      cc (there_after events n 0 conn e)

  -- a prefix of what is lent is sent: of a connection that is not open, nothing is lent
  pub sending_room : (events : List Event) (n bytes : ℕ) (texts : List (List ℕ)) → bytes ≤ length (lent buses n events)
      → IsSending texts (course buses events).connections
      → IsSending (put n (take bytes (lent buses n events)) texts) (course buses (events ++ Room n bytes ∷ [])).connections
  sending_room events n bytes texts h a = by (open_connection (course buses events) n) refl
    where
      by : (o : Option Connection) → open_connection (course buses events) n ≡ o
          → IsSending (put n (take bytes (lent buses n events)) texts) (course buses (events ++ Room n bytes ∷ [])).connections
      by (Some conn) e =
          let w = course buses events in
          let past = history buses w in
          let shown = rows buses w in
          let is = lent_is events n conn e in
          let there = (opened _ conn e).0 in
          let steady = at_number IsSteady n _ conn a.steady there in
          let one : sent (given_room bytes past shown conn) ≡ sent conn ++ take bytes (lent buses n events) =
          cc (conn_sends past shown conn bytes (overran conn past) (overran (given_room 0 past shown conn) past) refl refl steady.within
          (rw is at h)) in
          let same : (c : Connection) → numbered n w.connections ≡ Some c
          → sent (given_room bytes past shown c) ≡ sent c ++ take bytes (lent buses n events) =
          λ c t. rw (same_Some conn c (sym there ∙ t)) at one in
          rw (after_room events n bytes conn e) (record {
            steady = all_numbered _ n _ _ (λ c t s. steady_room bytes past shown c s) a.steady;
            sends = cc (put_with sent n (given_room bytes past shown) (take bytes (lent buses n events)) w.connections same, a.sends);
          })
      by None e =
          let w = course buses events in
          let lends : course buses (events ++ Room n 0 ∷ []) ≡ or_refused buses (Some NoSuch) (Room n 0) (counted w) =
          simp (fold-append, e) in
          let empty : lent buses n events ≡ [] = cc in
          let none : take bytes (lent buses n events) ≡ [] = simp (empty, take-nil) in
          let next : course buses (events ++ Room n bytes ∷ []) ≡ or_refused buses (Some NoSuch) (Room n bytes) (counted w) =
          simp (fold-append, e) in
          rw (next, none, put_none n texts) a

  -- what is lent is lent again
  lent_again : (events : List Event) (n : ℕ) → 0 < length (lent buses n events)
      → lent buses n (events ++ Room n 0 ∷ []) ≡ lent buses n events
  lent_again events n some = by (open_connection (course buses events) n) refl
    where
      by : (o : Option Connection) → open_connection (course buses events) n ≡ o
          → lent buses n (events ++ Room n 0 ∷ []) ≡ lent buses n events
      by (Some conn) e =
          let w = course buses events in
          let past = history buses w in
          let shown = rows buses w in
          let next = after_room events n 0 conn e in
          let stays = open_room 0 past shown conn ∙ ap is_none (opened _ conn e).1 in
          let there : open_connection (course buses (events ++ Room n 0 ∷ [])) n ≡ Some (given_room 0 past shown conn) =
          cc (there_after events n 0 conn e) in
          let some_lent : 0 < length (lends past shown conn) = rw (lent_is events n conn e) at some in
          cc (
            lent_is (events ++ Room n 0 ∷ []) n (given_room 0 past shown conn) there,
            lent_is events n conn e,
            ap (history buses) next,
            ap (rows buses) next,
            lends_again past shown conn some_lent,
          )
      by None e =
          let lends : course buses (events ++ Room n 0 ∷ []) ≡ or_refused buses (Some NoSuch) (Room n 0) (counted (course buses events)) =
          simp (fold-append, e) in
          let empty : lent buses n events ≡ [] = cc in
          absurd (omega (arith, some, ap length empty))

  -- so a write sends a prefix of it
  pub sending_write : (events : List Event) (n bytes : ℕ) (texts : List (List ℕ)) → bytes ≤ length (lent buses n events)
      → IsSending texts (course buses events).connections
      → IsSending (put n (take bytes (lent buses n events)) texts) (course buses (events ++ map (Room n) (rooms_of bytes))).connections
  sending_write events n bytes texts h a = by (bytes == 0) refl
    where
      now : List Event
      now = events ++ Room n 0 ∷ []

      lent_first : IsSending texts (course buses now).connections
      lent_first = rw put_none at (sending_room events n 0 texts (omega arith) a)

      by : (t : Bool) → (bytes == 0) ≡ t
          → IsSending (put n (take bytes (lent buses n events)) texts) (course buses (events ++ map (Room n) (rooms_of bytes))).connections
      by true e = rw (eqb-true bytes 0 e) (rw put_none lent_first)
      by false e =
          let none = eqb-false bytes 0 e in
          let again = lent_again events n (omega (arith, h, none)) in
          let sent = rw again at (sending_room now n bytes texts (rw again h) lent_first) in
          rw e (rw append_assoc at sent)

  -- every connection of a course is steady
  steady_happens : (w : World) (event : Event) → AllByRecursion IsSteady w.connections
      → AllByRecursion IsSteady (happens buses w event).connections
  steady_happens w (Open granted) a =
      event_keeps buses (AllByRecursion IsSteady) (Open granted) w
      (all_push _ _ fresh a (record { plain = λ h. refl; goes_on = λ h. refl; within = omega arith })) a
  steady_happens w (Bytes n piece) a = (sending_bytes buses n _ piece w (record { steady = a; sends = refl })).steady
  steady_happens w (Room n bytes) a =
      event_keeps buses (AllByRecursion IsSteady) (Room n bytes) w (all_numbered _ n _ _ (λ c t s. steady_room bytes _ _ c s) a) a
  steady_happens w (At moment) a = a
  steady_happens w (Shut n) a = (sending_shut buses n _ w (record { steady = a; sends = refl })).steady

  pub steady_course : (events : List Event) → AllByRecursion IsSteady (course buses events).connections
  steady_course events = fold_keeps (λ (w : World). AllByRecursion IsSteady w.connections) (happens buses) steady_happens events start tt
