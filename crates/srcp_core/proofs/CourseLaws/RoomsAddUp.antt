-- Rooms add up at every open connection of a course.
use Rattle.srcp_core.proofs.Names.{cond_both, ◌≡◌, ℕ, zero, suc, ◌+◌, ◌<◌, ◌≤◌, min, Bool, true, false, List, [], ◌∷◌, ◌++◌, take, length}
use Rattle.srcp_core.proofs.Names.{drop, map, refl, ap, sym, ◌∙◌, subst, arith, append-nil, length-append, length-drop, take_all, max}
use Rattle.srcp_core.proofs.Names.{filter_map-append, fold-append, le-ltb, ltb-false, lt-ltb, flat_map, AllByRecursion, option_or, nat_lt}
use Rattle.srcp_core.proofs.Names.{Option, Some, None, ◌&&◌, if◌then◌else◌, Change, Shown, beyond, Next, Told, Listed, Bus, IsLayout}
use Rattle.srcp_core.proofs.Names.{opening, shown_rows, Event, Room, Connection, History, heard, line_of, fitting, is_open, is_done_by}
use Rattle.srcp_core.proofs.Names.{items_of, sent, untold, cursor_at, available, exhausts, given, told_change, unsent, text, owed, overran}
use Rattle.srcp_core.proofs.Names.{took, given_room, World, numbered, with_numbered, counted, accepted, start, happens, course, rows}
use Rattle.srcp_core.proofs.Names.{history, AddsUp, Item, lt-leb, and-true, cases_Bool, ⊎_elim, is_nil}
use Rattle.std.specs.Prelude.{option_map}
use Rattle.srcp_core.specs.Laws.{without_events}
use Rattle.srcp_core.proofs.CourseLaws.LinesHaveBytes.{first_nil, owed_full}
use Rattle.srcp_core.proofs.CourseLaws.Histories.{concerning_by, concerning_same, cursor_by, cursor_before}
use Rattle.srcp_core.proofs.CourseLaws.RoomGivesWhatIsOwed.{no_lists, fitting_none}
use Rattle.srcp_core.proofs.CourseLaws.SessionsOfACourse.{anything, at_number, fits_open, nil_is, open_shut, opening_in_order, overran_open}
use Rattle.srcp_core.proofs.CourseLaws.ItemsFitHistory.{Fits, tolds, untold_by}
use Rattle.srcp_core.proofs.CourseLaws.RoomSettles.{after_room, owes_after, OwesAfter}
use Rattle.srcp_core.proofs.Agreement.NumbersAndKeys.{numbered_with, with_twice}
use Rattle.srcp_core.proofs.CourseLaws.SessionsAreKept.{sound, concerning_start}
use Rattle.srcp_core.proofs.CourseLaws.RoomInTwoParts.{left_after, parts_same, took_both}

-- ---- a room and overruns

given_now : (n : ℕ) (nexts : List Next) → AllByRecursion (λ (item : Item). item.steps ≡ n) (items_of n nexts)
given_now n [] = tt
given_now n (what ∷ nexts) = (refl, given_now n nexts)

-- a listing that is done now was not done before
done_now : (n : ℕ) (done : Option ℕ) (t : Bool) (k : ℕ) → k < n
    → is_done_by k (if t then option_or done (Some n) else done) ≡ is_done_by k done
done_now n (Some m) true k h = refl
done_now n None true k h = lt-leb n k h
done_now n done false k h = refl

-- what is given takes of what waits
pub untold_took : (history : History) (bytes : ℕ) (nexts : List Next) (conn : Connection)
    → length (untold_by conn.go_step (took bytes (length history) nexts conn).items (took bytes (length history) nexts conn).done history)
    ≤ length (untold_by conn.go_step conn.items conn.done history)
untold_took history bytes nexts conn =
    let given = items_of (length history) (fitting bytes (unsent conn) nexts) in
    let later = took bytes (length history) nexts conn in
    let con : concerning_by conn.go_step (cursor_by later.done later.items) history
    ≡ concerning_by conn.go_step (cursor_by conn.done conn.items) history =
    concerning_same conn.go_step _ _ 0 history (λ k low high. before k (omega (arith, high))) in
    let told : tolds later.items ≡ tolds conn.items ++ tolds given =
    filter_map-append (λ (item : Item). told_change item.what) conn.items given in
    let size : length (tolds later.items) ≡ length (tolds conn.items) + length (tolds given) =
    cc (length-append (tolds conn.items) (tolds given)) in
    let a = length-drop (length (tolds conn.items)) (concerning_by conn.go_step (cursor_by conn.done conn.items) history) in
    let b = length-drop (length (tolds later.items)) (concerning_by conn.go_step (cursor_by conn.done conn.items) history) in
    let is : length (untold_by conn.go_step later.items later.done history)
    ≡ length (drop (length (tolds later.items)) (concerning_by conn.go_step (cursor_by conn.done conn.items) history)) = cc in
    omega (arith, size, a, b, is)
  where
    before : (k : ℕ) → k < length history
        → cursor_by (took bytes (length history) nexts conn).done (took bytes (length history) nexts conn).items k
        ≡ cursor_by conn.done conn.items k
    before k h = cc (
      done_now (length history) conn.done (conn.info && exhausts bytes (unsent conn) nexts) k h,
      cursor_before (length history) k conn.done conn.items _ h (given_now (length history) (fitting bytes (unsent conn) nexts)),
    )

-- so a room makes no overrun
pub took_overran : (history : History) (bytes : ℕ) (nexts : List Next) (conn : Connection) → conn.shut ≡ None → overran conn history ≡ false
    → overran (took bytes (length history) nexts conn) history ≡ false
took_overran history bytes nexts conn shut e =
    let less = untold_took history bytes nexts conn in
    let few = ltb-false 256 _ (sym (overran_open history conn shut) ∙ e) in
    overran_open history (took bytes (length history) nexts conn) shut ∙ le-ltb 256 _ (omega (arith, less, few))

-- ---- nothing more

-- where nothing is unsent and nothing is owed, any room only ends the listing
took_nothing : (b n : ℕ) (nexts : List Next) (conn : Connection) → unsent conn ≡ [] → nexts ≡ [] → took b n nexts conn ≡ record conn {
  items = conn.items;
  taken = conn.taken;
  done = if conn.info then option_or conn.done (Some n) else conn.done;
}
took_nothing b n nexts conn u e =
    parts_same conn
    (ap (λ ns. conn.items ++ items_of n ns) (ap (fitting b (unsent conn)) e ∙ fitting_none b _) ∙ append-nil _) same_taken
    (ap (λ t. if conn.info && t then option_or conn.done (Some n) else conn.done) exhausted_now
    ∙ ap (λ t. if t then option_or conn.done (Some n) else conn.done) (and-true _))
  where
    same_taken : conn.taken + min b (length (available (unsent conn) nexts)) ≡ conn.taken
    same_taken =
        let z : length (available (unsent conn) nexts) ≡ 0 = cc in
        omega arith

    exhausted_now : exhausts b (unsent conn) nexts ≡ true
    exhausted_now =
        let none : length (available (unsent conn) nexts) ≡ 0 = cc in
        lt-ltb (length (available (unsent conn) nexts)) (max b 1) (omega (arith, none))

-- ---- at a connection of a course

pub owed_plain : (conn : Connection) (history : History) (rows : List Shown) → conn.info ≡ false → owed conn history rows ≡ []
owed_plain conn history rows e =
    cc (none _)
  where
    none : (t : Bool)
        → (if t && false then map Told (untold conn history) ++ map Listed (beyond (cursor_at conn (length history)) rows) else []) ≡ []
    none true = refl
    none false = refl

-- what is owed to any open connection after room
rests : (buses : List Bus) (layout : IsLayout buses) (w : World) (bytes : ℕ) (conn : Connection) → conn.shut ≡ None
    → Fits (shown_rows (opening buses 0)) (history buses w) conn.go_step conn.items conn.done → OwesAfter buses w bytes conn
rests buses layout w bytes conn shut fits =
    ⊎_elim (λ e. owes_after buses layout w bytes conn shut e fits)
    (λ e. let none = owed_plain conn (history buses w) (rows buses w) e in record {
      rest = [];
      whole = none ∙ sym (append-nil _ ∙ ap (fitting bytes (unsent conn)) none ∙ fitting_none bytes _);
      owes = owed_plain (took bytes (length (history buses w)) (owed conn (history buses w) (rows buses w)) conn) _ _ e;
      fully = λ _. refl;
    })
    (cases_Bool conn.info)

module _ (buses : List Bus) (layout : IsLayout buses) (w : World) (conn : Connection) (shut : conn.shut ≡ None)
    (fits : Fits (shown_rows (opening buses 0)) (history buses w) conn.go_step conn.items conn.done)
    (within : conn.taken ≤ length (given conn)) where
  abbrev room : ℕ → Connection → Connection
  room bytes c = given_room bytes (history buses w) (rows buses w) c

  abbrev takes : ℕ → Connection
  takes bytes = took bytes (length (history buses w)) (owed conn (history buses w) (rows buses w)) conn

  itself : overran conn (history buses w) ≡ true → (bytes : ℕ) → room bytes conn ≡ conn
  itself o bytes = cc

  some_room : overran conn (history buses w) ≡ false → (bytes : ℕ) → room bytes conn ≡ takes bytes
  some_room o bytes = cc

  adds : (a b : ℕ) → 0 < b → (t : Bool) → overran conn (history buses w) ≡ t → room b (room a conn) ≡ room (a + b) conn
  adds a b pb true o = cc (itself o a, itself o b, itself o (a + b))
  adds a b pb false o =
      let r = rests buses layout w a conn shut fits in
      let h = history buses w in
      cc (
        some_room o a,
        took_overran h a (owed conn h (rows buses w)) conn shut o,
        r.owes,
        took_both a (length h) (owed conn h (rows buses w)) conn within b r.rest pb r.whole,
        some_room o (a + b),
      )

  overruns : (a : ℕ) (t : Bool) → overran conn (history buses w) ≡ t
      → overran (room a conn) (history buses w) ≡ overran conn (history buses w)
  overruns a true o = cc (itself o a)
  overruns a false o =
      ap (λ c. overran c (history buses w)) (some_room o a)
      ∙ took_overran _ a _ conn shut o ∙ sym o

  none_found : (b : ℕ) (t : Bool) → overran conn (history buses w) ≡ t → unsent (room 0 conn) ≡ [] → room b conn ≡ room 0 conn
  none_found b true o u = itself o b ∙ sym (itself o 0)
  none_found b false o u =
      let parts = no_lists _ _
      (sym (left_after _ _ conn within)
      ∙ ap unsent (sym (some_room o 0)) ∙ u) in
      let nothing : owed conn (history buses w) (rows buses w) ≡ [] =
      nil_is _
      (sym (first_nil _ (owed_full conn (history buses w) (rows buses w)))
      ∙ ap is_nil (ap (λ l. flat_map line_of (fitting 0 l (owed conn (history buses w) (rows buses w)))) (sym parts.0) ∙ parts.1)) in
      some_room o b
      ∙ took_nothing b (length (history buses w)) (owed conn (history buses w) (rows buses w)) conn parts.0 nothing
      ∙ sym (took_nothing 0 (length (history buses w)) (owed conn (history buses w) (rows buses w)) conn parts.0 nothing)
      ∙ sym (some_room o 0)

  pub adds_up : AddsUp buses w conn
  adds_up = record {
    adds = λ a b pb. adds a b pb _ refl;
    none = λ u b pb. none_found b _ refl u;
    overruns = λ a. overruns a _ refl;
  }

-- the line that a room for none puts in is the first of any other
pub adds_none : (buses : List Bus) (w : World) (conn : Connection) → AddsUp buses w conn → (b : ℕ) → 0 < b
    → given_room b (history buses w) (rows buses w) (given_room 0 (history buses w) (rows buses w) conn)
    ≡ given_room b (history buses w) (rows buses w) conn
adds_none buses w conn up b pb = let zero_plus : 0 + b ≡ b = omega arith in cc (up.adds 0 b pb)

pub rooms_add_up : (buses : List Bus) → IsLayout buses → (events : List Event) (number : ℕ) (conn : Connection)
    → numbered number (course buses events).connections ≡ Some conn
    → is_open conn ≡ true → AddsUp buses (course buses events) conn
rooms_add_up buses layout events number conn there up =
    let w = course buses events in
    let shut = open_shut conn.shut up in
    let s =
    at_number _ number w.connections conn
    (sound buses (opening_in_order buses layout) _ (anything (shown_rows (opening buses 0))) events) there in
    adds_up buses layout w conn shut (fits_open (shown_rows (opening buses 0)) _ (history buses w) conn shut s).0 s.within

pub takes_within : (buses : List Bus) → IsLayout buses → (events : List Event) (number : ℕ) (conn : Connection)
    → numbered number (course buses events).connections ≡ Some conn
    → conn.taken ≤ length (given conn)
takes_within buses layout events number conn there =
    (at_number _ number (course buses events).connections conn
    (sound buses (opening_in_order buses layout) _ (anything (shown_rows (opening buses 0))) events) there).within

-- ---- all replies

-- a connection that was listed nothing and is listed nothing never overran
plain_overran : (conn : Connection) (history : History) → conn.items ≡ [] → conn.done ≡ None → overran conn history ≡ false
plain_overran conn history i d =
    ap (λ cs. nat_lt 256 (length (drop (length (tolds conn.items)) cs)))
    (ap (λ is. concerning_by conn.go_step (cursor_by conn.done is) (heard conn.shut history)) i
    ∙ ap (λ o. concerning_by conn.go_step (cursor_by o []) (heard conn.shut history)) d
    ∙ concerning_start conn.go_step 0 (heard conn.shut history))
    ∙ no_changes _
  where
    no_changes : (n : ℕ) → nat_lt 256 (length (drop {A = Change} n [])) ≡ false
    no_changes zero = refl
    no_changes (suc n) = refl

sent_all : (bytes n : ℕ) (nexts : List Next) (conn : Connection) → conn.items ≡ [] → nexts ≡ [] → length (unsent conn) ≤ bytes
    → sent (took bytes n nexts conn) ≡ conn.out
sent_all bytes n nexts conn i e h =
    ap (take (conn.taken + min bytes (length (available (unsent conn) nexts)))) whole
    ∙ take_all _ conn.out enough
  where
    whole : given (took bytes n nexts conn) ≡ conn.out
    whole =
        ap (λ ns. conn.out ++ text (conn.items ++ items_of n ns)) (ap (fitting bytes (unsent conn)) e ∙ fitting_none bytes _)
        ∙ ap (λ is. conn.out ++ text (is ++ [])) i
        ∙ append-nil conn.out

    enough : length conn.out ≤ conn.taken + min bytes (length (available (unsent conn) nexts))
    enough =
        let a = length-drop conn.taken (given conn) in
        let b : length (given conn) ≡ length conn.out = cc (append-nil conn.out) in
        let c : length (available (unsent conn) nexts) ≡ length (unsent conn) = cc (append-nil (unsent conn)) in
        omega arith

pub sends_all_replies : (buses : List Bus) → IsLayout buses → (events : List Event) (number bytes : ℕ) (conn later : Connection)
    → numbered number (course buses events).connections ≡ Some conn → conn.info ≡ false → is_open conn ≡ true
    → numbered number (course buses (events ++ Room number bytes ∷ [])).connections ≡ Some later → length (unsent conn) ≤ bytes
    → (later.out ≡ conn.out) × (sent later ≡ conn.out)
sends_all_replies buses layout events number bytes conn later there plain up after room =
    let w = course buses events in
    let shut = open_shut conn.shut up in
    let s =
    at_number _ number w.connections conn
    (sound buses (opening_in_order buses layout) _ (anything (shown_rows (opening buses 0))) events) there in
    let p = s.plain plain in
    let next : course buses (events ++ Room number bytes ∷ []) ≡ happens buses w (Room number bytes) =
    fold-append (happens buses) start events (Room number bytes ∷ []) in
    let is =
    after_room buses w number bytes conn later there shut (plain_overran conn (history buses w) p.0 p.1)
    (cc) in (
      cc,
      cc (sent_all bytes (length (history buses w)) (owed conn (history buses w) (rows buses w)) conn p.0
          (owed_plain conn (history buses w) (rows buses w) plain) room),
    )

-- ---- two rooms of a course

pub shut_after : (bytes : ℕ) (history : History) (rows : List Shown) (conn : Connection)
    → (given_room bytes history rows conn).shut ≡ conn.shut
shut_after bytes history rows conn = cond_both _ _ _ (λ (it : Connection). it.shut ≡ conn.shut) (λ _. refl) (λ _. refl)

-- room of an open connection
room_happens : (buses : List Bus) (w : World) (number bytes : ℕ) (conn : Connection) → numbered number w.connections ≡ Some conn
    → conn.shut ≡ None → happens buses w (Room number bytes) ≡ accepted buses (Room number bytes) (counted w)
room_happens buses w number bytes conn there shut = cc

pub rooms_are_one : (buses : List Bus) → IsLayout buses → (events : List Event) (number a b : ℕ) (conn : Connection)
    → numbered number (course buses events).connections ≡ Some conn → is_open conn ≡ true → 0 < b
    → without_events (course buses (events ++ Room number a ∷ Room number b ∷ []))
    ≡ without_events (course buses (events ++ Room number (a + b) ∷ []))
rooms_are_one buses layout events number a b conn there up pb =
    let w = course buses events in
    let shut = open_shut _ up in
    let sums = rooms_add_up buses layout events number conn there up in
    let f = given_room a _ _ in
    let one : course buses (events ++ Room number a ∷ Room number b ∷ [])
    ≡ happens buses (happens buses w (Room number a)) (Room number b) = fold-append _ start events _ in
    let two : course buses (events ++ Room number (a + b) ∷ []) ≡ happens buses w (Room number (a + b)) =
    fold-append _ start events _ in
    let first = room_happens buses w number a conn there shut in
    let at : numbered number (accepted buses (Room number a) (counted w)).connections ≡ Some (f conn) =
    numbered_with number f _ ∙ ap (option_map f) there in
    let second =
    room_happens buses (accepted buses (Room number a) (counted w)) number b (f conn) at
    (shut_after a (history buses w) (rows buses w) conn ∙ shut) in
    let both = room_happens buses w number (a + b) conn there shut in
    let same : with_numbered number (given_room b (history buses w) (rows buses w)) (with_numbered number f w.connections)
    ≡ with_numbered number (given_room (a + b) (history buses w) (rows buses w)) w.connections =
    with_twice number f (given_room b (history buses w) (rows buses w)) (given_room (a + b) (history buses w) (rows buses w)) w.connections
    (λ x e. let is : conn ≡ x = cc in
    subst (λ c. given_room b (history buses w) (rows buses w) (f c) ≡ given_room (a + b) (history buses w) (rows buses w) c) is
    (sums.adds a b pb)) in
    ap (λ (v : World). record v { events = 0 }) (one ∙ ap (λ v. happens buses v (Room number b)) first ∙ second)
    ∙ ap (λ conns. record w { connections = conns; events = 0 }) same
    ∙ sym (ap (λ (v : World). record v { events = 0 }) (two ∙ both))
