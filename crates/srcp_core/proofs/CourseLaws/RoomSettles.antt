-- Room gives the prefix of what is owed, and settles a session that is given enough.
use Rattle.srcp_core.proofs.Names.{◌≡◌, ℕ, ◌+◌, ◌-◌, ◌≤◌, min, Bool, true, false, List, [], ◌∷◌, ◌++◌, map, length, drop, refl, ap, sym}
use Rattle.srcp_core.proofs.Names.{◌∙◌, subst, arith, append-nil, append_assoc, length-append, length-drop, take-append-drop, drop_all}
use Rattle.srcp_core.proofs.Names.{length-map, fold-append, flat_map, option_or, ◌&&◌, Option, Some, None, if◌then◌else◌, Change, Shown}
use Rattle.srcp_core.proofs.Names.{Bus, IsLayout, opening, shown_rows, Next, Told, Listed, key_at, IsRisingBy, Event, Room, Connection}
use Rattle.srcp_core.proofs.Names.{History, is_nil, is_open, line_of, text, unsent, owed, fitting, available, exhausts, items_of, took}
use Rattle.srcp_core.proofs.Names.{given_room, overran, World, start, happens, counted, course, numbered, open_connection, accepted, rows}
use Rattle.srcp_core.proofs.Names.{history, IsSession, Item, sent, nat_lt, ◌||◌, ◌==◌}
use Rattle.std.specs.Prelude.{option_map}
use Rattle.srcp_core.specs.Laws.{IsPrefixOf, GivesOwed}
use Rattle.srcp_core.proofs.CourseLaws.LinesHaveBytes.{exhausts_by, fitting_first, fitting_full, none_after, owed_full}
use Rattle.srcp_core.proofs.CourseLaws.Histories.{rows_after}
use Rattle.srcp_core.proofs.CourseLaws.ShownRegistry.{shown_after, length_history}
use Rattle.srcp_core.proofs.CourseLaws.RoomGivesWhatIsOwed.{text_items, fitting_prefix, exhausted, done_owes}
use Rattle.srcp_core.proofs.CourseLaws.SessionsOfACourse.{stands, at_number, anything, opening_in_order, open_shut, fits_open, untold_open}
use Rattle.srcp_core.proofs.CourseLaws.ItemsFitHistory.{Fits, gives, owed_by}
use Rattle.srcp_core.proofs.Agreement.NumbersAndKeys.{numbered_with}
use Rattle.srcp_core.proofs.CourseLaws.SessionsAreKept.{sound, owed_open, in_order_after}
use Rattle.srcp_core.proofs.CourseLaws.SessionsOfACourse.{owed_is}

pub sends_replies : (buses : List Bus) → IsLayout buses → (events : List Event) (number : ℕ) (conn : Connection)
    → numbered number (course buses events).connections ≡ Some conn
    → conn.info ≡ false → (conn.items ≡ []) × IsPrefixOf (sent conn) conn.out
sends_replies buses layout events number conn e plain =
    let s =
    at_number _ number (course buses events).connections conn
    (sound buses (opening_in_order buses layout) _ (anything (shown_rows (opening buses 0))) events) e in
    let p = s.plain plain in (p.0, (unsent conn, cc (take-append-drop _ _, p.0, append-nil conn.out)))

-- what is owed after room
record OwesRest (history : History) (go : ℕ) (items : List Item) (done : Option ℕ) (bytes : ℕ) (left : List ℕ) (nexts : List Next)
    (rows : List Shown) : Type 0 where
  rest : List Next
  whole : nexts ≡ fitting bytes left nexts ++ rest
  owes : owed_by go (items ++ items_of (length history) (fitting bytes left nexts))
      (if exhausts bytes left nexts then option_or done (Some (length history)) else done) history rows
      ≡ rest
  fully : exhausts bytes left nexts ≡ true → rest ≡ []

owes_rest : (first : List Shown) (history : History) (go : ℕ) (items : List Item) (done : Option ℕ) (bytes : ℕ) (left : List ℕ)
    (nexts : List Next)
    → IsRisingBy key_at (rows_after first history) → Fits first history go items done
    → owed_by go items done history (rows_after first history) ≡ nexts
    → OwesRest history go items done bytes left nexts (rows_after first history)
owes_rest first history go items done bytes left nexts order f e = by _ refl
  where
    by : (t : Bool) → exhausts bytes left nexts ≡ t → OwesRest history go items done bytes left nexts (rows_after first history)
    by true t =
        let all : fitting bytes left nexts ≡ nexts = exhausted bytes left nexts t in
        let g = gives first _ (anything first) history go items done nexts [] order f tt (e ∙ sym (append-nil nexts)) in
        record {
          rest = [];
          whole = cc (append-nil _);
          owes = cc (done_owes first history go (items ++ items_of (length history) nexts) done g.owes);
          fully = λ _. refl;
        }
    by false t =
        let prefix = fitting_prefix bytes left nexts in
        let g = gives first _ (anything first) history go items done (fitting bytes left nexts) prefix.rest order f tt (e ∙ prefix.whole) in
        record {
          rest = prefix.rest;
          whole = prefix.whole;
          owes = cc g.owes;
          fully = λ no_more. let bad : true ≡ false = cc in cc;
        }

-- where room was given for all there was, nothing is unsent
none_left : (bytes n taken : ℕ) (out : List ℕ) (items : List Item) (nexts : List Next)
    → length (available (drop taken (out ++ text items)) nexts) ≤ bytes
    → drop (taken + min bytes (length (available (drop taken (out ++ text items)) nexts))) (out ++ text (items ++ items_of n nexts)) ≡ []
none_left bytes n taken out items nexts h =
    let l : length (available (drop taken (out ++ text items)) nexts)
    ≡ length (drop taken (out ++ text items)) + length (flat_map line_of nexts) = length-append _ _ in
    let d : length (drop taken (out ++ text items)) ≡ length (out ++ text items) - taken = length-drop taken _ in
    let whole : out ++ text (items ++ items_of n nexts) ≡ (out ++ text items) ++ flat_map line_of nexts =
    cc (text_items n items nexts, append_assoc out _ _) in
    let size : length (out ++ text (items ++ items_of n nexts)) ≡ length (out ++ text items) + length (flat_map line_of nexts) =
    cc (length-append _ _) in
    let most : length (out ++ text (items ++ items_of n nexts))
    ≤ taken + min bytes (length (available (drop taken (out ++ text items)) nexts)) = omega arith in
    drop_all _ _ most

-- the connection after its room
pub after_room : (buses : List Bus) (w : World) (number bytes : ℕ) (conn later : Connection) → numbered number w.connections ≡ Some conn
    → conn.shut ≡ None → overran conn (history buses w) ≡ false
    → numbered number (happens buses w (Room number bytes)).connections ≡ Some later
    → later ≡ took bytes (length (history buses w)) (owed conn (history buses w) (rows buses w)) conn
after_room buses w number bytes conn later e shut over l =
    let up : open_connection w number ≡ Some conn = cc in
    let world : happens buses w (Room number bytes) ≡ accepted buses (Room number bytes) (counted w) = cc in
    let at : numbered number (happens buses w (Room number bytes)).connections
    ≡ Some (given_room bytes (history buses w) (rows buses w) conn) =
    ap (λ (v : World). numbered number v.connections) world
    ∙ numbered_with number _ _
    ∙ ap (option_map (given_room bytes (history buses w) (rows buses w))) e in
    let same : Some later ≡ Some (given_room bytes (history buses w) (rows buses w) conn) = cc in
    let is : later ≡ given_room bytes (history buses w) (rows buses w) conn = cc in
    cc

counted_owed : (changes : List Change) (rows : List Shown) → length (map Told changes ++ map Listed rows) ≡ length changes + length rows
counted_owed changes rows =
    let a = length-append (map Told changes) (map Listed rows) in
    let b = length-map changes Told in
    let c = length-map rows Listed in
    omega arith

four : (a b c d : Bool) → a ≡ true → b ≡ true → c ≡ true → d ≡ true → a && (b && (c && d)) ≡ true
four a b c d p q r s = rw (p, q, r, s) refl

-- what is owed to an open information session, once it was given room
pub record OwesAfter (buses : List Bus) (w : World) (bytes : ℕ) (conn : Connection) : Type 0 where
  pub rest : List Next
  pub whole : owed conn (history buses w) (rows buses w) ≡ fitting bytes (unsent conn) (owed conn (history buses w) (rows buses w)) ++ rest
  pub owes : owed (took bytes (length (history buses w)) (owed conn (history buses w) (rows buses w)) conn) (history buses w) (rows buses w)
      ≡ rest
  pub fully : exhausts bytes (unsent conn) (owed conn (history buses w) (rows buses w)) ≡ true → rest ≡ []

pub owes_after : (buses : List Bus) (layout : IsLayout buses) (w : World) (bytes : ℕ) (conn : Connection) → conn.shut ≡ None
    → conn.info ≡ true → Fits (shown_rows (opening buses 0)) (history buses w) conn.go_step conn.items conn.done
    → OwesAfter buses w bytes conn
owes_after buses layout w bytes conn shut info fits =
    let h = history buses w in
    let first = shown_rows (opening buses 0) in
    let nexts = owed conn h (rows buses w) in
    let r = owes_rest first h conn.go_step conn.items conn.done bytes (unsent conn) nexts
    (in_order_after first h (opening_in_order buses layout)) fits (owed_is buses w conn shut info) in
    record {
      rest = r.rest;
      whole = r.whole;
      owes =
          owed_open first h (rows buses w) (took bytes (length h) nexts conn) shut (shown_after (opening buses 0) w.steps)
          ∙ ap (λ t. if t then owed_by conn.go_step (conn.items ++ items_of (length h) (fitting bytes (unsent conn) nexts))
          (if t && exhausts bytes (unsent conn) nexts then option_or conn.done (Some (length h)) else conn.done) h (rows_after first h)
          else [])
          info
          ∙ r.owes;
      fully = r.fully;
    }

-- an open information session given room for `bytes` bytes
gives_owed : (buses : List Bus) (layout : IsLayout buses) (w : World) (bytes : ℕ) (conn : Connection) → conn.shut ≡ None → conn.info ≡ true
    → Fits (shown_rows (opening buses 0)) (history buses w) conn.go_step conn.items conn.done
    → GivesOwed buses w bytes conn (took bytes (length (history buses w)) (owed conn (history buses w) (rows buses w)) conn)
gives_owed buses layout w bytes conn shut info fits =
    let h = history buses w in
    let nexts = owed conn h (rows buses w) in
    let later = took bytes (length h) nexts conn in
    let r = owes_after buses layout w bytes conn shut info fits in
    let is = owed_is buses w conn shut info in
    let size = length_history (opening buses 0) w.steps in
    record {
      lines = fitting bytes (unsent conn) nexts;
      items = ap (λ n. conn.items ++ items_of n (fitting bytes (unsent conn) nexts)) size;
      owes = cc (r.whole, r.owes);
      count = cc (counted_owed _ _, untold_open h conn shut, shown_after (opening buses 0) w.steps);
      settles = λ few.
          let all : fitting bytes (unsent conn) nexts ≡ nexts =
          fitting_full bytes (unsent conn) nexts (owed_full conn h (rows buses w)) few in
          let o : owed later h (rows buses w) ≡ [] = r.owes ∙ none_after _ _ r.rest r.whole all in
          let u : unsent later ≡ [] =
          ap (λ ns. drop (conn.taken + min bytes (length (available (unsent conn) nexts)))
          (conn.out ++ text (conn.items ++ items_of (length h) ns)))
          all
          ∙ none_left bytes (length h) conn.taken conn.out conn.items nexts few in
          four _ _ _ _ (cc) info (ap is_nil u) (cc);
      next = λ none empty. rw (none, empty) (fitting_first nexts (owed_full conn h (rows buses w)));
      done =
          let ends : Bool = nat_lt (length (available (unsent conn) nexts)) bytes
          || ((bytes == 0) && (is_nil (unsent conn) && is_nil nexts)) in
          ap (λ t. if conn.info && t then option_or conn.done (Some (length h)) else conn.done)
          (exhausts_by bytes (unsent conn) nexts (owed_full conn h (rows buses w)))
          ∙ ap (λ t. if t && ends then option_or conn.done (Some (length h)) else conn.done) info
          ∙ ap (λ n. if ends then option_or conn.done (Some n) else conn.done) size;
    }

pub settles_after_owed : (buses : List Bus) → IsLayout buses → (events : List Event) (number bytes : ℕ) (conn later : Connection)
    → IsSession buses events number conn → is_open conn ≡ true → overran conn (history buses (course buses events)) ≡ false
    → numbered number (course buses (events ++ Room number bytes ∷ [])).connections ≡ Some later
    → GivesOwed buses (course buses events) bytes conn later
settles_after_owed buses layout events number bytes conn later s up over l =
    let w = course buses events in
    let shut = open_shut _ up in
    let fits =
    (fits_open _ _ _ conn shut
    (stands buses layout _ (anything (shown_rows (opening buses 0))) events number conn s)).0 in
    let next : course buses (events ++ Room number bytes ∷ []) ≡ happens buses w (Room number bytes) =
    fold-append _ start events _ in
    let is =
    after_room buses w number bytes conn later s.there shut over (ap (λ (v : World). numbered number v.connections) (sym next) ∙ l) in
    subst (λ c. GivesOwed buses w bytes conn c) (sym is) (gives_owed buses layout w bytes conn shut s.info fits)
