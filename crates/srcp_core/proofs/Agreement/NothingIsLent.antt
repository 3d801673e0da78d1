-- Where nothing is lent of a connection.
use Rattle.srcp_core.proofs.Names.{◌≡◌, ℕ, ◌+◌, ◌-◌, Bool, true, false, List, [], ◌∷◌, ◌++◌, length, refl, ap, sym, ◌∙◌, arith}
use Rattle.srcp_core.proofs.Names.{append-nil, length-append, length-drop, le-leb, lt-leb, fold-append, flat_map, option_map_or, nat_le}
use Rattle.srcp_core.proofs.Names.{not, ◌&&◌, ◌||◌, if◌then◌else◌, Some, None, Bus, IsLayout, Event, Room, OfConnection, lent, Connection}
use Rattle.srcp_core.proofs.Names.{fitting, given, given_room, is_nil, is_open, is_settled, line_of, overran, owed, text, took, unsent}
use Rattle.srcp_core.proofs.Names.{World, accepted, counted, course, history, if_open, numbered, open_connection, rows, start, Held}
use Rattle.srcp_core.proofs.Names.{let_out, unsent_at, and-false, cases_Bool, ⊎_elim}
use Rattle.std.specs.Prelude.{option_map}
use Rattle.srcp_feed.specs.declared.Next.{Next}
use Rattle.srcp_core.proofs.Names.{absent_fault, fault, Bytes, Shut, Piece, giving, false≢true, ◌<◌, ◌≤◌, le-ltb, is_none, Option, subst}
use Rattle.std.specs.Prelude.{IsSome}
use Rattle.srcp_core.specs.Agrees.{lends_none}
use Rattle.srcp_core.specs.Course.{bytes_fault as course_fault, fault_of}
use Rattle.srcp_core.specs.Lends.{AcceptsAndLends, IsOpenAfter}
use Rattle.srcp_core.specs.Laws.{without_events}
use Rattle.srcp_core.proofs.Agreement.AnswersAgree.{lends_agrees}
use Rattle.srcp_core.proofs.CourseLaws.RoomInTwoParts.{left_after}
use Rattle.srcp_core.proofs.CourseLaws.RoomsAddUp.{rooms_add_up, rooms_are_one, takes_within, shut_after}
use Rattle.srcp_core.proofs.CourseLaws.LinesHaveBytes.{first_nil, owed_full}
use Rattle.srcp_core.proofs.Agreement.NumbersAndKeys.{numbered_with}
use Rattle.srcp_core.proofs.CourseLaws.RoomSettles.{sends_replies}
use Rattle.srcp_core.proofs.Agreement.StandsAfterAChange.{found_at}

-- what a connection lends: its unsent bytes, or none if it overran
abbrev lent_of : List Bus → World → Connection → List ℕ
lent_of buses w conn = if overran conn (history buses w) then [] else unsent conn

-- nothing is lent of a connection
abbrev lends_none_of : List Bus → World → Connection → Bool
lends_none_of buses w conn =
    overran conn (history buses w)
    || (nat_le (length conn.out) conn.taken && (not conn.info || is_settled conn (history buses w) (rows buses w)))

-- where no item was given, replies are left exactly where bytes are
replies_left : (conn : Connection) (byte : ℕ) (bytes : List ℕ) → conn.items ≡ [] → unsent conn ≡ byte ∷ bytes
    → nat_le (length conn.out) conn.taken ≡ false
replies_left conn byte bytes items u =
    let all : given conn ≡ conn.out = cc (append-nil conn.out) in
    let size : length (given conn) ≡ length conn.out = cc in
    let left : length (unsent conn) ≡ length (given conn) - conn.taken = length-drop _ _ in
    let some : length (unsent conn) ≡ length (byte ∷ bytes) = cc in
    lt-leb _ _ (omega (arith, size, left, some))

replies_taken : (conn : Connection) → unsent conn ≡ [] → nat_le (length conn.out) conn.taken ≡ true
replies_taken conn u =
    let left : length (unsent conn) ≡ length (given conn) - conn.taken = length-drop _ _ in
    let none : length (unsent conn) ≡ 0 = cc in
    let size : length (given conn) ≡ length conn.out + length (text conn.items) = length-append conn.out _ in
    le-leb _ _ (omega (arith, left, none, size))

module _ (buses : List Bus) (w : World) (conn : Connection) (up : is_open conn ≡ true) where
  abbrev nexts : List Next
  nexts = owed conn (history buses w) (rows buses w)

  abbrev settled : Bool
  settled = is_settled conn (history buses w) (rows buses w)

  abbrev Rests : Type 0
  Rests =
      is_nil (unsent conn ++ flat_map line_of (fitting 0 (unsent conn) nexts))
      ≡ (nat_le (length conn.out) conn.taken && (not conn.info || settled))

  some_left : (conn.info ≡ false → conn.items ≡ []) → (byte : ℕ) (bytes : List ℕ) → unsent conn ≡ byte ∷ bytes → Rests
  some_left plain byte bytes u =
      cc (by _ refl)
    where
      by : (info : Bool) → conn.info ≡ info → false ≡ (nat_le (length conn.out) conn.taken && (not conn.info || settled))
      by true i =
          sym (and-false (nat_le (length conn.out) conn.taken))
          ∙ ap (λ t. nat_le (length conn.out) conn.taken && (false || t))
          (sym
          (ap (λ left. is_open conn && (conn.info && (is_nil left && is_nil nexts))) u ∙ ap (λ t. t && (conn.info && false)) up
          ∙ ap (λ t. t && false) i))
          ∙ ap (λ t. nat_le (length conn.out) conn.taken && (not t || settled)) (sym i)
      by false i = cc (replies_left conn byte bytes (plain i) u)

  none_left : unsent conn ≡ [] → Rests
  none_left u =
      let rest : is_nil nexts ≡ (not conn.info || settled) = ⊎_elim (λ i. cc) (λ i. cc) (cases_Bool conn.info) in
      cc (first_nil nexts (owed_full conn (history buses w) (rows buses w)), rest, replies_taken conn u)

  rests : (conn.info ≡ false → conn.items ≡ []) → Rests
  rests plain = by _ refl
    where
      by : (left : List ℕ) → unsent conn ≡ left → Rests
      by [] u = none_left u
      by (byte ∷ bytes) u = some_left plain byte bytes u

module _ (buses : List Bus) (layout : IsLayout buses) (events : List Event) (n : ℕ) (conn : Connection)
    (there : numbered n (course buses events).connections ≡ Some conn) (up : is_open conn ≡ true) where
  abbrev w : World
  w = course buses events

  abbrev pub room : Connection → Connection
  room = given_room 0 (history buses w) (rows buses w)

  stays_open : is_open (room conn) ≡ true
  stays_open = cc (shut_after 0 (history buses w) (rows buses w) conn)

  pub opened : open_connection w n ≡ Some conn
  opened = cc

  -- after a room for no bytes
  next_is : course buses (events ++ Room n 0 ∷ []) ≡ accepted buses (Room n 0) (counted w)
  next_is = cc (fold-append _ start events _)

  pub found : numbered n (course buses (events ++ Room n 0 ∷ [])).connections ≡ Some (room conn)
  found = ap (λ (v : World). numbered n v.connections) next_is ∙ numbered_with n room _ ∙ ap (option_map room) there

  pub lent_is : lent buses (course buses (events ++ Room n 0 ∷ [])) n ≡ lent_of buses w (room conn)
  lent_is =
      ap (λ (v : World). lent buses v n) next_is
      ∙ ap (λ o. option_map_or (lent_of buses w) (if_open o) []) (numbered_with n room _ ∙ ap (option_map room) there)
      ∙ ap (λ t. option_map_or (lent_of buses w) (if t then Some (room conn) else None) []) stays_open

  nothing : is_nil (lent_of buses w (room conn)) ≡ lends_none_of buses w conn
  nothing = by (overran conn (history buses w)) refl
    where
      adds : overran (room conn) (history buses w) ≡ overran conn (history buses w)
      adds = (rooms_add_up buses layout events n conn there up).overruns 0

      by : (t : Bool) → overran conn (history buses w) ≡ t → is_nil (lent_of buses w (room conn)) ≡ lends_none_of buses w conn
      by true e =
          ap (λ t. is_nil (if t then [] else unsent (room conn))) (adds ∙ e)
          ∙ ap (λ t. t || (nat_le (length conn.out) conn.taken && (not conn.info || is_settled conn (history buses w) (rows buses w))))
          (sym e)
      by false e =
          ap (λ t. is_nil (if t then [] else unsent (room conn))) (adds ∙ e)
          ∙ ap (λ t.
          is_nil (unsent (if t then conn else took 0 (length (history buses w)) (owed conn (history buses w) (rows buses w)) conn)))
          e
          ∙ ap is_nil
          (left_after (length (history buses w)) (owed conn (history buses w) (rows buses w)) conn
          (takes_within buses layout events n conn there))
          ∙ rests buses w conn up (λ plain. (sends_replies buses layout events n conn there plain).0)
          ∙ ap (λ t. t || (nat_le (length conn.out) conn.taken && (not conn.info || is_settled conn (history buses w) (rows buses w))))
          (sym e)

  pub lends_none_is : is_nil (lent buses (course buses (events ++ Room n 0 ∷ [])) n) ≡ lends_none buses w n
  lends_none_is = ap is_nil lent_is ∙ nothing ∙ ap (λ o. option_map_or (lends_none_of buses w) o true) (sym opened)

-- what is lent is empty exactly where the course says so
pub none_agrees : (key : ℕ) (held : Held)
    → OfConnection key held (λ buses events n. is_nil (unsent_at key (let_out key held)) ≡ lends_none buses (course buses events) n)
none_agrees key held buses events keys n layout named s =
    let its = found_at buses (λ n fed. fed) keys held (course buses events) n key s named in
    cc (lends_agrees key held buses events keys n layout named s, lends_none_is buses layout events n its.conn its.there its.up)

-- ---- what an open connection accepts and lends

module _ (buses : List Bus) (events : List Event) (n : ℕ) where
  abbrev after : World
  after = course buses events

  -- a connection that accepts no bytes as a piece accepts any of at most 256
  pub takes_piece : (piece : Piece) → is_none (fault buses after (Bytes n (giving []))) ≡ true → length piece.bytes ≤ 256
      → fault buses after (Bytes n piece) ≡ None
  takes_piece piece e few = by (open_connection after n) e
    where
      of : (over : Bool) (left : List ℕ) → is_none (fault_of over left []) ≡ true → fault_of over left piece.bytes ≡ None
      of true left e = cc
      of false (_ ∷ _) e = cc
      of false [] e = cc (le-ltb 256 _ few)

      by : (o : Option Connection) → is_none (course_fault buses after o []) ≡ true
          → course_fault buses after o piece.bytes ≡ None
      by None e = cc
      by (Some conn) e = of _ (unsent conn) e

  shuts_open : IsOpenAfter buses events n → fault buses after (Shut n) ≡ None
  shuts_open some = by (open_connection after n) some
    where
      by : (o : Option Connection) → IsSome o → absent_fault buses o ≡ None
      by None h = absurd (false≢true h)
      by (Some conn) h = refl

  -- what is said of the connection of that number follows, if it is open
  of_open : (P : Type 0) → IsOpenAfter buses events n
      → ((conn : Connection) → numbered n after.connections ≡ Some conn → is_open conn ≡ true → P) → P
  of_open P some law = by (numbered n after.connections) refl some
    where
      up : (conn : Connection) (t : Bool) → is_open conn ≡ t → IsSome (if t then Some conn else None) → is_open conn ≡ true
      up conn true e h = e
      up conn false e h = absurd (false≢true h)

      by : (o : Option Connection) → numbered n after.connections ≡ o → IsSome (if_open o) → P
      by None e h = absurd (false≢true h)
      by (Some conn) e h = law conn e (up conn (is_open conn) refl h)

pub accepts_and_lends : (buses : List Bus) → AcceptsAndLends buses
accepts_and_lends buses = record {
  takes = takes_piece buses;
  shuts = shuts_open buses;
  lends_none = λ layout events n some. of_open buses events n _ some (lends_none_is buses layout events n);
  lent_and_sent = λ layout events n count some more.
      let whole : 0 + count ≡ count = omega arith in
      of_open buses events n _ some (λ conn there up.
      subst (λ (k : ℕ). without_events (course buses (events ++ Room n 0 ∷ Room n count ∷ []))
      ≡ without_events (course buses (events ++ Room n k ∷ []))) whole
      (rooms_are_one buses layout events n 0 count conn there up more));
}
