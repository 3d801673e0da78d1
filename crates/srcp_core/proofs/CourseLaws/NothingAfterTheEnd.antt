-- Of a connection that overran or was shut nothing changes any more but that it may be shut.
use Rattle.srcp_core.proofs.Names.{◌≡◌, ℕ, ◌+◌, ◌<◌, max, Bool, true, List, [], ◌∷◌, ◌++◌, length, drop, refl, ap, sym, ◌∙◌, subst}
use Rattle.srcp_core.proofs.Names.{arith, length-append, length-drop, flat_map-append, fold-append, lt-ltb, ltb-true, filter}
use Rattle.srcp_core.proofs.Names.{filter_map, fold, nat_le, nat_lt, ◌||◌, Option, Some, None, is_none, if◌then◌else◌, Change, Bus}
use Rattle.srcp_core.proofs.Names.{concerns, Event, Open, Bytes, Room, At, Shut, Step, Moment, Ended, Piece, Connection, History, heard}
use Rattle.srcp_core.proofs.Names.{told_change, cursor_at, overran, given_room, World, fresh, start, numbered, at_connection}
use Rattle.srcp_core.proofs.Names.{open_connection, did, counted, rows, history, entered, fault, absent_fault, shut_as, accepted}
use Rattle.srcp_core.proofs.Names.{or_refused, happens, course, CoreFault, NoSuch, Closing, cond_both, is_open, sent, or-true}
use Rattle.std.proofs.Common.{not}
use Rattle.srcp_core.specs.Connection.{concerning}
use Rattle.srcp_core.specs.Course.{bytes_fault}
use Rattle.srcp_core.proofs.CourseLaws.Histories.{enumerate_push}
use Rattle.srcp_core.proofs.CourseLaws.ShownRegistry.{history_push}
pub use Rattle.srcp_core.proofs.Agreement.NumbersAndKeys.{numbered_other, numbered_push}
use Rattle.srcp_core.proofs.Agreement.NumbersAndKeys.{numbered_with}
use Rattle.srcp_core.proofs.CourseLaws.EventsKeep.{IsAnswered, kept_fed, kept_shut}
use Rattle.srcp_core.proofs.Invariants.PlacesCover.{where_is, Here, Away}

-- it overran, or it was shut
abbrev pub is_over : Connection → History → Bool
is_over conn history = not (is_open conn) || overran conn history

-- ---- an overrun stays

-- the changes that concern a connection only grow
pub concerning_grows : (conn : Connection) (history : History) (changes : List Change)
    → (more : List Change) × (concerning conn (history ++ changes ∷ []) ≡ concerning conn history ++ more)
concerning_grows conn history changes = (
  part_of (0 + length history, changes) ++ [],
  cc (enumerate_push 0 history changes, flat_map-append part_of _ ((0 + length history, changes) ∷ [])),
)
  where
    part_of : ℕ × List Change → List Change
    part_of step = if nat_le conn.go_step step.0 then filter (concerns (cursor_at conn step.0)) step.1 else []

-- whether it is over, by when it was shut
abbrev over_by : Option ℕ → Connection → History → Bool
over_by shut conn history =
    not (is_none shut)
    || nat_lt 256
    (length (drop (length (filter_map (λ item. told_change item.what) conn.items)) (concerning conn (heard shut history))))

over_by_push : (shut : Option ℕ) (conn : Connection) (history : History) (changes : List Change) → over_by shut conn history ≡ true
    → over_by shut conn (history ++ changes ∷ []) ≡ true
over_by_push (Some n) conn history changes e = refl
over_by_push None conn history changes e =
    let g = concerning_grows conn history changes in
    cc (g.1, longer (length (filter_map (λ item. told_change item.what) conn.items)) (concerning conn history) g.0 e)
  where
    longer : (n : ℕ) (xs ys : List Change) → nat_lt 256 (length (drop n xs)) ≡ true → nat_lt 256 (length (drop n (xs ++ ys))) ≡ true
    longer n xs ys t =
        let a = length-drop n xs in
        let b = length-drop n (xs ++ ys) in
        let c = length-append xs ys in
        let h : 256 < length (drop n xs) = ltb-true 256 (length (drop n xs)) t in
        let l : 256 < length (drop n (xs ++ ys)) = omega arith in
        lt-ltb 256 (length (drop n (xs ++ ys))) l

-- ---- what happens to another connection

module _ (buses : List Bus) (n : ℕ) (y : Connection) where
  -- the connection is over as it is
  abbrev Lies : World → Type 0
  Lies v = (numbered n v.connections ≡ Some y) × (is_over y (history buses v) ≡ true)

  lies_did : (step : Step) (v : World) → Lies v → Lies (did step v)
  lies_did step v l = (l.0, ap (is_over y) (history_push _ v.steps step) ∙ over_by_push _ y _ _ l.1)

  module _ (m : ℕ) (apart : m ≡ n → ⊥) where
    lies_at : (f : Connection → Connection) (v : World) → Lies v → Lies (at_connection m f v)
    lies_at f v l = (numbered_other n m f _ apart ∙ l.0, l.1)

    lies_answered : IsAnswered buses m Lies
    lies_answered = record {
      step = lies_did;
      numbers = λ id v l. l;
      says = λ mode ends v plain l. lies_at _ v l;
      answers = λ reply v plain l. lies_at _ v l;
      enters = λ id reply v plain l. lies_at _ (entered buses m id v) (lies_at _ v l);
    }

-- ---- what happens to the connection itself

-- as much was given to it and taken of it
pub record Stopped (buses : List Bus) (n : ℕ) (x : Connection) (v : World) : Type 0 where
  pub y : Connection
  pub there : numbered n v.connections ≡ Some y
  pub over : is_over y (history buses v) ≡ true
  pub items : y.items ≡ x.items
  pub out : y.out ≡ x.out
  pub taken : y.taken ≡ x.taken

module _ (buses : List Bus) (n : ℕ) (x : Connection) where
  abbrev IsStopped : World → Type 0
  IsStopped v = Stopped buses n x v

  stopped_lies : (v u : World) (s : IsStopped v) → Lies buses n s.y u → IsStopped u
  stopped_lies v u s l = record { y = s.y; there = l.0; over = l.1; items = s.items; out = s.out; taken = s.taken }

  lies : (v : World) (s : IsStopped v) → Lies buses n s.y v
  lies v s = (s.there, s.over)

  -- an event that is refused
  stopped_refused : (event : Event) (v : World) (o : Option CoreFault) (cause : CoreFault) → o ≡ Some cause → IsStopped v
      → IsStopped (or_refused buses o event v)
  stopped_refused event v o cause e s = rw e (stopped_lies v _ s (lies v s))

  -- it is open and overran, or it is closed
  stopped_by : (v : World) (s : IsStopped v) (Q : Option Connection → Type 0)
      → (s.y.shut ≡ None → overran s.y (history buses v) ≡ true → Q (Some s.y)) → Q None → Q (open_connection v n)
  stopped_by v s Q f g = rw s.there (by s.y.shut refl)
    where
      by : (shut : Option ℕ) → s.y.shut ≡ shut → Q (if is_none s.y.shut then Some s.y else None)
      by None e =
          subst (λ h. Q (if is_none h then Some s.y else None)) (sym e)
          (f e (subst (λ h. not (is_none h) || overran s.y (history buses v) ≡ true) e s.over))
      by (Some k) e = rw e g

  stopped_bytes : (piece : Piece) (v : World) → IsStopped v → IsStopped (or_refused buses (fault buses v (Bytes n piece)) (Bytes n piece) v)
  stopped_bytes piece v s = stopped_by v s (λ o. IsStopped (or_refused buses (bytes_fault buses v o piece.bytes) (Bytes n piece) v))
      (λ shut over.
      stopped_refused (Bytes n piece) v (bytes_fault buses v (Some s.y) piece.bytes) Closing (rw (over, or-true s.y.ended) refl) s)
      (stopped_refused (Bytes n piece) v _ NoSuch refl s)

  stopped_room : (bytes : ℕ) (v : World) → IsStopped v → IsStopped (or_refused buses (fault buses v (Room n bytes)) (Room n bytes) v)
  stopped_room bytes v s = stopped_by v s (λ o. IsStopped (or_refused buses (absent_fault buses o) (Room n bytes) v))
      (λ shut over. stopped_lies v _ s (cc (numbered_with n _ v.connections, s.there), s.over))
      (stopped_refused (Room n bytes) v _ NoSuch refl s)

  stopped_closed : (v : World) → IsStopped v → IsStopped (at_connection n (λ c. record c { shut = Some (length v.steps) }) v)
  stopped_closed v s = record {
    y = record s.y { shut = Some (length v.steps) };
    there = cc (numbered_with n (λ c. record c { shut = Some (length v.steps) }) _, s.there);
    over = refl;
    items = s.items;
    out = s.out;
    taken = s.taken;
  }

  stopped_shut_as : (conn : Connection) (v : World) → IsStopped v → IsStopped (shut_as buses n (Some conn) v)
  stopped_shut_as conn v s =
      let closed = stopped_closed v s in
      let shut = at_connection n (λ c. record c { shut = Some (length v.steps) }) v in
      cond_both _ shut (did _ shut) IsStopped (λ t. closed)
      (λ t. stopped_lies shut _ closed (lies_did buses n closed.y (Ended conn.session v.moment) shut (lies shut closed)))

  stopped_shut : (v : World) → IsStopped v → IsStopped (or_refused buses (fault buses v (Shut n)) (Shut n) v)
  stopped_shut v s = stopped_by v s (λ o. IsStopped (or_refused buses (absent_fault buses o) (Shut n) v))
      (λ shut over. let up : open_connection v n ≡ Some s.y = cc s.there in rw up (stopped_shut_as s.y v s))
      (stopped_refused (Shut n) v _ NoSuch refl s)

  -- ---- events

  -- an event that tells of another connection, or of none
  stopped_other : (event : Event) (v : World) (o : Option CoreFault) (s : IsStopped v) → Lies buses n s.y (accepted buses event v)
      → IsStopped (or_refused buses o event v)
  stopped_other event v None s l = stopped_lies v _ s l
  stopped_other event v (Some cause) s l = stopped_lies v _ s (lies v s)

  stopped_event : (event : Event) (v : World) → IsStopped v → IsStopped (or_refused buses (fault buses v event) event v)
  stopped_event (Open granted) v s =
      stopped_other (Open granted) v (fault buses v (Open granted)) s (numbered_push n v.connections fresh s.y s.there, s.over)
  stopped_event (Bytes m piece) v s = elim (where_is m n) [
    | Here e ↦ rw e (stopped_bytes piece v s)
    | Away d ↦
        stopped_other (Bytes m piece) v (fault buses v (Bytes m piece)) s
        (kept_fed buses m (Lies buses n s.y) (lies_answered buses n s.y m d) piece (open_connection v m) v (lies v s)
        (lies_at buses n s.y m d _ v (lies v s)))
  ]
  stopped_event (Room m bytes) v s = elim (where_is m n) [
    | Here e ↦ rw e (stopped_room bytes v s)
    | Away d ↦
        stopped_other (Room m bytes) v (fault buses v (Room m bytes)) s
        (lies_at buses n s.y m d (given_room bytes (history buses v) (rows buses v)) v (lies v s))
  ]
  stopped_event (At moment) v s =
      stopped_other (At moment) v (fault buses v (At moment)) s
      (lies_did buses n s.y (Moment (max v.moment moment)) (record v { moment = max v.moment moment }) (lies v s))
  stopped_event (Shut m) v s = elim (where_is m n) [
    | Here e ↦ rw e (stopped_shut v s)
    | Away d ↦
        stopped_other (Shut m) v (fault buses v (Shut m)) s
        (kept_shut buses m (Lies buses n s.y) (lies_answered buses n s.y m d) (open_connection v m) v (lies v s)
        (λ conn is. lies_at buses n s.y m d _ v (lies v s)))
  ]

  stopped_all : (events : List Event) (v : World) → IsStopped v → IsStopped (fold (happens buses) v events)
  stopped_all [] v s = s
  stopped_all (event ∷ events) v s =
      stopped_all events (happens buses v event) (stopped_event event (counted v) (stopped_lies v (counted v) s (lies v s)))

pub sends_no_more : (buses : List Bus) → (events more : List Event) (number : ℕ) (conn later : Connection)
    → numbered number (course buses events).connections ≡ Some conn
    → numbered number (course buses (events ++ more)).connections ≡ Some later
    → is_over conn (history buses (course buses events)) ≡ true
    → (later.items ≡ conn.items) × (sent later ≡ sent conn) × (is_over later (history buses (course buses (events ++ more))) ≡ true)
sends_no_more buses events more number conn later there after over =
    let w = course buses events in
    let next : course buses (events ++ more) ≡ fold (happens buses) w more = fold-append _ start events more in
    let s =
    stopped_all buses number conn more w (record { y = conn; there = there; over = over; items = refl; out = refl; taken = refl }) in
    let at = s.there in
    let e : numbered number (fold (happens buses) w more).connections ≡ Some later = cc in
    let same : s.y ≡ later = cc in
    (cc s.items, cc (s.out, s.items, s.taken), cc s.over)
