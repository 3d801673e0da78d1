-- What the events but room leave of a connection, and what events of others leave of it.
use Rattle.srcp_serve.proofs.Names.{◌≡◌, ◌∙◌, ℕ, ◌≤◌, Bool, true, false, List, [], ◌∷◌, ◌++◌, map, length, Some, None, refl, ap}
use Rattle.srcp_serve.proofs.Names.{sym, arith, append-nil, length-append, ◌==◌, fold, AllByRecursion, take-append-le}
use Rattle.srcp_serve.proofs.Names.{Piece, Open, Bytes, At, Shut, Event, Room, Bus, Connection, given, sent, given_room, World}
use Rattle.srcp_serve.proofs.Names.{fresh, numbered, with_numbered, open_connection, at_connection, counted, entered, fault, or_refused}
use Rattle.srcp_serve.proofs.Names.{happens, rows, history, all_numbered, eqb-false, IsAnswered, kept_fed, kept_shut, numbered_after}
use Rattle.srcp_serve.proofs.Names.{IsPlain}
use Rattle.srcp_info.specs.Line.{reply_line}
use Rattle.srcp_core.proofs.Agreement.NumbersAndKeys.{map_with}
use Rattle.srcp_core.proofs.CourseLaws.NothingAfterTheEnd.{numbered_other, numbered_push}
use Rattle.srcp_core.proofs.CourseLaws.SessionsOfACourse.{at_number}

-- it was given no line unless it is an information session, which no command of its own ends, and no more was taken of it
-- than it was given
pub record IsSteady (conn : Connection) : Type 0 where
  pub plain : conn.info ≡ false → conn.items ≡ []
  pub goes_on : conn.info ≡ true → conn.ended ≡ false
  pub within : conn.taken ≤ length (given conn)

-- these bytes were sent of each
pub record IsSending (texts : List (List ℕ)) (conns : List Connection) : Type 0 where
  pub steady : AllByRecursion IsSteady conns
  pub sends : map sent conns ≡ texts

-- it may have been given more replies
pub record IsGrown (c d : Connection) : Type 0 where
  pub items : d.items ≡ c.items
  pub ended : d.ended ≡ c.ended
  pub taken : d.taken ≡ c.taken
  pub more : List ℕ
  pub out : d.out ≡ c.out ++ more

sending_with : (n : ℕ) (f : Connection → Connection) (texts : List (List ℕ)) (conns : List Connection)
    → ((conn : Connection) → numbered n conns ≡ Some conn → IsSteady conn → IsSteady (f conn) × (sent (f conn) ≡ sent conn))
    → IsSending texts conns → IsSending texts (with_numbered n f conns)
sending_with n f texts conns h a = record {
  steady = all_numbered _ n f conns (λ conn e s. (h conn e s).0) a.steady;
  sends = map_with sent n f conns (λ conn e. (h conn e (at_number IsSteady n conns conn a.steady e)).1) ∙ a.sends;
}

grown_sent : (c d : Connection) → IsGrown c d → c.items ≡ [] → c.ended ≡ false → IsSteady c → IsSteady d × (sent d ≡ sent c)
grown_sent c d g i e s =
    let none = g.items ∙ i in
    let before : given c ≡ c.out = simp (i, append-nil) in
    let now : given d ≡ c.out ++ g.more = cc (append-nil d.out) in
    let low = rw before at s.within in
    let size = length-append c.out g.more in
    let whole = ap length now in
    let taken = g.taken in
    let fits : d.taken ≤ length (given d) = omega (arith, low, size, whole, taken) in (
      record { plain = λ h. none; goes_on = λ h. g.ended ∙ e; within = fits },
      cc (take-append-le c.taken c.out g.more low),
    )

-- what an event makes of the connections keeps a law, if it is refused or not
pub event_keeps : (buses : List Bus) (P : List Connection → Type 0) (event : Event) (w : World)
    → P (or_refused buses None event (counted w)).connections → P w.connections → P (happens buses w event).connections
event_keeps buses P event w now was = elim (fault buses (counted w) event) as (λ o. P (or_refused buses o event (counted w)).connections)
    [ None ↦ now | Some cause ↦ was ]

-- ---- what comes of the bytes of a connection and of its end

module _ (buses : List Bus) (n : ℕ) (texts : List (List ℕ)) where
  abbrev Sends : World → Type 0
  Sends w = IsSending texts w.connections

  -- the connection was given no line and did not end
  abbrev IsQuiet : World → Type 0
  IsQuiet w = (conn : Connection) → numbered n w.connections ≡ Some conn → (conn.items ≡ []) × (conn.ended ≡ false)

  sending_grown : (f : Connection → Connection) (w : World) → ((conn : Connection) → IsGrown conn (f conn)) → IsQuiet w → Sends w
      → Sends (at_connection n f w)
  sending_grown f w grows quiet =
      sending_with n f texts w.connections (λ conn e. grown_sent conn (f conn) (grows conn) (quiet conn e).0 (quiet conn e).1)

  plain_quiet : (w : World) → IsPlain n w → Sends w → IsQuiet w
  plain_quiet w plain a conn e = ((at_number IsSteady n w.connections conn a.steady e).plain (plain conn e).0, (plain conn e).2)

  sending_answered : IsAnswered buses n Sends
  sending_answered = record {
    step = λ step w a. a;
    numbers = λ id w a. a;
    says = λ mode ends w plain a. sending_with n _ texts w.connections (λ conn e s. (
      record { plain = s.plain; goes_on = λ info. let no = (plain conn e).0 in cc; within = s.within },
      refl,
    )) a;
    answers = λ reply w plain a. sending_grown _ w
        (λ conn. record { items = refl; ended = refl; taken = refl; more = reply_line w.moment reply; out = refl })
        (plain_quiet w plain a) a;
    enters = λ id reply w plain a.
        let quiet = plain_quiet w plain a in
        sending_grown _ (entered buses n id w)
        (λ conn. record { items = refl; ended = refl; taken = refl; more = reply_line w.moment reply; out = refl })
        (λ conn e. numbered_after (λ c. (c.items ≡ []) × (c.ended ≡ false)) n n _ w.connections conn e quiet (λ other here p. p))
        (sending_grown _ w (λ conn. record { items = refl; ended = refl; taken = refl; more = []; out = sym (append-nil conn.out) })
        quiet a);
  }

  pub sending_bytes : (piece : Piece) (w : World) → Sends w → Sends (happens buses w (Bytes n piece))
  sending_bytes piece w a = event_keeps buses (IsSending texts) (Bytes n piece) w
      (kept_fed buses n Sends sending_answered piece (open_connection (counted w) n) (counted w) a (sending_with n _ texts w.connections
      (λ c e s. (record { plain = s.plain; goes_on = s.goes_on; within = s.within }, refl)) a)) a

  pub sending_shut : (w : World) → Sends w → Sends (happens buses w (Shut n))
  sending_shut w a = event_keeps buses (IsSending texts) (Shut n) w
      (kept_shut buses n Sends sending_answered (open_connection (counted w) n) (counted w) a
      (λ conn e. sending_with n _ texts w.connections
      (λ c e s. (record { plain = s.plain; goes_on = s.goes_on; within = s.within }, refl)) a)) a

-- ---- what happens to others leaves a connection as it is

-- the event is of that connection
abbrev pub is_of : ℕ → Event → Bool
is_of n (Bytes m piece) = m == n
is_of n (Room m bytes) = m == n
is_of n (Shut m) = m == n
is_of n other = false

-- none of them is
abbrev pub AreOfOthers : ℕ → List Event → Type 0
AreOfOthers n events = AllByRecursion (λ event. is_of n event ≡ false) events

module _ (buses : List Bus) (n : ℕ) (conn : Connection) where
  abbrev Stays : World → Type 0
  Stays w = numbered n w.connections ≡ Some conn

  module _ (m : ℕ) (apart : (m == n) ≡ false) where
    stays_with : (f : Connection → Connection) (conns : List Connection) → numbered n conns ≡ Some conn
        → numbered n (with_numbered m f conns) ≡ Some conn
    stays_with f conns s = numbered_other n m f conns (eqb-false m n apart) ∙ s

    stays_answered : IsAnswered buses m Stays
    stays_answered = record {
      step = λ step w s. s;
      numbers = λ id w s. s;
      says = λ mode ends w plain s. stays_with _ w.connections s;
      answers = λ reply w plain s. stays_with _ w.connections s;
      enters = λ id reply w plain s. stays_with _ _ (stays_with _ w.connections s);
    }

  stays_happens : (event : Event) (w : World) → is_of n event ≡ false → Stays w → Stays (happens buses w event)
  stays_happens (Open granted) w e s =
      event_keeps buses (λ conns. numbered n conns ≡ Some conn) (Open granted) w (numbered_push n w.connections fresh conn s) s
  stays_happens (Bytes m piece) w e s = event_keeps buses (λ conns. numbered n conns ≡ Some conn) (Bytes m piece) w
      (kept_fed buses m Stays (stays_answered m e) piece (open_connection (counted w) m) (counted w) s (stays_with m e _ w.connections s)) s
  stays_happens (Room m bytes) w e s = event_keeps buses (λ conns. numbered n conns ≡ Some conn) (Room m bytes) w
      (stays_with m e (given_room bytes (history buses w) (rows buses w)) w.connections s) s
  stays_happens (At moment) w e s = s
  stays_happens (Shut m) w e s = event_keeps buses (λ conns. numbered n conns ≡ Some conn) (Shut m) w (kept_shut buses m Stays
      (stays_answered m e) (open_connection (counted w) m) (counted w) s (λ other here. stays_with m e _ w.connections s)) s

  pub stays_all : (events : List Event) (w : World) → AreOfOthers n events → Stays w → Stays (fold (happens buses) w events)
  stays_all [] w e s = s
  stays_all (event ∷ events) w e s = stays_all events (happens buses w event) e.1 (stays_happens event w e.0 s)
