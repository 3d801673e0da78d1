-- The core counts the refusals of memory that the course asks for.
use Rattle.srcp_core.proofs.Names.{◌≡◌, ℕ, Bool, true, List, [], ◌∷◌, ◌++◌, refl, ◌∙◌, fold, Option, Some, None, ◌||◌, not, Mark, Bus}
use Rattle.srcp_core.proofs.Names.{Connection, World, open_connection, counted, fault, happens, new_marks, at_connection, denied_lines}
use Rattle.srcp_core.proofs.Names.{denied_fed, denied_in, denied_over, Place, Held, at, request_of, key_of, StandsBy, Event, Heard}
use Rattle.srcp_core.proofs.Names.{lines_under, under, denied_by, CoreFault, Act, Says, Sets, Begins, Obeys, Ends, asked, wants, state}
use Rattle.srcp_core.specs.Course.{answered as course_answered}
use Rattle.srcp_core.specs.Machine.{act, answered}
use Rattle.srcp_core.specs.declared.event.Event.{Event as PlainEvent}
use Rattle.srcp_core.proofs.Agreement.LinesAgree.{asks_of}
use Rattle.srcp_core.specs.declared.event.Event.TheVariants as plain

-- the count after a line that wants memory or not
abbrev pub after : ℕ → Bool → Bool → ℕ
after denied granted wants = denied_by denied ((granted || not wants) ∷ [])

-- a line wants memory
abbrev pub wanted : List Bus → ℕ → World → Mark → Bool
wanted buses n w mark = wants (state buses w) w.last_id w.moment (asked buses (open_connection w n) mark)

-- ---- the answer to a line

-- no act is refused
denied_acts : (key : ℕ) (all : List Act) (held : Held) → (fold (act key) held all).denied ≡ held.denied
denied_acts key [] held = refl
denied_acts key (does ∷ more) held = denied_acts key more (act key held does) ∙ one does
  where
    one : (does : Act) → (act key held does).denied ≡ held.denied
    one (Says reply) = refl
    one (Sets mode) = refl
    one (Begins id mode) = refl
    one (Obeys session order) = refl
    one (Ends session) = refl

-- a line is refused memory in the core where it is in the course
pub denied_answered : (buses : List Bus) (read : ℕ → List ℕ → List ℕ) (keys : List (Option ℕ)) (n key : ℕ)
    (named : key_of n keys ≡ Some key) (held : Held) (w : World) (granted : Bool) (mark : Mark) (p : Place)
    → StandsBy buses read keys held w → at held key ≡ Some p
    → (answered granted key (request_of held.buses p mark) held).denied
    ≡ after held.denied granted (wanted buses n w mark)
denied_answered buses read keys n key named held w granted mark p s here =
    let h = asks_of buses read keys held w n key mark p s named here in
    cc (denied_acts key _ _, h.asks, s.last_id, s.moment, s.rows, h.opened)

-- ---- lines and events, one after another

-- after one more line
pub denied_push : (buses : List Bus) (n : ℕ) (w : World) (denied : ℕ) (lines : List Heard) (line : Heard)
    → denied_lines buses n w denied (lines ++ line ∷ [])
    ≡ after (denied_lines buses n w denied lines) line.granted (wanted buses n (fold (course_answered buses n) w lines) line.mark)
denied_push buses n w denied [] line = refl
denied_push buses n w denied (other ∷ lines) line =
    denied_push buses n (course_answered buses n w other)
    (after denied other.granted (wanted buses n w other.mark)) lines line

-- after one more event
pub denied_over_push : (buses : List Bus) (denied : ℕ) (w : World) (events : List Event) (event : Event)
    → denied_over buses denied w (events ++ event ∷ [])
    ≡ denied_in buses (denied_over buses denied w events) (counted (fold (happens buses) w events)) event
denied_over_push buses denied w [] event = refl
denied_over_push buses denied w (other ∷ events) event =
    denied_over_push buses (denied_in buses denied (counted w) other) (happens buses w other) events event

-- ---- where memory gives

pub denied_none : (buses : List Bus) (n : ℕ) (w : World) (denied : ℕ) (marks : List Mark)
    → denied_lines buses n w denied (lines_under [] marks) ≡ denied
denied_none buses n w denied [] = refl
denied_none buses n w denied (mark ∷ marks) =
    denied_none buses n (course_answered buses n w (record { mark = mark; granted = true })) denied marks

fed_none : (buses : List Bus) (n : ℕ) (bytes : List ℕ) (w : World) (denied : ℕ) (cause : Option CoreFault) (conn : Option Connection)
    → denied_fed buses n (record { bytes = bytes; grants = [] }) w denied cause conn ≡ denied
fed_none buses n bytes w denied (Some cause) conn = refl
fed_none buses n bytes w denied None None = refl
fed_none buses n bytes w denied None (Some conn) =
    denied_none buses n (at_connection n (λ c. record c { fed = c.fed ++ bytes }) w) denied (new_marks buses conn.fed bytes)

-- nothing is refused in an event where memory gives
pub denied_in_none : (buses : List Bus) (w : World) (denied : ℕ) (event : PlainEvent) → denied_in buses denied w (under [] event) ≡ denied
denied_in_none buses w denied plain.Open = refl
denied_in_none buses w denied (plain.Bytes n piece) =
    fed_none buses n piece w denied (fault buses w (under [] (plain.Bytes n piece))) (open_connection w n)
denied_in_none buses w denied (plain.Room n bytes) = refl
denied_in_none buses w denied (plain.At moment) = refl
denied_in_none buses w denied (plain.Shut n) = refl
