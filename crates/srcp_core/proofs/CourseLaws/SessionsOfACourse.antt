-- What a session's law says of a connection of a course.
use Rattle.srcp_core.proofs.Names.{◌≡◌, ℕ, zero, suc, true, List, [], ◌∷◌, ◌++◌, length, refl, ap, sym, ◌∙◌, subst, append-nil}
use Rattle.srcp_core.proofs.Names.{take-append-drop, flat_map-append, and_parts, flat_map, AllByRecursion, Option, Some, None}
use Rattle.srcp_core.proofs.Names.{is_none, IsRisingBy, line, Shown, Bus, IsLayout, State, opening, shown_rows}
use Rattle.srcp_core.proofs.Names.{IsRising, said, Next, Told, Listed, Settled, key_at, Event, Connection}
use Rattle.srcp_core.proofs.Names.{History, heard, is_nil, line_of, text, tells, sent, unsent, waiting, owed, is_settled, World, numbered}
use Rattle.srcp_core.proofs.Names.{course, rows, history, IsSession, Item, overran, nat_lt}
use Rattle.srcp_core.proofs.CourseLaws.Histories.{rows_after}
use Rattle.srcp_core.proofs.CourseLaws.ShownRegistry.{shown_after, all_shown}
use Rattle.srcp_core.proofs.CourseLaws.RoomGivesWhatIsOwed.{Stands}
use Rattle.srcp_core.proofs.CourseLaws.ItemsFitHistory.{Fits, Law, owed_by, untold_by}
use Rattle.srcp_core.proofs.CourseLaws.SessionsAreKept.{sound, owed_open}
use Rattle.srcp_core.proofs.CourseLaws.StepsKeepWhole.{whole_opening}

-- a law of every information session after every list of events, over any layout
abbrev pub OfSessions : List Bus → (World → Connection → Type 0) → Type 0
OfSessions buses Law =
    IsLayout buses → (events : List Event) (number : ℕ) (conn : Connection) → IsSession buses events number conn
    → Law (course buses events) conn

pub rising_shown : (state : State) → IsRising state → IsRisingBy (λ row. row.key) (shown_rows state)
rising_shown [] r = tt
rising_shown (row ∷ state) r = (all_shown _ state r.0, rising_shown state r.1)

pub opening_in_order : (buses : List Bus) → IsLayout buses → IsRisingBy key_at (shown_rows (opening buses 0))
opening_in_order buses layout = rising_shown _ (whole_opening buses layout).rising

pub at_number : (P : Connection → Type 0) (n : ℕ) (conns : List Connection) (conn : Connection) → AllByRecursion P conns
    → numbered n conns ≡ Some conn → P conn
at_number P zero conns conn a e = cc
at_number P (suc n) [] conn a e = cc
at_number P (suc zero) (other ∷ conns) conn a e = let same : other ≡ conn = cc in subst P same a.0
at_number P (suc (suc n)) (other ∷ conns) conn a e = at_number P (suc n) conns conn a.1 e

-- a law of sessions holds of each connection of a course
pub stands : (buses : List Bus) (layout : IsLayout buses) (P : History → ℕ → List Item → Option ℕ → Type 0)
    → Law (shown_rows (opening buses 0)) P → (events : List Event) (number : ℕ) (conn : Connection) → IsSession buses events number conn
    → Stands (shown_rows (opening buses 0)) P (history buses (course buses events)) conn
stands buses layout P law events number conn s =
    at_number _ number (course buses events).connections conn (sound buses (opening_in_order buses layout) P law events) s.there

-- the law that asks nothing
pub anything : (start : List Shown) → Law start (λ history go items done. Unit {0})
anything start = record {
  fresh = λ _ _ _. tt;
  push = λ _ _ _ _ _ _ _ _. tt;
  tell = λ _ _ _ _ _ _ _ _ _ _. tt;
  list = λ _ _ _ _ _ _ _ _ _ _. tt;
  finish = λ _ _ _ _ _ _ _ _. tt;
}

pub open_shut : (shut : Option ℕ) → is_none shut ≡ true → shut ≡ None
open_shut None e = refl
open_shut (Some n) e = cc

-- the law of a session while it is open
pub fits_open : (start : List Shown) (P : History → ℕ → List Item → Option ℕ → Type 0) (history : History) (conn : Connection)
    → conn.shut ≡ None → Stands start P history conn
    → Fits start history conn.go_step conn.items conn.done × P history conn.go_step conn.items conn.done
fits_open start P history conn e s =
    subst (λ x. Fits start (heard x history) conn.go_step conn.items conn.done × P (heard x history) conn.go_step conn.items conn.done) e
    s.fits

pub untold_open : (history : History) (conn : Connection) → conn.shut ≡ None
    → waiting conn history ≡ untold_by conn.go_step conn.items conn.done history
untold_open history conn e = rw e refl

pub overran_open : (history : History) (conn : Connection) → conn.shut ≡ None
    → overran conn history ≡ nat_lt 256 (length (untold_by conn.go_step conn.items conn.done history))
overran_open history conn shut = cc

-- ---- settled

pub nil_is : {X : Type 0} (xs : List X) → is_nil xs ≡ true → xs ≡ []
nil_is [] e = refl
nil_is (x ∷ xs) e = cc

-- what settled says
pub record SettledFacts (conn : Connection) (history : History) (rows : List Shown) : Type 0 where
  pub open_now : conn.shut ≡ None
  pub none_unsent : unsent conn ≡ []
  pub none_owed : owed conn history rows ≡ []

pub settled_facts : (conn : Connection) (history : History) (rows : List Shown) → is_settled conn history rows ≡ true
    → SettledFacts conn history rows
settled_facts conn history rows e =
    let a = and_parts _ _ e in
    let b = and_parts _ _ a.1 in
    let c = and_parts _ _ b.1 in
    record { open_now = open_shut _ a.0; none_unsent = nil_is _ c.0; none_owed = nil_is _ c.1 }

pub text_tells : (items : List Item) → text items ≡ flat_map line (tells items)
text_tells [] = refl
text_tells (item ∷ items) =
    cc (text_tells items, one _, flat_map-append line _ _)
  where
    one : (what : Next) → line_of what ≡ flat_map line (said what)
    one (Told change) = sym (append-nil _)
    one (Listed row) = sym (append-nil _)
    one Settled = refl

pub sent_whole : (conn : Connection) → unsent conn ≡ [] → sent conn ≡ conn.out ++ flat_map line (tells conn.items)
sent_whole conn e =
    sym (append-nil _) ∙ ap (λ u. sent conn ++ u) (sym e) ∙ take-append-drop _ _
    ∙ ap (λ t. conn.out ++ t) (text_tells conn.items)

-- what is owed to an open information session
pub owed_is : (buses : List Bus) (w : World) (conn : Connection) → conn.shut ≡ None → conn.info ≡ true
    → owed_by conn.go_step conn.items conn.done (history buses w) (rows_after (shown_rows (opening buses 0)) (history buses w))
    ≡ owed conn (history buses w) (rows buses w)
owed_is buses w conn shut info =
    cc (owed_open (shown_rows (opening buses 0)) (history buses w) (rows buses w) conn shut (shown_after (opening buses 0) w.steps))
