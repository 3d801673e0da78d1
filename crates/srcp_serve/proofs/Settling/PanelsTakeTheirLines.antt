-- An information session that goes on: what is unsent of it and what it is owed, and what each event makes of that.
use Rattle.srcp_serve.proofs.Names.{◌≡◌, ◌∙◌, ◌+◌, List, [], ◌∷◌, ◌++◌, map, length, refl, ap, sym, append-nil, append_assoc}
use Rattle.srcp_serve.proofs.Names.{length-append, ℕ, true, false, if◌then◌else◌, None, arith, ◌-◌, ◌≤◌, min, Bool, Option, Some}
use Rattle.srcp_serve.proofs.Names.{length-drop, flat_map, nat_le, filter, fold, AllByRecursion, enumerate_from, drop_at, drop_all}
use Rattle.srcp_serve.proofs.Names.{flat_map-append, fold-append, Change, Bus, History, Connection, concerning, cursor_at, overran, owed}
use Rattle.srcp_serve.proofs.Names.{untold, available, fitting, given, given_room, line_of, took, unsent, World, start, happens, course}
use Rattle.srcp_serve.proofs.Names.{state, history, history_from, state_after, stepped, updates_of, numbered, open_connection}
use Rattle.srcp_serve.proofs.Names.{at_connection, counted, or_refused, fault, answered, answered_as, new_lines, rows, Event, Step, Bytes}
use Rattle.srcp_serve.proofs.Names.{Room, Piece, Heard, brought, IsPanel, no_lists, Shown, concerns, le_refl, Next, IsLayout, CoreFault}
use Rattle.srcp_serve.proofs.Names.{numbered_with, takes_within, rooms_of, ne_eqb, ◌==◌, ◌<◌, took_overran, lent, cond_both}
use Rattle.srcp_serve.proofs.Names.{nil_from_length, IsKept, kept_all}
use Rattle.srcp_rules.specs.State.{State, opening, shown_rows}
use Rattle.srcp_core.proofs.CourseLaws.ShownRegistry.{history_append, length_history}
use Rattle.srcp_core.proofs.CourseLaws.Histories.{AreBy, IsDoneBy, cursor_later, enumerate_push}
use Rattle.srcp_core.proofs.CourseLaws.ItemsFitHistory.{Fits}
use Rattle.srcp_core.proofs.CourseLaws.LinesHaveBytes.{AreFull, owed_full}
use Rattle.srcp_core.proofs.CourseLaws.RoomGivesWhatIsOwed.{no_map}
use Rattle.srcp_core.proofs.CourseLaws.RoomSettles.{owes_after}
use Rattle.srcp_core.proofs.CourseLaws.RoomInTwoParts.{left_after}
use Rattle.srcp_core.proofs.CourseLaws.SessionsOfACourse.{anything, at_number, fits_open, open_shut, stands}
use Rattle.srcp_serve.proofs.RoomSendsWhatIsLent.{first_some, fits_left, given_more, after_room, lent_is, steady_course, there_after}
use Rattle.srcp_serve.proofs.OnlyRoomSends.{AreOfOthers, IsSteady, stays_all}

-- all changes of a history
abbrev pub changes_of : History → List Change
changes_of history = flat_map (λ changes. changes) history

-- no step has a change
abbrev pub AreNone : History → Type 0
AreNone history = AllByRecursion (λ changes. changes ≡ []) history

pub none_each : (history : History) → changes_of history ≡ [] → AreNone history
none_each [] e = tt
none_each (changes ∷ history) e = let both = no_lists changes _ e in (both.0, none_each history both.1)

-- steps without a change leave the registry as it was
pub same_state : (state : State) (steps : List Step) → changes_of (history_from state steps) ≡ [] → state_after state steps ≡ state
same_state state [] e = refl
same_state state (step ∷ steps) e =
    let both = no_lists (map (λ update. update.change) (updates_of state step)) _ e in
    let none = no_map (λ update. update.change) _ both.0 in
    cc (same_state (stepped state step) steps both.1)

module _ (buses : List Bus) where
  -- the steps of the one world, and then more
  abbrev Follows : List Step → World → Type 0
  Follows first w = (more : List Step) × (w.steps ≡ first ++ more)

  steps_kept : (first : List Step) → IsKept buses (Follows first)
  steps_kept first = record {
    lines = λ n. record {
      step = λ step w a. (a.0 ++ step ∷ [], cc (append_assoc first a.0 (step ∷ [])));
      numbers = λ id w a. a;
      says = λ mode ends w plain a. a;
      answers = λ reply w plain a. a;
      enters = λ id reply w plain a. a;
    };
    other = λ w v a. a;
    opens = λ w a. a;
    feeds = λ n bytes w a. a;
    shuts = λ n w up a. a;
    room = λ n bytes w up a. a;
  }

  -- the steps of the later events
  pub steps_follow : (events more : List Event) → (steps : List Step)
      × ((course buses (events ++ more)).steps ≡ (course buses events).steps ++ steps)
  steps_follow events more =
      let first = (course buses events).steps in
      rw fold-append (kept_all buses (Follows first) (steps_kept first) more (course buses events) ([], sym (append-nil first)))

  module _ (events more : List Event) (steps : List Step)
      (follow : (course buses (events ++ more)).steps ≡ (course buses events).steps ++ steps) where
    abbrev since : History
    since = history_from (state buses (course buses events)) steps

    pub history_follows : history buses (course buses (events ++ more)) ≡ history buses (course buses events) ++ since
    history_follows = cc (history_append (opening buses 0) (course buses events).steps steps)

    pub state_follows : state buses (course buses (events ++ more)) ≡ state_after (state buses (course buses events)) steps
    state_follows = cc (fold-append stepped (opening buses 0) (course buses events).steps steps)

    pub brought_is : brought buses events more ≡ length (changes_of since)
    brought_is =
        let first = (course buses events).steps in
        cc (history_follows, drop_at (history buses (course buses events)) since (length first) (length_history (opening buses 0) first))

  -- what two parts bring
  pub brought_adds : (events a b : List Event) → brought buses events (a ++ b) ≡ brought buses events a + brought buses (events ++ a) b
  brought_adds events a b =
      let x = steps_follow events a in
      let y = steps_follow (events ++ a) b in
      let first = state buses (course buses events) in
      let whole : (course buses (events ++ (a ++ b))).steps ≡ (course buses events).steps ++ (x.0 ++ y.0) =
      cc (append_assoc events a b, y.1, x.1, append_assoc (course buses events).steps x.0 y.0) in
      cc (
        brought_is events (a ++ b) (x.0 ++ y.0) whole,
        history_append first x.0 y.0,
        flat_map-append (λ changes. changes) (history_from first x.0) (history_from (state_after first x.0) y.0),
        length-append (changes_of (history_from first x.0)) (changes_of (history_from (state_after first x.0) y.0)),
        state_follows events a x.0 x.1,
        brought_is events a x.0 x.1,
        brought_is (events ++ a) b y.0 y.1,
      )

-- ---- while no step has a change, a connection stays owed the same, and does not overrun

module _ (conn : Connection) where
  abbrev part_of : ℕ × List Change → List Change
  part_of step = if nat_le conn.go_step step.0 then filter (concerns (cursor_at conn step.0)) step.1 else []

  part_none : (n : ℕ) → part_of (n, []) ≡ []
  part_none n = cond_both (nat_le conn.go_step n) [] [] (λ (cs : List Change). cs ≡ []) (λ e. refl) (λ e. refl)

  concerning_same : (past more : History) → AreNone more → concerning conn (past ++ more) ≡ concerning conn past
  concerning_same past [] none = ap (concerning conn) (append-nil past)
  concerning_same past (changes ∷ more) none =
      cc (
        append_assoc past (changes ∷ []) more,
        concerning_same (past ++ changes ∷ []) more none.1,
        enumerate_push 0 past changes,
        flat_map-append part_of (enumerate_from 0 past) ((0 + length past, changes) ∷ []),
        part_none (0 + length past),
        append-nil (concerning conn past),
      )

  module _ (shut : conn.shut ≡ None) where
    untold_same : (past more : History) → AreNone more → untold conn (past ++ more) ≡ untold conn past
    untold_same past more none = cc (concerning_same past more none)

    pub owed_same : (past more : History) (rows : List Shown) → AreBy (length past) conn.items → IsDoneBy (length past) conn.done
        → AreNone more → owed conn (past ++ more) rows ≡ owed conn past rows
    owed_same past more rows numbers done_by none =
        let longer = length-append past more in
        let cursor = cursor_later (length past) (length (past ++ more)) conn.done conn.items (omega arith) done_by numbers in
        cc (untold_same past more none)

-- ---- an information session that goes on: what is unsent of it and what it is owed, and what each event makes of that

-- ---- what is handed over first

-- what is unsent, or the first line that is owed
abbrev pub first_text : List ℕ → List Next → List ℕ
first_text (byte ∷ bytes) nexts = byte ∷ bytes
first_text [] (what ∷ nexts) = line_of what
first_text [] [] = []

-- what is given for it
abbrev first_given : List ℕ → List Next → List Next
first_given (byte ∷ bytes) nexts = []
first_given [] (what ∷ nexts) = what ∷ []
first_given [] [] = []

-- what is owed after it
abbrev pub owed_then : List ℕ → List Next → List Next
owed_then (byte ∷ bytes) nexts = nexts
owed_then [] (what ∷ nexts) = nexts
owed_then [] [] = []

first_lent : (bytes : List ℕ) (nexts : List Next) → AreFull nexts → bytes ++ flat_map line_of (fitting 0 bytes nexts)
    ≡ first_text bytes nexts
first_lent (byte ∷ bytes) nexts full = cc (fits_left 0 byte bytes nexts (omega arith), append-nil (byte ∷ bytes))
first_lent [] (what ∷ nexts) full = cc (first_some 0 what nexts full.0 (omega arith), append-nil (line_of what))
first_lent [] [] full = refl

first_fits : (bytes : List ℕ) (nexts : List Next) → AreFull nexts → fitting (length (first_text bytes nexts)) bytes nexts
    ≡ first_given bytes nexts
first_fits (byte ∷ bytes) nexts full = fits_left _ byte bytes nexts (le_refl (length (byte ∷ bytes)))
first_fits [] (what ∷ nexts) full = first_some (length (line_of what)) what nexts full.0 (le_refl (length (line_of what)))
first_fits [] [] full = refl

fits_none : (bytes : List ℕ) (nexts : List Next) → AreFull nexts → fitting 0 bytes nexts ≡ first_given bytes nexts
fits_none (byte ∷ bytes) nexts full = fits_left 0 byte bytes nexts (omega arith)
fits_none [] (what ∷ nexts) full = first_some 0 what nexts full.0 (omega arith)
fits_none [] [] full = refl

-- it is what was unsent and what is given, and no more than there is
first_size : (bytes : List ℕ) (nexts : List Next) → length (first_text bytes nexts)
    ≡ length bytes + length (flat_map line_of (first_given bytes nexts))
first_size (byte ∷ bytes) nexts = omega arith
first_size [] (what ∷ nexts) = let same = ap length (append-nil (line_of what)) in omega arith
first_size [] [] = refl

first_there : (bytes : List ℕ) (nexts : List Next) → length (first_text bytes nexts) ≤ length (available bytes nexts)
first_there (byte ∷ bytes) nexts = let e = length-append (byte ∷ bytes) (flat_map line_of nexts) in omega arith
first_there [] (what ∷ nexts) = let e = length-append (line_of what) (flat_map line_of nexts) in omega arith
first_there [] [] = omega arith

rest_is : (bytes : List ℕ) (nexts rest : List Next) → nexts ≡ first_given bytes nexts ++ rest → rest ≡ owed_then bytes nexts
rest_is (byte ∷ bytes) nexts rest e = sym e
rest_is [] (what ∷ nexts) rest e = cc
rest_is [] [] rest e = sym e

-- ---- the session

module _ (buses : List Bus) (n : ℕ) where
  -- it goes on after these events; these bytes of it are unsent, and it is owed these lines
  pub record Panel (events : List Event) (bytes : List ℕ) (nexts : List Next) : Type 0 where
    pub conn : Connection
    pub is : IsPanel buses (course buses events) n conn
    pub left : unsent conn ≡ bytes
    pub owes : owed conn (history buses (course buses events)) (rows buses (course buses events)) ≡ nexts

  module _ (events : List Event) (bytes : List ℕ) (nexts : List Next) (p : Panel events bytes nexts) where
    abbrev w : World
    w = course buses events

    pub panel_shut : p.conn.shut ≡ None
    panel_shut = open_shut _ p.is.open_now

    pub panel_open : open_connection w n ≡ Some p.conn
    panel_open = cc

    -- no command of its own ends it
    pub panel_goes_on : p.conn.ended ≡ false
    panel_goes_on = (at_number IsSteady n w.connections p.conn (steady_course buses events) p.is.there).goes_on p.is.info

    panel_fits : IsLayout buses → Fits (shown_rows (opening buses 0)) (history buses w) p.conn.go_step p.conn.items p.conn.done
    panel_fits layout = (fits_open (shown_rows (opening buses 0)) _ (history buses w) p.conn panel_shut
        (stands buses layout _ (anything (shown_rows (opening buses 0))) events n p.conn
        (record { there = p.is.there; info = p.is.info }))).0

    room_is : (k : ℕ) → given_room k (history buses w) (rows buses w) p.conn
        ≡ took k (length (history buses w)) (owed p.conn (history buses w) (rows buses w)) p.conn
    room_is k = ap (λ t. if t then p.conn else took k (length (history buses w))
        (owed p.conn (history buses w) (rows buses w)) p.conn) p.is.fine

    pub panel_full : AreFull nexts
    panel_full = rw p.owes at (owed_full p.conn (history buses w) (rows buses w))

    -- what it lends
    pub panel_lends : IsLayout buses → lent buses n events ≡ first_text bytes nexts
    panel_lends layout =
        let past = history buses w in
        let due = owed p.conn past (rows buses w) in
        cc (
          lent_is buses events n p.conn panel_open,
          room_is 0,
          took_overran past 0 due p.conn panel_shut p.is.fine,
          left_after (length past) due p.conn (takes_within buses layout events n p.conn p.is.there),
          first_lent bytes nexts panel_full,
        )

    -- room for what it lends, or for none, gives the first line
    room_for_first : IsLayout buses → (k : ℕ) (left : List ℕ) → fitting k bytes nexts ≡ first_given bytes nexts
        → unsent (took k (length (history buses w)) (owed p.conn (history buses w) (rows buses w)) p.conn) ≡ left
        → Panel (events ++ Room n k ∷ []) left (owed_then bytes nexts)
    room_for_first layout k text fits left_is =
        let past = history buses w in
        let due = owed p.conn past (rows buses w) in
        let later = took k (length past) due p.conn in
        let next = after_room buses events n k p.conn panel_open in
        let same = ap (history buses) next in
        let shows = ap (rows buses) next in
        let fit : fitting k (unsent p.conn) due ≡ first_given bytes nexts = cc (p.left, p.owes, fits) in
        let after = owes_after buses layout w k p.conn panel_shut p.is.info (panel_fits layout) in
        let rest = rest_is bytes nexts after.rest (cc) in
        let v = course buses (events ++ Room n k ∷ []) in
        let there : numbered n v.connections ≡ Some later = cc (there_after buses events n k p.conn panel_open, room_is k) in
        let fine : overran later (history buses v) ≡ false = cc (took_overran past k due p.conn panel_shut p.is.fine) in
        let left : unsent later ≡ text = left_is in
        let owes : owed later (history buses v) (rows buses v) ≡ owed_then bytes nexts = cc in
        search

    -- room for none
    panel_lend : IsLayout buses → Panel (events ++ Room n 0 ∷ []) (first_text bytes nexts) (owed_then bytes nexts)
    panel_lend layout =
        let past = history buses w in
        let due = owed p.conn past (rows buses w) in
        room_for_first layout 0 (first_text bytes nexts) (fits_none bytes nexts panel_full) (cc (
          left_after (length past) due p.conn (takes_within buses layout events n p.conn p.is.there),
          first_lent bytes nexts panel_full,
        ))

    -- room for all that it lends
    pub panel_room : IsLayout buses → Panel (events ++ Room n (length (first_text bytes nexts)) ∷ []) [] (owed_then bytes nexts)
    panel_room layout =
        let k : ℕ = length (first_text bytes nexts) in
        let due = owed p.conn (history buses w) (rows buses w) in
        let fit : fitting k (unsent p.conn) due ≡ first_given bytes nexts = cc (first_fits bytes nexts panel_full) in
        room_for_first layout k [] (first_fits bytes nexts panel_full) (nothing_left k due refl p.owes fit)
      where
        most : (k u t g f b all : ℕ) → t ≤ g → u ≡ g - t → u ≡ b → k ≡ b + f → k ≤ all → g + f ≤ t + min k all
        most k u t g f b all within left bytes size there = omega arith

        nothing_left : (k : ℕ) (due : List Next) → k ≡ length (first_text bytes nexts) → due ≡ nexts → fitting k (unsent p.conn) due
            ≡ first_given bytes nexts → unsent (took k (length (history buses w)) due p.conn) ≡ []
        nothing_left k due size same fit =
            let steps : ℕ = length (history buses w) in
            let more = flat_map line_of (first_given bytes nexts) in
            let whole : given (took k steps due p.conn) ≡ given p.conn ++ more = cc (given_more p.conn steps k due) in
            let long : length (given (took k steps due p.conn)) ≡ length (given p.conn) + length more =
            cc (length-append (given p.conn) more) in
            let all : available (unsent p.conn) due ≡ available bytes nexts = cc in
            let there : k ≤ length (available (unsent p.conn) due) = rw all (rw size (first_there bytes nexts)) in
            drop_all (p.conn.taken + min k (length (available (unsent p.conn) due))) (given (took k steps due p.conn))
            (rw long (most k (length (unsent p.conn)) p.conn.taken (length (given p.conn)) (length more) (length bytes)
            (length (available (unsent p.conn) due))
            (takes_within buses layout events n p.conn p.is.there) (length-drop p.conn.taken (given p.conn)) (ap length p.left)
            (size ∙ first_size bytes nexts) there))

    -- events that change none of its session but the bytes that it sent
    panel_fed : (more : List Event) (fed : List ℕ) → numbered n (course buses (events ++ more)).connections
        ≡ Some (record p.conn { fed = fed }) → (course buses (events ++ more)).steps ≡ w.steps → Panel (events ++ more) bytes nexts
    panel_fed more fed there steps =
        let v = course buses (events ++ more) in
        let conn : Connection = record p.conn { fed = fed } in
        let fine : overran conn (history buses v) ≡ false = rw (steps, p.is.fine) in
        let owes : owed conn (history buses v) (rows buses v) ≡ nexts = rw (steps, p.owes) in
        search

    -- what comes of it changes nothing
    pub panel_bytes : (piece : Piece) → Panel (events ++ Bytes n piece ∷ []) bytes nexts
    panel_bytes piece = by _ refl
      where
        next : course buses (events ++ Bytes n piece ∷ []) ≡ happens buses w (Bytes n piece)
        next = fold-append _ start events _

        deaf : (lines : List Heard) (v : World) (c : Connection) → numbered n v.connections ≡ Some c → c.info ≡ true
            → fold (answered buses n) v lines ≡ v
        deaf [] v c e i = refl
        deaf (line ∷ lines) v c e i = rw (one, deaf lines v c e i)
          where
            by : (t : Bool) → answered_as buses n (if t then Some c else None) line v ≡ v
            by true = rw i refl
            by false = refl

            one : answered buses n v line ≡ v
            one = rw (e, by)

        feed : Connection → Connection
        feed c = record c { fed = c.fed ++ piece.bytes }

        by : (o : Option CoreFault) → fault buses (counted w) (Bytes n piece) ≡ o → Panel (events ++ Bytes n piece ∷ []) bytes nexts
        by None e =
            let after : happens buses w (Bytes n piece) ≡ at_connection n feed (counted w) =
            cc (deaf (new_lines buses p.conn.fed piece) (at_connection n feed (counted w)) (feed p.conn)
            (rw (numbered_with, p.is.there)) p.is.info) in
            panel_fed (Bytes n piece ∷ []) (p.conn.fed ++ piece.bytes)
            (cc (next, after, numbered_with n feed w.connections, p.is.there))
            (ap (λ (v : World). v.steps) (next ∙ after))
        by (Some cause) e =
            let after = ap (λ o. or_refused buses o (Bytes n piece) (counted w)) e in
            panel_fed (Bytes n piece ∷ []) p.conn.fed (cc (next, after, p.is.there))
            (ap (λ (v : World). v.steps) (next ∙ after))

    -- what others do changes nothing if no step has a change
    pub panel_others : IsLayout buses → (more : List Event) → AreOfOthers n more → brought buses events more ≡ 0
        → Panel (events ++ more) bytes nexts
    panel_others layout more others none =
        let past = history buses w in
        let f = steps_follow buses events more in
        let since = history_from (state buses w) f.0 in
        let empty = nil_from_length _ (sym (brought_is buses events more f.0 f.1) ∙ none) in
        let each = none_each since empty in
        let grown = history_follows buses events more f.0 f.1 in
        let shows = ap shown_rows (state_follows buses events more f.0 f.1 ∙ same_state _ f.0 empty) in
        let fits = panel_fits layout in
        let v = course buses (events ++ more) in
        let there : numbered n v.connections ≡ Some p.conn =
        cc (fold-append (happens buses) start events more, stays_all buses n p.conn more w others p.is.there) in
        let fine : overran p.conn (history buses v) ≡ false = cc (untold_same p.conn panel_shut past since each) in
        let owes : owed p.conn (history buses v) (rows buses v) ≡ nexts =
        cc (owed_same p.conn panel_shut past since (rows buses w) fits.numbers fits.done_by each) in
        search

  -- a write of all that it lends, if that is something
  pub panel_write : (events : List Event) (bytes : List ℕ) (nexts : List Next) → Panel events bytes nexts → IsLayout buses
      → 0 < length (first_text bytes nexts)
      → Panel (events ++ map (Room n) (rooms_of (length (first_text bytes nexts)))) [] (owed_then bytes nexts)
  panel_write events bytes nexts p layout some = by (first_text bytes nexts) some (panel_lend events bytes nexts p layout)
    where
      by : (text : List ℕ) → 0 < length text → Panel (events ++ Room n 0 ∷ []) text (owed_then bytes nexts)
          → Panel (events ++ map (Room n) (rooms_of (length text))) [] (owed_then bytes nexts)
      by [] none q = absurd (omega (arith, none))
      by (byte ∷ text) some q =
          let written : (length (byte ∷ text) == 0) ≡ false = ne_eqb (length (byte ∷ text)) 0 (λ e. omega (arith, e)) in
          rw written (rw append_assoc at (panel_room (events ++ Room n 0 ∷ []) (byte ∷ text) (owed_then bytes nexts) q layout))
