-- A session of a course is given what a panel is over the history of the registry.
use Rattle.srcp_core.proofs.Names.{◌≡◌, ℕ, ◌≤◌, true, List, [], ◌∷◌, ◌++◌, map, take, drop, length, refl, ap, sym, ◌∙◌, subst, append-nil}
use Rattle.srcp_core.proofs.Names.{drop-append-le, take-append-drop, take-append-le, take_all, filter, filter_map-append, fold}
use Rattle.srcp_core.proofs.Names.{fold-append, le_refl, map-append, Option, None, IsRisingBy, key_at, Bus, opening, shown_rows}
use Rattle.srcp_core.proofs.Names.{Change, Cursor, Start, Shown, concerns, changed_all, Next, Told, Listed, Connection, History, heard}
use Rattle.srcp_core.proofs.Names.{is_open, Event, World, course, history, rows_at, Item, client, passed, waiting, length_push, arith}
use Rattle.srcp_core.proofs.Names.{Settled, IsLayout, IsSession, beyond, cursor_at, is_settled, listed, owed, rows, said, tells}
use Rattle.srcp_core.proofs.Names.{untold}
use Rattle.srcp_feed.specs.History.{Changes, Given, Gives, Happening, IsSettled, IsToldRightly, Panel, after, begun, happens, step_of}
use Rattle.srcp_feed.specs.History.{steps_of, listed as listed_by, tells as told_by}
use Rattle.srcp_feed.proofs.AnyHistory.{told_over_any_history}
use Rattle.srcp_feed.proofs.PanelSteps.{gives_done, gives_listed, gives_told}
use Rattle.srcp_core.specs.Panels.{IsPanel, SessionsArePanels, given_in}
use Rattle.srcp_core.proofs.CourseLaws.Histories.{rows_after, AreBy, concerning_by, concerning_push, cursor_by, cursor_done, cursor_later}
use Rattle.srcp_core.proofs.CourseLaws.ShownRegistry.{heard_prefix, length_history, rows_of_course, shown_after}
use Rattle.srcp_core.proofs.CourseLaws.ItemsFitHistory.{Fits, Law, cursor_item, cursor_told, fits_listed, fits_told, item_of}
use Rattle.srcp_core.proofs.CourseLaws.ItemsFitHistory.{rows_push, tolds, untold_by}
use Rattle.srcp_core.proofs.CourseLaws.RoomGivesWhatIsOwed.{before_done}
use Rattle.srcp_core.proofs.CourseLaws.SessionsAreKept.{concerning_start, in_order_after, none_concern}
use Rattle.srcp_core.proofs.CourseLaws.SessionsOfACourse.{OfSessions, open_shut, opening_in_order, settled_facts, stands}

abbrev given_by : List Shown → History → List Item → List Given
given_by start history items = map (λ item. record { rows = rows_after start (take item.steps history); what = item.what }) items

-- the panel, by the history and what the session was given
abbrev panel_by : List Shown → History → ℕ → List Item → Option ℕ → Panel
panel_by start history go items done = record {
  rows = rows_after start history;
  feed = record { cursor = cursor_by done items (length history); queue = untold_by go items done history };
  given = given_by start history items;
}

panel_same : (a b : List Shown) (c d : Cursor) (q r : List Change) (g h : List Given) → a ≡ b → c ≡ d → q ≡ r → g ≡ h
    → (let p : Panel = record { rows = a; feed = record { cursor = c; queue = q }; given = g } in p)
    ≡ (let p : Panel = record { rows = b; feed = record { cursor = d; queue = r }; given = h } in p)
panel_same a b c d q r g h e f k l = rw (e, f, k, l) refl

-- that panel is one to which these things happen
record Follows (start : List Shown) (history : History) (go : ℕ) (items : List Item) (done : Option ℕ) : Type 0 where
  happenings : List Happening
  steps : steps_of happenings ≡ drop go history
  is : after (rows_after start (take go history)) happenings ≡ panel_by start history go items done

-- ---- before anything is given

steps_alone : (steps : History) → steps_of (map (λ changes. Changes changes) steps) ≡ steps
steps_alone [] = refl
steps_alone (changes ∷ steps) = ap (λ s. changes ∷ s) (steps_alone steps)

begun_later : (rows : List Shown) (steps : History)
    → after rows (map (λ changes. Changes changes) steps) ≡ begun (rows_after rows steps)
begun_later rows [] = refl
begun_later rows (changes ∷ steps) =
    ap (λ queue.
    let panel : Panel = record { rows = changed_all changes rows; feed = record { cursor = Start; queue = queue }; given = [] } in
    fold happens panel (map (λ changes. Changes changes) steps)) (none_concern changes)
    ∙ begun_later (changed_all changes rows) steps

fresh_follows : (start : List Shown) (history : History) (go : ℕ) → go ≤ length history → Follows start history go [] None
fresh_follows start history go h =
    let first = rows_after start (take go history) in
    record {
      happenings = map (λ changes. Changes changes) (drop go history);
      steps = steps_alone (drop go history);
      is =
          begun_later first (drop go history)
          ∙ panel_same (rows_after first (drop go history)) (rows_after start history) Start Start [] (untold_by go [] None history) [] []
          (sym (fold-append (λ rows changes. changed_all changes rows) start (take go history) (drop go history))
          ∙ ap (rows_after start) (take-append-drop go history))
          refl (sym (concerning_start go 0 history)) refl;
    }

-- ---- one thing more

given_later : (start : List Shown) (history : History) (changes : List Change) (items : List Item) → AreBy (length history) items
    → given_by start history items ≡ given_by start (history ++ changes ∷ []) items
given_later start history changes [] a = refl
given_later start history changes (item ∷ items) a =
    let here = take-append-le item.steps history (changes ∷ []) a.0 in
    let rest = given_later start history changes items a.1 in
    cc

given_more : (start : List Shown) (history : History) (items : List Item) (what : Next)
    → given_by start history items ++ record { rows = rows_after start history; what = what } ∷ []
    ≡ given_by start history (items ++ item_of history what ∷ [])
given_more start history items what =
    ap (λ now. given_by start history items ++ record { rows = rows_after start now; what = what } ∷ [])
    (sym (take_all (length history) history (le_refl (length history))))
    ∙ sym (map-append (λ (item : Item). let g : Given = record { rows = rows_after start (take item.steps history); what = item.what } in g)
    items (item_of history what ∷ []))

steps_given : (happenings : List Happening) → steps_of (happenings ++ Gives ∷ []) ≡ steps_of happenings
steps_given happenings = filter_map-append step_of happenings (Gives ∷ []) ∙ append-nil (steps_of happenings)

untold_push : (start : List Shown) (history : History) (changes : List Change) (go : ℕ) (items : List Item) (done : Option ℕ)
    → Fits start history go items done
    → untold_by go items done (history ++ changes ∷ [])
    ≡ untold_by go items done history ++ filter (concerns (cursor_by done items (length history))) changes
untold_push start history changes go items done f =
    ap (drop (length (tolds items))) (concerning_push go (cursor_by done items) history changes f.began)
    ∙ drop-append-le (length (tolds items)) (concerning_by go (cursor_by done items) history)
    (filter (concerns (cursor_by done items (length history))) changes) f.enough

follows_law : (start : List Shown) → Law start (Follows start)
follows_law start = record {
  fresh = fresh_follows start;
  push = λ history changes go items done order f p.
      let l = length_push history changes in
      let up : length history ≤ length (history ++ changes ∷ []) = omega arith in
      record {
        happenings = p.happenings ++ Changes changes ∷ [];
        steps =
            filter_map-append step_of p.happenings (Changes changes ∷ []) ∙ ap (λ s. s ++ changes ∷ []) p.steps
            ∙ sym (drop-append-le go history (changes ∷ []) f.began);
        is =
            ap (λ now. after (rows_after start now) (p.happenings ++ Changes changes ∷ []))
            (take-append-le go history (changes ∷ []) f.began)
            ∙ fold-append happens (begun (rows_after start (take go history))) p.happenings (Changes changes ∷ [])
            ∙ ap (λ panel. happens panel (Changes changes)) p.is
            ∙ panel_same _ _ _ _ _ _ _ _ (sym (rows_push start history changes))
            (sym (cursor_later (length history) (length (history ++ changes ∷ [])) done items up f.done_by f.numbers))
            (sym (untold_push start history changes go items done f)) (given_later start history changes items f.numbers);
      };
  tell = λ history go items done change changes order f p e. record {
    happenings = p.happenings ++ Gives ∷ [];
    steps = steps_given p.happenings ∙ p.steps;
    is =
        fold-append happens (begun (rows_after start (take go history))) p.happenings (Gives ∷ [])
        ∙ ap (λ panel. happens panel Gives) p.is
        ∙ gives_told (panel_by start history go items done) change changes e
        ∙ panel_same _ _ _ _ _ _ _ _ refl (sym (cursor_told history items done change f.numbers))
        (sym (fits_told start history go items done change changes f e).waiting) (given_more start history items (Told change));
  };
  list = λ history go items row left order f p e b. record {
    happenings = p.happenings ++ Gives ∷ [];
    steps = steps_given p.happenings ∙ p.steps;
    is =
        fold-append happens (begun (rows_after start (take go history))) p.happenings (Gives ∷ [])
        ∙ ap (λ panel. happens panel Gives) p.is
        ∙ gives_listed (panel_by start history go items None) row left e b
        ∙ panel_same _ _ _ _ _ _ _ _ refl (sym (cursor_item history items (Listed row) f.numbers))
        (sym (fits_listed start history go items None row left order f e b).waiting) (given_more start history items (Listed row));
  };
  finish = λ history go items order f p e b. record {
    happenings = p.happenings ++ Gives ∷ [];
    steps = steps_given p.happenings ∙ p.steps;
    is =
        fold-append happens (begun (rows_after start (take go history))) p.happenings (Gives ∷ [])
        ∙ ap (λ panel. happens panel Gives) p.is
        ∙ gives_done (panel_by start history go items None) e b
        ∙ panel_same _ _ _ _ _ _ _ _ refl (sym (cursor_done (length history) items))
        (sym (ap (drop (length (tolds items))) (before_done go items history) ∙ e)) refl;
  };
}

-- ---- a session of a course

given_heard : (buses : List Bus) (w : World) (shut : Option ℕ) (items : List Item) → AreBy (length (heard shut (history buses w))) items
    → given_by (shown_rows (opening buses 0)) (heard shut (history buses w)) items ≡ given_in buses w items
given_heard buses w shut [] a = refl
given_heard buses w shut (item ∷ items) a =
    let here = ap (rows_after (shown_rows (opening buses 0))) (heard_prefix shut (history buses w) item.steps a.0)
    ∙ rows_of_course buses w item.steps in
    let rest = given_heard buses w shut items a.1 in
    cc

pub sessions_are_panels : (buses : List Bus) → SessionsArePanels buses
sessions_are_panels buses layout events number conn session =
    let w = course buses events in
    let first = shown_rows (opening buses 0) in
    let s = stands buses layout (Follows first) (follows_law first) events number conn session in
    let f = s.fits.1 in
    let began : rows_after first (take conn.go_step (heard conn.shut (history buses w))) ≡ rows_at buses w conn.go_step =
    ap (rows_after first) (heard_prefix conn.shut (history buses w) conn.go_step s.fits.0.began) ∙ rows_of_course buses w conn.go_step in
    let given = given_heard buses w conn.shut conn.items s.fits.0.numbers in
    let same : after (rows_at buses w conn.go_step) f.happenings
    ≡ panel_by first (heard conn.shut (history buses w)) conn.go_step conn.items conn.done =
    ap (λ rows. after rows f.happenings) (sym began) ∙ f.is in
    record {
      happenings = f.happenings;
      steps = f.steps;
      order =
          subst (IsRisingBy key_at) began
          (in_order_after first (take conn.go_step (heard conn.shut (history buses w))) (opening_in_order buses layout));
      given = ap (λ (panel : Panel). panel.given) same ∙ given;
      now = λ up.
          let all : heard conn.shut (history buses w) ≡ history buses w =
          ap (λ shut. heard shut (history buses w)) (open_shut conn.shut up) in
          same
          ∙ panel_same _ _ _ _ _ _ _ _
          (ap (rows_after first) all ∙ sym (shown_after (opening buses 0) w.steps))
          (ap (λ h. cursor_by conn.done conn.items (length h)) all
          ∙ ap (cursor_by conn.done conn.items) (length_history (opening buses 0) w.steps))
          refl given;
    }

-- ---- what the laws of a history say of a session

pub told_in : (buses : List Bus) (layout : IsLayout buses) (events : List Event) (number : ℕ) (conn : Connection)
    (session : IsSession buses events number conn)
    → IsToldRightly (rows_at buses (course buses events) conn.go_step)
    (sessions_are_panels buses layout events number conn session).happenings
    (after (rows_at buses (course buses events) conn.go_step)
    (sessions_are_panels buses layout events number conn session).happenings)
told_in buses layout events number conn session =
    let panel = sessions_are_panels buses layout events number conn session in
    told_over_any_history (rows_at buses (course buses events) conn.go_step) panel.happenings panel.order

-- what is settled in the course is settled in the history
pub settled_in_history : (buses : List Bus) (w : World) (conn : Connection) (panel : IsPanel buses w conn) → conn.info ≡ true
    → is_settled conn (history buses w) (rows buses w) ≡ true → IsSettled (after (rows_at buses w conn.go_step) panel.happenings)
settled_in_history buses w conn panel info settled =
    let facts = settled_facts conn (history buses w) (rows buses w) settled in
    let up : is_open conn ≡ true = rw facts.open_now refl in
    let owes : owed conn (history buses w) (rows buses w)
    ≡ map Told (untold conn (history buses w)) ++ map Listed (beyond (cursor_at conn (length (history buses w))) (rows buses w)) =
    rw (facts.open_now, info) refl in
    let none : map Told (untold conn (history buses w)) ++ map Listed (beyond (cursor_at conn (length w.steps)) (rows buses w)) ≡ [] =
    ap (λ n. map Told (untold conn (history buses w)) ++ map Listed (beyond (cursor_at conn n) (rows buses w)))
    (sym (length_history (opening buses 0) w.steps))
    ∙ sym owes ∙ facts.none_owed in
    subst IsSettled (sym (panel.now up)) none

-- items and what a panel was given tell and list the same
pub tells_in : (buses : List Bus) (w : World) (items : List Item) → told_by (given_in buses w items) ≡ tells items
tells_in buses w [] = refl
tells_in buses w (item ∷ items) = ap (λ changes. said item.what ++ changes) (tells_in buses w items)

pub listed_in : (buses : List Bus) (w : World) (items : List Item) → listed_by (given_in buses w items) ≡ listed items
listed_in buses w [] = refl
listed_in buses w (item ∷ items) = by item.what (listed_in buses w items)
  where
    by : (what : Next) → listed_by (given_in buses w items) ≡ listed items
        → listed_by (record { rows = rows_at buses w item.steps; what = what } ∷ given_in buses w items)
        ≡ listed (record { steps = item.steps; what = what } ∷ items)
    by (Told change) e = e
    by (Listed row) e = ap (λ rows. row ∷ rows) e
    by Settled e = e

-- a client that is told what an open session was given and what waits holds what the listing has passed
pub holds_passed : (buses : List Bus) → OfSessions buses (λ w conn.
    is_open conn ≡ true → client (tells conn.items ++ waiting conn (history buses w))
    ≡ passed (cursor_at conn (length w.steps)) (rows buses w))
holds_passed buses layout events number conn s up =
    let w = course buses events in
    let panel = sessions_are_panels buses layout events number conn s in
    let held : client (told_by (given_in buses w conn.items) ++ untold conn (history buses w))
    ≡ passed (cursor_at conn (length w.steps)) (rows buses w) =
    subst (λ (p : Panel). client (told_by p.given ++ p.feed.queue) ≡ passed p.feed.cursor p.rows) (panel.now up)
    (told_in buses layout events number conn s).passed in
    let waits : waiting conn (history buses w) ≡ untold conn (history buses w) = rw up refl in
    ap (λ queue. client (tells conn.items ++ queue)) waits
    ∙ ap (λ changes. client (changes ++ untold conn (history buses w))) (sym (tells_in buses w conn.items)) ∙ held

-- a client that was told all that a settled session was given holds the registry
pub client_settled : (buses : List Bus) → OfSessions buses (λ w conn. is_settled conn (history buses w) (rows buses w) ≡ true
    → client (tells conn.items) ≡ rows buses w)
client_settled buses layout events number conn s settled =
    let w = course buses events in
    let panel = sessions_are_panels buses layout events number conn s in
    let facts = settled_facts conn (history buses w) (rows buses w) settled in
    ap client (sym (ap told_by panel.given ∙ tells_in buses w conn.items))
    ∙ (told_in buses layout events number conn s).settled (settled_in_history buses w conn panel s.info settled)
    ∙ ap (λ (p : Panel). p.rows) (panel.now (rw facts.open_now refl))
