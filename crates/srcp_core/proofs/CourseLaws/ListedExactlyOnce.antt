-- Each row of a device that is there all the time is listed exactly once.
use Rattle.srcp_core.proofs.Names.{◌≡◌, ℕ, zero, suc, ◌+◌, ◌-◌, ◌<◌, ◌≤◌, true, List, [], ◌∷◌, ◌++◌, take, drop, length, ap, sym, ◌∙◌}
use Rattle.srcp_core.proofs.Names.{subst, arith, append-nil, take_all, length-append, length-drop, filter-append, filter_map-append}
use Rattle.srcp_core.proofs.Names.{filter, fold-append, key_cmp, owns, Shown, Device, Key, Bus, opening, shown_rows, changed_all}
use Rattle.srcp_core.proofs.Names.{IsLayout, Connection, History, heard, is_settled, World, course, rows, history, listed, has_key}
use Rattle.srcp_core.proofs.Names.{rows_at, listed_row, IsSession, AllMoments, Item, Event}
use Rattle.std.specs.Ordering.{eq_by_cmp}
use Rattle.std.proofs.Math.Seq.{take-add}
use Rattle.srcp_feed.specs.History.{HasAlways, listed as listed_by, steps_of}
use Rattle.srcp_core.specs.Laws.{IsThereFrom, times_listed}
use Rattle.srcp_core.proofs.CourseLaws.Histories.{rows_after}
use Rattle.srcp_core.proofs.CourseLaws.ItemsOnlyGrow.{Grows, grown_since}
use Rattle.srcp_core.proofs.CourseLaws.ListedInOrder.{lists_none_twice}
use Rattle.srcp_core.proofs.CourseLaws.RegistryStaysWhole.{KeepsKeys, keeps_keys}
use Rattle.srcp_core.proofs.CourseLaws.SessionsArePanels.{listed_in, sessions_are_panels, settled_in_history, told_in}
use Rattle.srcp_core.proofs.CourseLaws.SessionsOfACourse.{anything, fits_open, settled_facts, stands}
use Rattle.srcp_core.proofs.CourseLaws.ShownRegistry.{length_history, rows_of_course}

-- a key that a device has at the end it had all the time
had : (buses : List Bus) (w : World) (conn : Connection) (device : Device) (key : Key) → KeepsKeys buses w
    → IsThereFrom buses w conn (length w.steps) device → owns device key ≡ true → has_key key (rows buses w) ≡ true
    → (d k : ℕ) → k + d ≡ length w.steps → conn.go_step ≤ k → has_key key (rows_at buses w k) ≡ true
had buses w conn device key keeps all owned last zero k e low =
    let high : length w.steps ≤ k = omega arith in
    cc (take_all k w.steps high)
had buses w conn device key keeps all owned last (suc d) k e low =
    let next : k + 1 + d ≡ length w.steps = omega arith in
    let low' : conn.go_step ≤ k + 1 = omega arith in
    let inside : k < length w.steps = omega arith in
    let most : k ≤ length w.steps = omega arith in
    keeps k device key inside (all k low most) owned (had buses w conn device key keeps all owned last d (k + 1) next low')

always_by : (key : Key) (first : List Shown) (steps : History)
    → ((k : ℕ) → k ≤ length steps → has_key key (rows_after first (take k steps)) ≡ true) → HasAlways key first steps
always_by key first [] there = there 0 (omega arith)
always_by key first (changes ∷ steps) there =
    (there 0 (omega arith), always_by key (changed_all changes first) steps (λ k h. there (suc k) (omega (arith, h))))

-- the rows of a course, some steps after some
rows_later : (buses : List Bus) (w : World) (go k : ℕ)
    → rows_after (rows_at buses w go) (take k (drop go (history buses w))) ≡ rows_at buses w (go + k)
rows_later buses w go k =
    ap (λ rows. rows_after rows (take k (drop go (history buses w)))) (sym (rows_of_course buses w go))
    ∙ sym (fold-append (λ rows changes. changed_all changes rows) (shown_rows (opening buses 0)) (take go (history buses w))
    (take k (drop go (history buses w))))
    ∙ ap (rows_after (shown_rows (opening buses 0))) (sym (take-add go k (history buses w))) ∙ rows_of_course buses w (go + k)

pub lists_each_once : (buses : List Bus) → IsLayout buses → (events more : List Event) (number : ℕ) (conn later : Connection)
    → IsSession buses events number conn → IsSession buses (events ++ more) number later → AllMoments events
    → is_settled conn (history buses (course buses events)) (rows buses (course buses events)) ≡ true
    → (device : Device) → IsThereFrom buses (course buses events) conn (length (course buses events).steps) device
    → (key : Key) → owns device key ≡ true → has_key key (rows buses (course buses events)) ≡ true
    → times_listed key later.items ≡ 1
lists_each_once buses layout events more number conn later s t moments settled device all key owned last =
    let w = course buses events in
    let panel = sessions_are_panels buses layout events number conn s in
    let keeps = keeps_keys buses layout events moments in
    let facts = settled_facts conn (history buses w) (rows buses w) settled in
    let began : conn.go_step ≤ length (history buses w) =
    (fits_open _ _ _ conn facts.open_now
    (stands buses layout _ (anything (shown_rows (opening buses 0))) events number conn s)).0.began in
    let size : length (history buses w) ≡ length w.steps = length_history (opening buses 0) w.steps in
    let count : length (drop conn.go_step (history buses w)) ≡ length (history buses w) - conn.go_step =
    length-drop conn.go_step (history buses w) in
    let always : HasAlways key (rows_at buses w conn.go_step) (drop conn.go_step (history buses w)) =
    always_by key (rows_at buses w conn.go_step) (drop conn.go_step (history buses w)) (λ k h.
    ap (has_key key) (rows_later buses w conn.go_step k)
    ∙ had buses w conn device key keeps all owned last (length w.steps - (conn.go_step + k)) (conn.go_step + k)
    (omega (arith, size, count, h, began)) (omega arith)) in
    let steps : steps_of panel.happenings ≡ drop conn.go_step (history buses w) =
    panel.steps ∙ ap (λ shut. drop conn.go_step (heard shut (history buses w))) facts.open_now in
    let one = (told_in buses layout events number conn s).once panel.happenings [] key (sym (append-nil panel.happenings))
    (settled_in_history buses w conn panel s.info settled)
    (subst (HasAlways key (rows_at buses w conn.go_step)) (sym steps) always) in
    let early : times_listed key conn.items ≡ 1 =
    ap (λ rows. length (filter (λ row. eq_by_cmp key_cmp row.key key) rows))
    (sym (ap listed_by panel.given ∙ listed_in buses w conn.items)) ∙ one in
    let g : Grows conn later = grown_since buses events more number conn later s.there t.there in
    let grown : times_listed key later.items ≡ times_listed key conn.items + times_listed key g.rest =
    ap (times_listed key) g.is
    ∙ ap (λ rows. length (filter (λ row. eq_by_cmp key_cmp row.key key) rows))
    (filter_map-append (λ (item : Item). listed_row item.what) conn.items g.rest)
    ∙ ap length (filter-append (λ (row : Shown). eq_by_cmp key_cmp row.key key) (listed conn.items) (listed g.rest))
    ∙ length-append _ _ in
    let high = lists_none_twice buses layout (events ++ more) number later t key in
    omega (arith, early, grown, high)
