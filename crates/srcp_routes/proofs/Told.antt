-- A route with a signal is told to be set only after an order that shows "go" was accepted.
use Rattle.std.proofs.Common.{◌≡◌, ◌≢◌, inl, inr, ℕ, ◌+◌, ◌==◌, ◌<◌, Bool, true, false, not, ◌&&◌}
use Rattle.std.proofs.Common.{Option, Some, None, List, length, refl, sym, ◌∙◌, ap, arith, subst}
use Rattle.std.proofs.lemmas.Bool.{cases_eq, eq-eqb, eqb-true, or_left, or_right}
use Rattle.std.proofs.lemmas.Option.{slice_get_within}
use Rattle.std.specs.Option.{option_map, option_map_or}
use Rattle.std.specs.Prelude.{if◌then◌else◌, is_some, map, nat_lt, slice_get, slice_set}
use Rattle.srcp_routes.specs.Conflicts.{are_free}
use Rattle.srcp_routes.specs.Plan.{Table, stage_at, wanted_at}
use Rattle.srcp_routes.specs.Runs.{Run, Signals, heard_of, lit}
use Rattle.srcp_routes.specs.Stages.{after_reply, count_of, is_held, lost_stage, order_of, ready_stage, retried_stage}
use Rattle.srcp_routes.specs.Stages.{show_setting}
use Rattle.srcp_routes.specs.Steps.{answered, heard, may_begin, ready_at, ready_in, sent, stage_replied}
use Rattle.srcp_routes.specs.declared.interlocking.Event.{Event}
use Rattle.srcp_routes.specs.declared.interlocking.Event.TheVariants.{Ask, Give, Told, Second, Reply, Lost}
use Rattle.srcp_routes.specs.declared.route.Order.{Order}
use Rattle.srcp_routes.specs.declared.route.Order.TheVariants as order
use Rattle.srcp_routes.specs.declared.route.Route.{Route}
use Rattle.srcp_routes.specs.declared.route.Signal.{Signal}
use Rattle.srcp_routes.specs.declared.stage.Stage.{Stage}
use Rattle.srcp_routes.specs.declared.stage.Stage.TheVariants as stage
use Rattle.srcp_routes.proofs.Apart.{stage_at-set, stage_at-set_same, stage_at-start}
use Rattle.srcp_routes.proofs.Falls.{in_keeps}
use Rattle.srcp_routes.proofs.Pending.{Fits, Pends, PendsAt, replied_none, replied_some, replied_to}

-- at this stage a route is told to be set, or was
abbrev pub is_told : Stage → Bool
is_told stage.Reporting = true
is_told stage.Set = true
is_told other = false

-- each signal shows "go" whose route is told to be set
abbrev pub AllLit : List Route → List Stage → Signals → Type 0
AllLit routes stages on = (n : ℕ) (route : Route) → slice_get routes n ≡ Some route → is_some route.signal ≡ true
    → is_told (stage_at stages n) ≡ true → on n ≡ true

told_held : (s : Stage) → is_told s ≡ true → is_held s ≡ true
told_held stage.Reporting h = refl
told_held stage.Set h = refl
told_held other h = absurd (cc)

retried_told : (s : Stage) → is_told (retried_stage s) ≡ true → is_told s ≡ true
retried_told stage.Blocked h = absurd (cc)
retried_told stage.Stuck h = absurd (cc)
retried_told other h = h

-- ---- stages at which nothing is told

left_silent : (left : ℕ) (P : Type 0) (none : Bool) → is_told (if none then stage.Idle else stage.Unlocking left) ≡ true → P
left_silent left P true h = absurd (cc)
left_silent left P false h = absurd (cc)

locking_silent : (done : ℕ) (P : Type 0) (more : Bool)
    → is_told (if more then stage.Locking (done + 1) else stage.Throwing 0) ≡ true → P
locking_silent done P true h = absurd (cc)
locking_silent done P false h = absurd (cc)

throwing_silent : (done : ℕ) (P : Type 0) (more : Bool) (x : Option Signal) → is_some x ≡ true
    → is_told (if more then stage.Throwing (done + 1) else option_map_or (λ signal. stage.Ready) x stage.Reporting) ≡ true
    → P
throwing_silent done P true x some h = absurd (cc)
throwing_silent done P false None some h = absurd (cc)
throwing_silent done P false (Some signal) some h = absurd (cc)

leaving_silent : (P : Type 0) (x : Option Signal) → is_told (option_map_or (λ signal. stage.Stopping) x stage.Hiding) ≡ true
    → P
leaving_silent P None h = absurd (cc)
leaving_silent P (Some signal) h = absurd (cc)

first_silent : (P : Type 0) (none : Bool) (x : Option Signal) → is_some x ≡ true
    → is_told (if none then option_map_or (λ signal. stage.Showing) x stage.Reporting else stage.Locking 0) ≡ true → P
first_silent P true None some h = absurd (cc)
first_silent P true (Some signal) some h = absurd (cc)
first_silent P false x some h = absurd (cc)

-- ---- the reply to an order

-- the signals that show "go" after the reply to the order of a route
abbrev lit_if : Signals → ℕ → Order → Bool → Signals
lit_if on n o ok = if ok then lit on n o else on

shows_on : (x : Option Signal) (o : Order) (on : Signals) (n : ℕ)
    → option_map (λ signal. order.Show (show_setting signal)) x ≡ Some o → lit on n o n ≡ true
shows_on None o on n orders = absurd (cc)
shows_on (Some signal) o on n orders =
    let is : order.Show (show_setting signal) ≡ o = cc in
    subst (λ (y : Order). lit on n y n ≡ true) is (or_left (n == n) (on n) (eq-eqb n n refl))

reports_on : (number : ℕ) (o : Order) (on : Signals) (n : ℕ) → Some (order.Report number true) ≡ Some o → on n ≡ true
    → lit on n o n ≡ true
reports_on number o on n orders h =
    let is : order.Report number true ≡ o = cc in subst (λ (y : Order). lit on n y n ≡ true) is h

reply_lit : (route : Route) (s : Stage) (o : Order) (ok : Bool) (on : Signals) (n : ℕ) → order_of route s ≡ Some o
    → is_some route.signal ≡ true → is_told (after_reply route s ok) ≡ true → (is_told s ≡ true → on n ≡ true)
    → lit_if on n o ok n ≡ true
reply_lit route stage.Clearing o true on n orders some h was = absurd (cc)
reply_lit route stage.Clearing o false on n orders some h was = absurd (cc)
reply_lit route stage.Closing o true on n orders some h was = absurd (cc)
reply_lit route stage.Closing o false on n orders some h was = absurd (cc)
reply_lit route (stage.Locking done) o true on n orders some h was =
    locking_silent done _ (nat_lt (done + 1) (count_of route)) h
reply_lit route (stage.Locking done) o false on n orders some h was = left_silent _ _ (done == 0) h
reply_lit route (stage.Throwing done) o true on n orders some h was =
    throwing_silent done _ (nat_lt (done + 1) (count_of route)) route.signal some h
reply_lit route (stage.Throwing done) o false on n orders some h was = absurd (cc)
reply_lit route (stage.Unlocking left) o true on n orders some h was = left_silent _ _ (left == 0) h
reply_lit route (stage.Unlocking left) o false on n orders some h was = left_silent _ _ (left == 0) h
reply_lit route stage.Hiding o true on n orders some h was = left_silent _ _ (count_of route == 0) h
reply_lit route stage.Hiding o false on n orders some h was = left_silent _ _ (count_of route == 0) h
reply_lit route stage.Showing o true on n orders some h was = shows_on route.signal o on n orders
reply_lit route stage.Showing o false on n orders some h was = absurd (cc)
reply_lit route stage.Reporting o true on n orders some h was = reports_on route.number o on n orders (was refl)
reply_lit route stage.Reporting o false on n orders some h was = leaving_silent _ route.signal h
reply_lit route (stage.Falling told) o true on n orders some h was = absurd (cc)
reply_lit route (stage.Falling told) o false on n orders some h was = absurd (cc)
reply_lit route (stage.Fallen false) o true on n orders some h was = absurd (cc)
reply_lit route (stage.Fallen false) o false on n orders some h was = absurd (cc)
reply_lit route stage.Stopping o true on n orders some h was = absurd (cc)
reply_lit route stage.Stopping o false on n orders some h was = absurd (cc)
reply_lit route other o ok on n orders some h was = absurd (cc)

-- the reply to the order of one route leaves the signals of the others
pub not_same : (m n : ℕ) (same : Bool) → (m == n) ≡ same → m ≢ n → same ≡ false
not_same m n true e differ = absurd (differ (eqb-true m n e))
not_same m n false e differ = refl

lit_else : (on : Signals) (n : ℕ) (o : Order) (m : ℕ) → m ≢ n → on m ≡ true → lit on n o m ≡ true
lit_else on n (order.Show setting) m differ h = or_right (m == n) (on m) h
lit_else on n (order.Stop setting) m differ h =
    subst (λ (same : Bool). (not same && on m) ≡ true) (sym (not_same m n (m == n) refl differ)) h
lit_else on n other m differ h = h

lit_if_else : (on : Signals) (n : ℕ) (o : Order) (ok : Bool) (m : ℕ) → m ≢ n → on m ≡ true → lit_if on n o ok m ≡ true
lit_if_else on n o true m differ h = lit_else on n o m differ h
lit_if_else on n o false m differ h = h

-- the stage at one place changes: its signal shows "go" if it is told to be set, and the others do as before
set_lit : (routes : List Route) (stages : List Stage) (i : ℕ) (s : Stage) (on later : Signals)
    → length stages ≡ length routes → ((m : ℕ) → m ≢ i → on m ≡ true → later m ≡ true)
    → ((route : Route) → slice_get routes i ≡ Some route → is_some route.signal ≡ true → is_told s ≡ true → later i ≡ true)
    → AllLit routes stages on → AllLit routes (slice_set stages i s) later
set_lit routes stages i s on later long others here all n route is some h = elim (cases_eq n i) [
  | inl same ↦
      let within : i < length stages = omega (arith, slice_get_within routes n route is, long, same) in
      let now : is_told s ≡ true = subst (λ (z : Stage). is_told z ≡ true) (stage_at-set_same stages i s within)
      (subst (λ (m : ℕ). is_told (stage_at (slice_set stages i s) m) ≡ true) same h) in
      subst (λ (m : ℕ). later m ≡ true) (sym same)
      (here route (subst (λ (m : ℕ). slice_get routes m ≡ Some route) same is) some now)
  | inr differ ↦ elim (stage_at-set stages i s n) [
    | inl p ↦ absurd (differ p.0)
    | inr e ↦ others n differ (all n route is some (subst (λ (z : Stage). is_told z ≡ true) e h))
  ]
]

answer_at : (routes : List Route) (t : Table) (last : Option Order) (on : Signals) (ok : Bool) (n : ℕ) → Fits routes t
    → (pends : PendsAt t last n) → AllLit t.routes t.stages on
    → AllLit t.routes (slice_set t.stages n (stage_replied t n ok)) (lit_if on n pends.order ok)
answer_at routes t last on ok n fits pends all =
    set_lit t.routes t.stages n (stage_replied t n ok) on (lit_if on n pends.order ok)
    (fits.stages ∙ ap length (sym fits.plan)) (lit_if_else on n pends.order ok)
    (λ route is some h.
    let same : Some pends.route ≡ Some route = sym pends.is ∙ is in
    let here : pends.route ≡ route = cc in
    let orders : order_of route (stage_at t.stages n) ≡ Some pends.order =
    subst (λ (x : Route). order_of x (stage_at t.stages n) ≡ Some pends.order) here pends.orders in
    let later : is_told (after_reply route (stage_at t.stages n) ok) ≡ true =
    subst (λ (x : Option Route).
    is_told (option_map_or (λ (a : Route). after_reply a (stage_at t.stages n) ok) x stage.Idle) ≡ true) is h in
    reply_lit route (stage_at t.stages n) pends.order ok on n orders some later (all n route is some)) all

answer_lit : (routes : List Route) (t : Table) (last : Option Order) (on : Signals) (ok : Bool) (x : Option ℕ)
    → Fits routes t → Pends t last x → AllLit t.routes t.stages on
    → AllLit (option_map_or (answered t ok) x t).routes (option_map_or (answered t ok) x t).stages (replied_to lit on last x ok)
answer_lit routes t last on ok None fits pends all =
    subst (λ (l : Signals). AllLit t.routes t.stages l) (sym (replied_none lit on last ok)) all
answer_lit routes t last on ok (Some n) fits pends all =
    let now : replied_to lit on last (Some n) ok ≡ lit_if on n pends.order ok =
    ap (λ (x : Option Order). replied_to lit on x (Some n) ok) pends.waits ∙ replied_some lit on n pends.order ok in
    subst (λ (l : Signals). AllLit (answered t ok n).routes (answered t ok n).stages l) (sym now)
    (answer_at routes t last on ok n fits pends all)

pub start_lit : (routes : List Route) → AllLit routes (map lost_stage routes) (λ m. false)
start_lit routes = λ n route is some h.
    let not : is_held (stage_at (map lost_stage routes) n) ≡ false = stage_at-start routes n in
    let held : is_held (stage_at (map lost_stage routes) n) ≡ true = told_held _ h in
    absurd (cc)

-- once an event came
pub heard_lit : (routes : List Route) (r : Run) (event : Event) → Fits routes r.table
    → Pends r.table r.order r.table.waiting → AllLit r.table.routes r.table.stages r.lit
    → AllLit (heard r.table event).routes (heard r.table event).stages (heard_of lit (λ m. false) r.lit r event)
heard_lit routes r (Ask n) fits pends all = all
heard_lit routes r (Give n) fits pends all =
    set_lit r.table.routes r.table.stages n (retried_stage (stage_at r.table.stages n)) r.lit r.lit
    (fits.stages ∙ ap length (sym fits.plan)) (λ m differ h. h)
    (λ route is some h. all n route is some (retried_told (stage_at r.table.stages n) h)) all
heard_lit routes r (Told sensor on) fits pends all = all
heard_lit routes r (Reply true) fits pends all =
    answer_lit routes r.table r.order r.lit true r.table.waiting fits pends all
heard_lit routes r (Reply false) fits pends all =
    answer_lit routes r.table r.order r.lit false r.table.waiting fits pends all
heard_lit routes r Second fits pends all = all
heard_lit routes r Lost fits pends all = start_lit r.table.routes

-- ---- the next order

-- as a route becomes ready, what is told of it was told before
ready_told : (route : Route) (wanted free begins : Bool) (s : Stage) → is_some route.signal ≡ true
    → is_told (ready_stage route wanted free begins s) ≡ true → is_told s ≡ true
ready_told route wanted free true stage.Idle some h = first_silent _ (count_of route == 0) route.signal some h
ready_told route wanted free false stage.Idle some h = absurd (cc)
ready_told route wanted free begins stage.Showing some h = absurd (cc)
ready_told route true true begins stage.Ready some h = absurd (cc)
ready_told route true false begins stage.Ready some h = absurd (cc)
ready_told route false free begins stage.Ready some h = absurd (cc)
ready_told route true free begins stage.Reporting some h = refl
ready_told route false free begins stage.Reporting some h = leaving_silent _ route.signal h
ready_told route true free begins stage.Set some h = refl
ready_told route false free begins stage.Set some h = leaving_silent _ route.signal h
ready_told route true free begins (stage.Locking done) some h = absurd (cc)
ready_told route false free begins (stage.Locking done) some h = left_silent _ _ (done == 0) h
ready_told route true free begins (stage.Throwing done) some h = absurd (cc)
ready_told route false free begins (stage.Throwing done) some h = absurd (cc)
ready_told route true free begins other some h = absurd (cc)
ready_told route false free begins other some h = absurd (cc)

sent_lit : (routes : List Route) (t : Table) (on : Signals) (n : ℕ) → Fits routes t → AllLit t.routes t.stages on
    → AllLit t.routes (slice_set t.stages n (ready_at t n)) on
sent_lit routes t on n fits all =
    set_lit t.routes t.stages n (ready_at t n) on on (fits.stages ∙ ap length (sym fits.plan)) (λ m differ h. h)
    (λ route is some h. all n route is some
    (in_keeps (λ s. is_told s ≡ true → is_told (stage_at t.stages n) ≡ true) t n route (λ has f g. absurd (cc))
    (λ has f g. absurd (cc)) (ready_told route (wanted_at t.wanted n) (are_free t.sensors route.blocks.items)
    (may_begin t n (are_free t.sensors route.blocks.items)) (stage_at t.stages n) some)
    (subst (λ (x : Option Route). is_told (option_map_or (ready_in t n) x stage.Idle) ≡ true) is h))) all

pub next_lit : (routes : List Route) (t : Table) (on : Signals) (waits : Bool) (d : Option ℕ) → Fits routes t
    → AllLit t.routes t.stages on
    → AllLit (if waits then record { table = t; order = None } else sent t d).table.routes
    (if waits then record { table = t; order = None } else sent t d).table.stages on
next_lit routes t on true d fits all = all
next_lit routes t on false None fits all = all
next_lit routes t on false (Some n) fits all = sent_lit routes t on n fits all
