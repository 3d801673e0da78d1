-- A signal that shows "go", or is to be stopped since its route is given back, was shown in this session.
use Rattle.std.proofs.Common.{◌≡◌, ◌≢◌, ◌⊎◌, inl, inr, ℕ, ◌+◌, ◌==◌, ◌<◌, Bool, true, false, not, ◌&&◌}
use Rattle.std.proofs.Common.{Option, Some, None, List, length, refl, sym, ◌∙◌, ap, arith, subst}
use Rattle.std.proofs.lemmas.Bool.{cases_eq, eq-eqb, or_left, or_right}
use Rattle.std.proofs.lemmas.Option.{slice_get_within}
use Rattle.std.specs.Option.{option_map, option_map_or}
use Rattle.std.specs.Prelude.{if◌then◌else◌, is_some, map, nat_lt, slice_get, slice_set}
use Rattle.srcp_routes.specs.Conflicts.{are_free}
use Rattle.srcp_routes.specs.Plan.{Table, stage_at, wanted_at}
use Rattle.srcp_routes.specs.Runs.{Run, Signals, shown_heard, signals_sent, stopped}
use Rattle.srcp_routes.specs.Stages.{after_reply, count_of, is_held, lost_stage, order_of, ready_stage, retried_stage}
use Rattle.srcp_routes.specs.Stages.{show_setting}
use Rattle.srcp_routes.specs.Steps.{Stepped, answered, due, heard, may_begin, ready_at, ready_in, sent, stage_replied}
use Rattle.srcp_routes.specs.declared.interlocking.Event.{Event}
use Rattle.srcp_routes.specs.declared.interlocking.Event.TheVariants.{Ask, Give, Told, Second, Reply, Lost}
use Rattle.srcp_routes.specs.declared.route.Order.{Order}
use Rattle.srcp_routes.specs.declared.route.Order.TheVariants as order
use Rattle.srcp_routes.specs.declared.route.Route.{Route}
use Rattle.srcp_routes.specs.declared.route.Signal.{Signal}
use Rattle.srcp_routes.specs.declared.stage.Stage.{Stage}
use Rattle.srcp_routes.specs.declared.stage.Stage.TheVariants as stage
use Rattle.srcp_routes.proofs.Apart.{stage_at-set, stage_at-set_same, stage_at-start}
use Rattle.srcp_routes.proofs.Falls.{in_keeps}
use Rattle.srcp_routes.proofs.Pending.{Fits, Pends, PendsAt, Sends, due_sends, replied_none, replied_some, replied_to}
use Rattle.srcp_routes.proofs.Told.{not_same}

-- at this stage the signal of a route shows "go", or is to be stopped since the route is given back
abbrev pub shines : Route → Stage → Bool
shines route stage.Showing = true
shines route stage.Reporting = is_some route.signal
shines route stage.Set = is_some route.signal
shines route (stage.Falling told) = true
shines route stage.Stopping = true
shines route stage.Stuck = true
shines route other = false

-- each such signal was shown
abbrev pub AllShine : List Route → List Stage → Signals → Type 0
AllShine routes stages shown = (n : ℕ) (route : Route) → slice_get routes n ≡ Some route
    → shines route (stage_at stages n) ≡ true → shown n ≡ true

shines_held : (route : Route) (s : Stage) → shines route s ≡ true → is_held s ≡ true
shines_held route stage.Idle h = absurd (cc)
shines_held route stage.Clearing h = absurd (cc)
shines_held route stage.Blocked h = absurd (cc)
shines_held route stage.Closing h = absurd (cc)
shines_held route other h = refl

retried_shines : (route : Route) (s : Stage) → shines route (retried_stage s) ≡ true → shines route s ≡ true
retried_shines route stage.Blocked h = absurd (cc)
retried_shines route stage.Stuck h = refl
retried_shines route other h = h

-- ---- stages at which no signal shows "go"

left_dark : (route : Route) (left : ℕ) (P : Type 0) (none : Bool)
    → shines route (if none then stage.Idle else stage.Unlocking left) ≡ true → P
left_dark route left P true h = absurd (cc)
left_dark route left P false h = absurd (cc)

locking_dark : (route : Route) (done : ℕ) (P : Type 0) (more : Bool)
    → shines route (if more then stage.Locking (done + 1) else stage.Throwing 0) ≡ true → P
locking_dark route done P true h = absurd (cc)
locking_dark route done P false h = absurd (cc)

throwing_dark : (route : Route) (done : ℕ) (P : Type 0) (more : Bool) (x : Option Signal) → route.signal ≡ x
    → shines route (if more then stage.Throwing (done + 1) else option_map_or (λ signal. stage.Ready) x stage.Reporting)
    ≡ true → P
throwing_dark route done P true x is h = absurd (cc)
throwing_dark route done P false None is h =
    let no : is_some route.signal ≡ false = ap (λ (y : Option Signal). is_some y) is in absurd (cc)
throwing_dark route done P false (Some signal) is h = absurd (cc)

leaving_shines : (route : Route) (x : Option Signal) → route.signal ≡ x
    → shines route (option_map_or (λ signal. stage.Stopping) x stage.Hiding) ≡ true → is_some route.signal ≡ true
leaving_shines route None is h = absurd (cc)
leaving_shines route (Some signal) is h = ap (λ (y : Option Signal). is_some y) is

first_shines : (route : Route) (none : Bool) (x : Option Signal) → route.signal ≡ x
    → shines route (if none then option_map_or (λ signal. stage.Showing) x stage.Reporting else stage.Locking 0) ≡ true
    → (if none then option_map_or (λ signal. stage.Showing) x stage.Reporting else stage.Locking 0) ≡ stage.Showing
first_shines route true None is h =
    let no : is_some route.signal ≡ false = ap (λ (y : Option Signal). is_some y) is in absurd (cc)
first_shines route true (Some signal) is h = refl
first_shines route false x is h = absurd (cc)

-- ---- the reply to an order

-- the signals after the reply to the order of a route
abbrev stopped_if : Signals → ℕ → Order → Bool → Signals
stopped_if shown n o ok = if ok then stopped shown n o else shown

show_kept : (x : Option Signal) (o : Order) (shown : Signals) (n : ℕ)
    → option_map (λ signal. order.Show (show_setting signal)) x ≡ Some o → shown n ≡ true → stopped shown n o n ≡ true
show_kept None o shown n orders h = absurd (cc)
show_kept (Some signal) o shown n orders h =
    let is : order.Show (show_setting signal) ≡ o = cc in subst (λ (y : Order). stopped shown n y n ≡ true) is h

report_kept : (number : ℕ) (o : Order) (shown : Signals) (n : ℕ) → Some (order.Report number true) ≡ Some o
    → shown n ≡ true → stopped shown n o n ≡ true
report_kept number o shown n orders h =
    let is : order.Report number true ≡ o = cc in subst (λ (y : Order). stopped shown n y n ≡ true) is h

reply_shines : (route : Route) (s : Stage) (o : Order) (ok : Bool) (shown : Signals) (n : ℕ) → order_of route s ≡ Some o
    → shines route (after_reply route s ok) ≡ true → (shines route s ≡ true → shown n ≡ true)
    → stopped_if shown n o ok n ≡ true
reply_shines route stage.Clearing o true shown n orders h was = absurd (cc)
reply_shines route stage.Clearing o false shown n orders h was = absurd (cc)
reply_shines route stage.Closing o true shown n orders h was = absurd (cc)
reply_shines route stage.Closing o false shown n orders h was = absurd (cc)
reply_shines route (stage.Locking done) o true shown n orders h was =
    locking_dark route done _ (nat_lt (done + 1) (count_of route)) h
reply_shines route (stage.Locking done) o false shown n orders h was = left_dark route _ _ (done == 0) h
reply_shines route (stage.Throwing done) o true shown n orders h was =
    throwing_dark route done _ (nat_lt (done + 1) (count_of route)) route.signal refl h
reply_shines route (stage.Throwing done) o false shown n orders h was = absurd (cc)
reply_shines route (stage.Unlocking left) o true shown n orders h was = left_dark route _ _ (left == 0) h
reply_shines route (stage.Unlocking left) o false shown n orders h was = left_dark route _ _ (left == 0) h
reply_shines route stage.Hiding o true shown n orders h was = left_dark route _ _ (count_of route == 0) h
reply_shines route stage.Hiding o false shown n orders h was = left_dark route _ _ (count_of route == 0) h
reply_shines route stage.Showing o true shown n orders h was = show_kept route.signal o shown n orders (was refl)
reply_shines route stage.Showing o false shown n orders h was = was refl
reply_shines route stage.Reporting o true shown n orders h was = report_kept route.number o shown n orders (was h)
reply_shines route stage.Reporting o false shown n orders h was = was (leaving_shines route route.signal refl h)
reply_shines route (stage.Falling told) o true shown n orders h was = absurd (cc)
reply_shines route (stage.Falling told) o false shown n orders h was = was refl
reply_shines route (stage.Fallen false) o true shown n orders h was = absurd (cc)
reply_shines route (stage.Fallen false) o false shown n orders h was = absurd (cc)
reply_shines route stage.Stopping o true shown n orders h was = absurd (cc)
reply_shines route stage.Stopping o false shown n orders h was = was refl
reply_shines route other o ok shown n orders h was = absurd (cc)

-- the reply to the order of one route leaves the signals of the others
stop_else : (shown : Signals) (n : ℕ) (o : Order) (m : ℕ) → m ≢ n → shown m ≡ true → stopped shown n o m ≡ true
stop_else shown n (order.Stop setting) m differ h =
    subst (λ (same : Bool). (not same && shown m) ≡ true) (sym (not_same m n (m == n) refl differ)) h
stop_else shown n other m differ h = h

stop_if_else : (shown : Signals) (n : ℕ) (o : Order) (ok : Bool) (m : ℕ) → m ≢ n → shown m ≡ true
    → stopped_if shown n o ok m ≡ true
stop_if_else shown n o true m differ h = stop_else shown n o m differ h
stop_if_else shown n o false m differ h = h

-- the stage at one place changes: its signal was shown if it shines, and the others were as before
set_shines : (routes : List Route) (stages : List Stage) (i : ℕ) (s : Stage) (shown later : Signals)
    → length stages ≡ length routes → ((m : ℕ) → m ≢ i → shown m ≡ true → later m ≡ true)
    → ((route : Route) → slice_get routes i ≡ Some route → shines route s ≡ true → later i ≡ true)
    → AllShine routes stages shown → AllShine routes (slice_set stages i s) later
set_shines routes stages i s shown later long others here all n route is h = elim (cases_eq n i) [
  | inl same ↦
      let within : i < length stages = omega (arith, slice_get_within routes n route is, long, same) in
      let now : shines route s ≡ true = subst (λ (z : Stage). shines route z ≡ true) (stage_at-set_same stages i s within)
      (subst (λ (m : ℕ). shines route (stage_at (slice_set stages i s) m) ≡ true) same h) in
      subst (λ (m : ℕ). later m ≡ true) (sym same)
      (here route (subst (λ (m : ℕ). slice_get routes m ≡ Some route) same is) now)
  | inr differ ↦ elim (stage_at-set stages i s n) [
    | inl p ↦ absurd (differ p.0)
    | inr e ↦ others n differ (all n route is (subst (λ (z : Stage). shines route z ≡ true) e h))
  ]
]

answer_at : (routes : List Route) (t : Table) (last : Option Order) (shown : Signals) (ok : Bool) (n : ℕ) → Fits routes t
    → (pends : PendsAt t last n) → AllShine t.routes t.stages shown
    → AllShine t.routes (slice_set t.stages n (stage_replied t n ok)) (stopped_if shown n pends.order ok)
answer_at routes t last shown ok n fits pends all =
    set_shines t.routes t.stages n (stage_replied t n ok) shown (stopped_if shown n pends.order ok)
    (fits.stages ∙ ap length (sym fits.plan)) (stop_if_else shown n pends.order ok)
    (λ route is h.
    let same : Some pends.route ≡ Some route = sym pends.is ∙ is in
    let here : pends.route ≡ route = cc in
    let orders : order_of route (stage_at t.stages n) ≡ Some pends.order =
    subst (λ (x : Route). order_of x (stage_at t.stages n) ≡ Some pends.order) here pends.orders in
    let later : shines route (after_reply route (stage_at t.stages n) ok) ≡ true =
    subst (λ (x : Option Route).
    shines route (option_map_or (λ (a : Route). after_reply a (stage_at t.stages n) ok) x stage.Idle) ≡ true) is h in
    reply_shines route (stage_at t.stages n) pends.order ok shown n orders later (all n route is)) all

answer_shines : (routes : List Route) (t : Table) (last : Option Order) (shown : Signals) (ok : Bool) (x : Option ℕ)
    → Fits routes t → Pends t last x → AllShine t.routes t.stages shown
    → AllShine (option_map_or (answered t ok) x t).routes (option_map_or (answered t ok) x t).stages
    (replied_to stopped shown last x ok)
answer_shines routes t last shown ok None fits pends all =
    subst (λ (l : Signals). AllShine t.routes t.stages l) (sym (replied_none stopped shown last ok)) all
answer_shines routes t last shown ok (Some n) fits pends all =
    let now : replied_to stopped shown last (Some n) ok ≡ stopped_if shown n pends.order ok =
    ap (λ (x : Option Order). replied_to stopped shown x (Some n) ok) pends.waits
    ∙ replied_some stopped shown n pends.order ok in
    subst (λ (l : Signals). AllShine (answered t ok n).routes (answered t ok n).stages l) (sym now)
    (answer_at routes t last shown ok n fits pends all)

pub start_shines : (routes : List Route) → AllShine routes (map lost_stage routes) (λ m. false)
start_shines routes = λ n route is h.
    let not : is_held (stage_at (map lost_stage routes) n) ≡ false = stage_at-start routes n in
    let held : is_held (stage_at (map lost_stage routes) n) ≡ true = shines_held route _ h in
    absurd (cc)

-- once an event came
pub heard_shines : (routes : List Route) (r : Run) (event : Event) → Fits routes r.table
    → Pends r.table r.order r.table.waiting → AllShine r.table.routes r.table.stages r.shown
    → AllShine (heard r.table event).routes (heard r.table event).stages (shown_heard r event)
heard_shines routes r (Ask n) fits pends all = all
heard_shines routes r (Give n) fits pends all =
    set_shines r.table.routes r.table.stages n (retried_stage (stage_at r.table.stages n)) r.shown r.shown
    (fits.stages ∙ ap length (sym fits.plan)) (λ m differ h. h)
    (λ route is h. all n route is (retried_shines route (stage_at r.table.stages n) h)) all
heard_shines routes r (Told sensor on) fits pends all = all
heard_shines routes r Second fits pends all = all
heard_shines routes r (Reply true) fits pends all =
    answer_shines routes r.table r.order r.shown true r.table.waiting fits pends all
heard_shines routes r (Reply false) fits pends all =
    answer_shines routes r.table r.order r.shown false r.table.waiting fits pends all
heard_shines routes r Lost fits pends all = start_shines r.table.routes

-- ---- the next order

-- as a route becomes ready, its signal shone before, or is to be shown now
ready_shines : (route : Route) (wanted free begins : Bool) (s : Stage)
    → shines route (ready_stage route wanted free begins s) ≡ true
    → (shines route s ≡ true) ⊎ (ready_stage route wanted free begins s ≡ stage.Showing)
ready_shines route wanted free true stage.Idle h = inr (first_shines route (count_of route == 0) route.signal refl h)
ready_shines route wanted free false stage.Idle h = absurd (cc)
ready_shines route wanted free begins stage.Showing h = inl refl
ready_shines route true true begins stage.Ready h = inr refl
ready_shines route true false begins stage.Ready h = absurd (cc)
ready_shines route true free begins other h = inl h
ready_shines route false free begins (stage.Locking done) h = left_dark route _ _ (done == 0) h
ready_shines route false free begins (stage.Throwing done) h = absurd (cc)
ready_shines route false free begins stage.Ready h = absurd (cc)
ready_shines route false free begins stage.Reporting h = inl (leaving_shines route route.signal refl h)
ready_shines route false free begins stage.Set h = inl (leaving_shines route route.signal refl h)
ready_shines route false free begins (stage.Fallen told) h = absurd (cc)
ready_shines route false free begins other h = inl h

fell_shines : (route : Route) (old : Bool) (s : Stage) → s ≢ stage.Showing → is_some route.signal ≡ true
    → (is_some route.signal ≡ true → (old ≡ true) ⊎ (s ≡ stage.Showing)) → old ≡ true
fell_shines route old s differ some f = elim (f some) [ inl shone ↦ shone | inr same ↦ absurd (differ same) ]

reporting_not : stage.Reporting ≢ stage.Showing
reporting_not e = absurd (cc)

set_not : stage.Set ≢ stage.Showing
set_not e = absurd (cc)

pub in_shines : (t : Table) (n : ℕ) (route : Route) → shines route (ready_in t n route) ≡ true
    → (shines route (stage_at t.stages n) ≡ true) ⊎ (ready_in t n route ≡ stage.Showing)
in_shines t n route = in_keeps (λ s. shines route s ≡ true
    → (shines route (stage_at t.stages n) ≡ true) ⊎ (s ≡ stage.Showing)) t n route
    (λ some f h. inl (fell_shines route (shines route (stage_at t.stages n)) stage.Reporting reporting_not some f))
    (λ some f h. inl (fell_shines route (shines route (stage_at t.stages n)) stage.Set set_not some f))
    (ready_shines route (wanted_at t.wanted n) (are_free t.sensors route.blocks.items)
    (may_begin t n (are_free t.sensors route.blocks.items)) (stage_at t.stages n))

sent_more : (shown : Signals) (o : Order) (n m : ℕ) → shown m ≡ true → signals_sent shown (Some o) (Some n) m ≡ true
sent_more shown (order.Show setting) n m h = or_right (m == n) (shown m) h
sent_more shown other n m h = h

show_sent : (x : Option Signal) (o : Order) (shown : Signals) (n : ℕ)
    → option_map (λ signal. order.Show (show_setting signal)) x ≡ Some o → signals_sent shown (Some o) (Some n) n ≡ true
show_sent None o shown n orders = absurd (cc)
show_sent (Some signal) o shown n orders =
    let is : order.Show (show_setting signal) ≡ o = cc in
    subst (λ (y : Order). signals_sent shown (Some y) (Some n) n ≡ true) is (or_left (n == n) (shown n) (eq-eqb n n refl))

shows_now : (route : Route) (s : Stage) (o : Order) (shown : Signals) (n : ℕ) → s ≡ stage.Showing
    → order_of route s ≡ Some o → signals_sent shown (Some o) (Some n) n ≡ true
shows_now route s o shown n is orders =
    show_sent route.signal o shown n (subst (λ (z : Stage). order_of route z ≡ Some o) is orders)

sent_here : (t : Table) (shown : Signals) (n : ℕ) (route : Route) → (sends : Sends t n)
    → AllShine t.routes t.stages shown → slice_get t.routes n ≡ Some route → shines route (ready_at t n) ≡ true
    → signals_sent shown (Some sends.order) (Some n) n ≡ true
sent_here t shown n route sends all is h =
    let same : Some sends.route ≡ Some route = sym sends.is ∙ is in
    let here : sends.route ≡ route = cc in
    let ready : ready_at t n ≡ ready_in t n route =
    ap (λ (x : Option Route). option_map_or (ready_in t n) x stage.Idle) is in
    let orders : order_of route (ready_in t n route) ≡ Some sends.order =
    subst (λ (z : Stage). order_of route z ≡ Some sends.order) ready
    (subst (λ (a : Route). order_of a (ready_at t n) ≡ Some sends.order) here sends.orders) in
    elim (in_shines t n route (subst (λ (z : Stage). shines route z ≡ true) ready h)) [
      | inl shone ↦ sent_more shown sends.order n n (all n route is shone)
      | inr shows ↦ shows_now route (ready_in t n route) sends.order shown n shows orders
    ]

sent_shines : (routes : List Route) (t : Table) (shown : Signals) (n : ℕ) → Fits routes t → (sends : Sends t n)
    → AllShine t.routes t.stages shown
    → AllShine t.routes (slice_set t.stages n (ready_at t n)) (signals_sent shown (Some sends.order) (Some n))
sent_shines routes t shown n fits sends all =
    set_shines t.routes t.stages n (ready_at t n) shown (signals_sent shown (Some sends.order) (Some n))
    (fits.stages ∙ ap length (sym fits.plan)) (λ m differ h. sent_more shown sends.order n m h)
    (λ route is h. sent_here t shown n route sends all is h) all

-- once the next order is sent
abbrev pub StepShines : Signals → Stepped → Type 0
StepShines shown s = AllShine s.table.routes s.table.stages (signals_sent shown s.order s.table.waiting)

pub next_shines : (routes : List Route) (t : Table) (shown : Signals) (waits : Bool) (d : Option ℕ) → Fits routes t
    → due t ≡ d → AllShine t.routes t.stages shown
    → StepShines shown (if waits then record { table = t; order = None } else sent t d)
next_shines routes t shown true d fits is all = all
next_shines routes t shown false None fits is all = all
next_shines routes t shown false (Some n) fits is all =
    let sends : Sends t n = due_sends t n is in
    subst (λ (x : Option Order). AllShine t.routes (slice_set t.stages n (ready_at t n)) (signals_sent shown x (Some n)))
    (sym sends.sent) (sent_shines routes t shown n fits sends all)
