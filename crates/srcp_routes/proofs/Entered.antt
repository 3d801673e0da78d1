-- A route whose signal fell behind the head of a train has a train that has entered.
use Rattle.std.proofs.Common.{◌≡◌, ◌≢◌, ◌⊎◌, inl, inr, ℕ, ◌+◌, ◌==◌, ◌<◌, Bool, true, false, not, ◌&&◌}
use Rattle.std.proofs.Common.{Option, Some, None, List, length, refl, sym, ◌∙◌, ap, arith, subst}
use Rattle.std.proofs.lemmas.Bool.{cases_eq, lt-ltb, ne_eqb}
use Rattle.std.proofs.lemmas.Option.{slice_get_within}
use Rattle.std.specs.Option.{option_map, option_map_or}
use Rattle.std.specs.Prelude.{if◌then◌else◌, is_some, map, nat_lt, slice_get, slice_set}
use Rattle.srcp_routes.specs.Conflicts.{are_free, is_taken}
use Rattle.srcp_routes.specs.Plan.{Table, stage_at, train_at, wanted_at}
use Rattle.srcp_routes.specs.Runs.{Run, goes_now, head_heard, is_go, lies_at}
use Rattle.srcp_routes.specs.Stages.{after_reply, count_of, falls, is_held, lost_stage, order_of, ready_stage}
use Rattle.srcp_routes.specs.Stages.{retried_stage, show_setting, stop_setting, turnout_at}
use Rattle.srcp_routes.specs.Steps.{answered, due, heard, may_begin, ready_at, ready_in, sent, stage_replied}
use Rattle.srcp_routes.specs.Trains.{has_entered, lets_go}
use Rattle.srcp_routes.specs.declared.interlocking.Event.{Event}
use Rattle.srcp_routes.specs.declared.interlocking.Event.TheVariants.{Ask, Give, Told, Second, Reply, Lost}
use Rattle.srcp_routes.specs.declared.route.Order.{Order}
use Rattle.srcp_routes.specs.declared.route.Order.TheVariants as order
use Rattle.srcp_routes.specs.declared.route.Route.{Route}
use Rattle.srcp_routes.specs.declared.route.Setting.{Setting}
use Rattle.srcp_routes.specs.declared.route.Signal.{Signal}
use Rattle.srcp_routes.specs.declared.stage.Stage.{Stage}
use Rattle.srcp_routes.specs.declared.stage.Stage.TheVariants as stage
use Rattle.srcp_routes.specs.declared.train.Train.{Train}
use Rattle.srcp_routes.proofs.Apart.{stage_at-set, stage_at-set_same, stage_at-start}
use Rattle.srcp_routes.proofs.Falls.{has_fallen}
use Rattle.srcp_routes.proofs.Followed.{AllFollowed, train_of}
use Rattle.srcp_routes.proofs.Pending.{Fits, Sends, due_sends}
use Rattle.srcp_routes.proofs.Well.{AllWell, next_well, well}

-- ---- the order that lets a train go

no_go : {X : Type 0} (f : X → Order) (x : Option X) (routes : List Route) (n : ℕ) (o : Order)
    → ((y : X) → is_go routes n (Some (f y)) ≡ false) → option_map f x ≡ Some o → is_go routes n (Some o) ≡ false
no_go f None routes n o each e = absurd (cc)
no_go f (Some y) routes n o each e = ap (is_go routes n) (sym e) ∙ each y

show_goes : (x : Option Signal) (routes : List Route) (n : ℕ) (o : Order)
    → option_map (λ signal. order.Show (show_setting signal)) x ≡ Some o → is_go routes n (Some o) ≡ true
show_goes None routes n o e = absurd (cc)
show_goes (Some signal) routes n o e = ap (is_go routes n) (sym e)

report_goes : (routes : List Route) (n : ℕ) (route : Route) (o : Order) → slice_get routes n ≡ Some route
    → Some (order.Report route.number true) ≡ Some o → is_go routes n (Some o) ≡ not (is_some route.signal)
report_goes routes n route o is e = ap (is_go routes n) (sym e)
    ∙ ap (λ (x : Option Route). not (option_map_or (λ (a : Route). is_some a.signal) x false)) is

pub go_is : (routes : List Route) (n : ℕ) (route : Route) (s : Stage) (o : Order) → slice_get routes n ≡ Some route
    → well route s ≡ true → order_of route s ≡ Some o → is_go routes n (Some o) ≡ lets_go route s
go_is routes n route stage.Showing o is good e = show_goes route.signal routes n o e
go_is routes n route stage.Reporting o is good e = report_goes routes n route o is e
go_is routes n route (stage.Fallen false) o is good e = report_goes routes n route o is e ∙ ap (λ (b : Bool). not b) good
go_is routes n route (stage.Falling told) o is good e =
    no_go (λ signal. order.Stop (stop_setting signal)) route.signal routes n o (λ y. refl) e
go_is routes n route stage.Clearing o is good e =
    no_go (λ signal. order.Stop (stop_setting signal)) route.signal routes n o (λ y. refl) e
go_is routes n route stage.Stopping o is good e =
    no_go (λ signal. order.Stop (stop_setting signal)) route.signal routes n o (λ y. refl) e
go_is routes n route (stage.Locking done) o is good e =
    no_go (λ (x : Setting). order.Lock x.device) (turnout_at route done) routes n o (λ y. refl) e
go_is routes n route (stage.Throwing done) o is good e =
    no_go order.Throw (turnout_at route done) routes n o (λ y. refl) e
go_is routes n route (stage.Unlocking left) o is good e =
    no_go (λ (x : Setting). order.Unlock x.device) (turnout_at route left) routes n o (λ y. refl) e
go_is routes n route stage.Closing o is good e = ap (is_go routes n) (sym e)
go_is routes n route stage.Hiding o is good e = ap (is_go routes n) (sym e)
go_is routes n route other o is good e = absurd (cc)

pub and_off : (a b : Bool) → b ≡ false → (a && b) ≡ false
and_off true b e = e
and_off false b e = refl

-- the stage in which a route sends its order is one that it can come to
pub well_at : (routes : List Route) (t : Table) (n : ℕ) → Fits routes t → AllWell t.routes t.stages → (sends : Sends t n)
    → well sends.route (ready_at t n) ≡ true
well_at routes t n fits good sends =
    let within : n < length t.stages =
    omega (arith, slice_get_within t.routes n sends.route sends.is, fits.stages, ap length fits.plan) in
    subst (λ (s : Stage). well sends.route s ≡ true) (stage_at-set_same t.stages n (ready_at t n) within)
    (next_well t false (Some n) good n sends.route sends.is)

-- ---- what was known before

-- the train of each route whose signal fell has entered
abbrev pub AllEntered : List Route → List Stage → (ℕ → ℕ) → Type 0
AllEntered routes stages head = (n : ℕ) (route : Route) → slice_get routes n ≡ Some route
    → has_fallen (stage_at stages n) ≡ true → nat_lt 0 (head n) ≡ true

left_fallen : (left : ℕ) (P : Type 0) (none : Bool)
    → has_fallen (if none then stage.Idle else stage.Unlocking left) ≡ true → P
left_fallen left P true h = absurd (cc)
left_fallen left P false h = absurd (cc)

leaving_fallen : (P : Type 0) (x : Option Signal)
    → has_fallen (option_map_or (λ signal. stage.Stopping) x stage.Hiding) ≡ true → P
leaving_fallen P None h = absurd (cc)
leaving_fallen P (Some signal) h = absurd (cc)

locking_fallen : (done : ℕ) (P : Type 0) (more : Bool)
    → has_fallen (if more then stage.Locking (done + 1) else stage.Throwing 0) ≡ true → P
locking_fallen done P true h = absurd (cc)
locking_fallen done P false h = absurd (cc)

throwing_fallen : (done : ℕ) (P : Type 0) (more : Bool) (x : Option Signal)
    → has_fallen (if more then stage.Throwing (done + 1) else option_map_or (λ signal. stage.Ready) x stage.Reporting) ≡ true
    → P
throwing_fallen done P true x h = absurd (cc)
throwing_fallen done P false None h = absurd (cc)
throwing_fallen done P false (Some signal) h = absurd (cc)

first_fallen : (P : Type 0) (none : Bool) (x : Option Signal)
    → has_fallen (if none then option_map_or (λ signal. stage.Showing) x stage.Reporting else stage.Locking 0) ≡ true → P
first_fallen P true None h = absurd (cc)
first_fallen P true (Some signal) h = absurd (cc)
first_fallen P false x h = absurd (cc)

fallen_held : (s : Stage) → has_fallen s ≡ true → is_held s ≡ true
fallen_held (stage.Falling told) h = refl
fallen_held (stage.Fallen told) h = refl
fallen_held other h = absurd (cc)

retried_fallen : (s : Stage) → has_fallen (retried_stage s) ≡ true → has_fallen s ≡ true
retried_fallen stage.Blocked h = absurd (cc)
retried_fallen stage.Stuck h = absurd (cc)
retried_fallen other h = h

reply_fallen : (route : Route) (s : Stage) (ok : Bool) → has_fallen (after_reply route s ok) ≡ true → has_fallen s ≡ true
reply_fallen route (stage.Falling told) ok h = refl
reply_fallen route (stage.Fallen told) ok h = refl
reply_fallen route (stage.Locking done) true h = locking_fallen done _ (nat_lt (done + 1) (count_of route)) h
reply_fallen route (stage.Locking done) false h = left_fallen _ _ (done == 0) h
reply_fallen route (stage.Throwing done) true h =
    throwing_fallen done _ (nat_lt (done + 1) (count_of route)) route.signal h
reply_fallen route (stage.Throwing done) false h = absurd (cc)
reply_fallen route (stage.Unlocking left) true h = left_fallen _ _ (left == 0) h
reply_fallen route (stage.Unlocking left) false h = left_fallen _ _ (left == 0) h
reply_fallen route stage.Hiding true h = left_fallen _ _ (count_of route == 0) h
reply_fallen route stage.Hiding false h = left_fallen _ _ (count_of route == 0) h
reply_fallen route stage.Reporting true h = absurd (cc)
reply_fallen route stage.Reporting false h = leaving_fallen _ route.signal h
reply_fallen route other true h = absurd (cc)
reply_fallen route other false h = absurd (cc)

ready_fallen : (route : Route) (wanted free begins : Bool) (s : Stage)
    → has_fallen (ready_stage route wanted free begins s) ≡ true → has_fallen s ≡ true
ready_fallen route wanted free true stage.Idle h = first_fallen _ (count_of route == 0) route.signal h
ready_fallen route wanted free false stage.Idle h = absurd (cc)
ready_fallen route wanted free begins stage.Showing h = absurd (cc)
ready_fallen route true true begins stage.Ready h = absurd (cc)
ready_fallen route true false begins stage.Ready h = absurd (cc)
ready_fallen route true free begins other h = h
ready_fallen route false free begins (stage.Locking done) h = left_fallen _ _ (done == 0) h
ready_fallen route false free begins (stage.Throwing done) h = absurd (cc)
ready_fallen route false free begins stage.Ready h = absurd (cc)
ready_fallen route false free begins stage.Reporting h = leaving_fallen _ route.signal h
ready_fallen route false free begins stage.Set h = leaving_fallen _ route.signal h
ready_fallen route false free begins (stage.Fallen told) h = refl
ready_fallen route false free begins other h = h

-- the stage at one place changes, and no other train goes back
set_entered : (routes : List Route) (stages : List Stage) (i : ℕ) (s : Stage) (head later : ℕ → ℕ)
    → length stages ≡ length routes → ((m : ℕ) → m ≢ i → nat_lt 0 (head m) ≡ true → nat_lt 0 (later m) ≡ true)
    → ((route : Route) → slice_get routes i ≡ Some route → has_fallen s ≡ true → nat_lt 0 (later i) ≡ true)
    → AllEntered routes stages head → AllEntered routes (slice_set stages i s) later
set_entered routes stages i s head later long others here all n route is h = elim (cases_eq n i) [
  | inl same ↦
      let within : i < length stages = omega (arith, slice_get_within routes n route is, long, same) in
      let now : has_fallen s ≡ true = subst (λ (z : Stage). has_fallen z ≡ true) (stage_at-set_same stages i s within)
      (subst (λ (m : ℕ). has_fallen (stage_at (slice_set stages i s) m) ≡ true) same h) in
      subst (λ (m : ℕ). nat_lt 0 (later m) ≡ true) (sym same)
      (here route (subst (λ (m : ℕ). slice_get routes m ≡ Some route) same is) now)
  | inr differ ↦ elim (stage_at-set stages i s n) [
    | inl p ↦ absurd (differ p.0)
    | inr e ↦ others n differ (all n route is (subst (λ (z : Stage). has_fallen z ≡ true) e h))
  ]
]

-- ---- once an event came

answer_entered : (routes : List Route) (t : Table) (head : ℕ → ℕ) (ok : Bool) (x : Option ℕ) → Fits routes t
    → AllEntered t.routes t.stages head
    → AllEntered (option_map_or (answered t ok) x t).routes (option_map_or (answered t ok) x t).stages head
answer_entered routes t head ok None fits all = all
answer_entered routes t head ok (Some n) fits all =
    set_entered t.routes t.stages n (stage_replied t n ok) head head (fits.stages ∙ ap length (sym fits.plan))
    (λ m differ h. h)
    (λ route is h. all n route is (reply_fallen route (stage_at t.stages n) ok
    (subst (λ (x : Option Route).
    has_fallen (option_map_or (λ (a : Route). after_reply a (stage_at t.stages n) ok) x stage.Idle) ≡ true) is h))) all

pub start_entered : (routes : List Route) (head : ℕ → ℕ) → AllEntered routes (map lost_stage routes) head
start_entered routes head = λ n route is h.
    let not : is_held (stage_at (map lost_stage routes) n) ≡ false = stage_at-start routes n in
    let held : is_held (stage_at (map lost_stage routes) n) ≡ true = fallen_held _ h in
    absurd (cc)

goes_on : (up : Bool) (head : ℕ) → nat_lt 0 head ≡ true → nat_lt 0 (if up then head + 1 else head) ≡ true
goes_on true head h = lt-ltb 0 (head + 1) (omega arith)
goes_on false head h = h

pub heard_entered : (routes : List Route) (r : Run) (event : Event) → Fits routes r.table
    → AllEntered r.table.routes r.table.stages r.head
    → AllEntered (heard r.table event).routes (heard r.table event).stages (head_heard r event)
heard_entered routes r (Ask n) fits all = all
heard_entered routes r (Give n) fits all =
    set_entered r.table.routes r.table.stages n (retried_stage (stage_at r.table.stages n)) r.head r.head
    (fits.stages ∙ ap length (sym fits.plan)) (λ m differ h. h)
    (λ route is h. all n route is (retried_fallen (stage_at r.table.stages n) h)) all
heard_entered routes r (Told sensor now) fits all = λ n route is h.
    goes_on (is_taken now && lies_at r.table.routes n (r.head n) sensor) (r.head n) (all n route is h)
heard_entered routes r (Reply ok) fits all = answer_entered routes r.table r.head ok r.table.waiting fits all
heard_entered routes r Second fits all = all
heard_entered routes r Lost fits all = start_entered r.table.routes r.head

-- ---- the next order

-- the signal of a route falls now, or fell before
falling : (route : Route) (entered : Bool) (s : Stage) → has_fallen (falls route entered s) ≡ true
    → (has_fallen s ≡ true) ⊎ (entered ≡ true)
falling route true s h = inr refl
falling route false s h = inl h

fallen_stays : (route : Route) (s : Stage) → has_fallen s ≡ true → lets_go route s ≡ false
fallen_stays route (stage.Falling told) h = refl
fallen_stays route (stage.Fallen told) h = refl
fallen_stays route other h = absurd (cc)

head_of : (let_go : Bool) (head tail : ℕ) → has_entered (train_of let_go head tail) ≡ true → nat_lt 0 head ≡ true
head_of true head tail h = h
head_of false head tail h = absurd (cc)

same_head : (goes : Bool) (head : ℕ) → goes ≡ false → nat_lt 0 head ≡ true → nat_lt 0 (if goes then 0 else head) ≡ true
same_head true head e h = absurd (cc)
same_head false head e h = h

not_now : (go here : Bool) → go ≡ false → (go && here) ≡ false
not_now true here e = absurd (cc)
not_now false here e = refl

fallen_here : (t : Table) (n : ℕ) (route : Route) (let_go : ℕ → Bool) (head tail : ℕ → ℕ)
    → slice_get t.routes n ≡ Some route → AllFollowed t let_go head tail → AllEntered t.routes t.stages head
    → has_fallen (ready_in t n route) ≡ true → nat_lt 0 (head n) ≡ true
fallen_here t n route let_go head tail is trains all h = elim (falling route (has_entered (train_at t.trains n))
    (ready_stage route (wanted_at t.wanted n) (are_free t.sensors route.blocks.items)
    (may_begin t n (are_free t.sensors route.blocks.items)) (stage_at t.stages n)) h) [
      | inl before ↦ all n route is (ready_fallen route (wanted_at t.wanted n) (are_free t.sensors route.blocks.items)
          (may_begin t n (are_free t.sensors route.blocks.items)) (stage_at t.stages n) before)
      | inr entered ↦ head_of (let_go n) (head n) (tail n)
          (subst (λ (x : Option Train). has_entered x ≡ true) (trains n route is) entered)
    ]

-- how many sections the trains have entered once an order is sent
abbrev pub sent_head : List Route → Option Order → Option ℕ → (ℕ → ℕ) → ℕ → ℕ
sent_head routes o w head n = if goes_now routes o w n then 0 else head n

sent_entered : (routes : List Route) (t : Table) (n : ℕ) (let_go : ℕ → Bool) (head tail : ℕ → ℕ) → Fits routes t
    → AllWell t.routes t.stages → (sends : Sends t n) → AllFollowed t let_go head tail
    → AllEntered t.routes t.stages head
    → AllEntered t.routes (slice_set t.stages n (ready_at t n)) (sent_head t.routes (Some sends.order) (Some n) head)
sent_entered routes t n let_go head tail fits good sends trains all =
    set_entered t.routes t.stages n (ready_at t n) head (sent_head t.routes (Some sends.order) (Some n) head)
    (fits.stages ∙ ap length (sym fits.plan))
    (λ m differ h. same_head (goes_now t.routes (Some sends.order) (Some n) m) (head m)
    (and_off (is_go t.routes m (Some sends.order)) (m == n) (ne_eqb m n differ)) h)
    (λ route is h.
    let ready : has_fallen (ready_in t n route) ≡ true =
    subst (λ (x : Option Route). has_fallen (option_map_or (ready_in t n) x stage.Idle) ≡ true) is h in
    same_head (goes_now t.routes (Some sends.order) (Some n) n) (head n)
    (not_now (is_go t.routes n (Some sends.order)) (n == n)
    (go_is t.routes n sends.route (ready_at t n) sends.order sends.is (well_at routes t n fits good sends) sends.orders
    ∙ fallen_stays sends.route (ready_at t n) h))
    (fallen_here t n route let_go head tail is trains all ready)) all

pub next_entered : (routes : List Route) (t : Table) (let_go : ℕ → Bool) (head tail : ℕ → ℕ) (waits : Bool) (d : Option ℕ)
    → due t ≡ d → Fits routes t → AllWell t.routes t.stages → AllFollowed t let_go head tail
    → AllEntered t.routes t.stages head
    → AllEntered (if waits then record { table = t; order = None } else sent t d).table.routes
    (if waits then record { table = t; order = None } else sent t d).table.stages
    (sent_head t.routes (if waits then record { table = t; order = None } else sent t d).order
    (if waits then record { table = t; order = None } else sent t d).table.waiting head)
next_entered routes t let_go head tail true d is fits good trains all = all
next_entered routes t let_go head tail false None is fits good trains all = all
next_entered routes t let_go head tail false (Some n) is fits good trains all =
    let sends : Sends t n = due_sends t n is in
    subst (λ (x : Option Order). AllEntered t.routes (slice_set t.stages n (ready_at t n))
    (sent_head t.routes x (Some n) head)) (sym sends.sent)
    (sent_entered routes t n let_go head tail fits good sends trains all)
