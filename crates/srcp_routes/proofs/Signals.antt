-- A signal that may show "go" is that of a route at a stage of which that is known.
use Rattle.std.proofs.Common.{◌≡◌, inl, inr, ℕ, zero, suc, ◌==◌, Bool, true, false, not, ◌&&◌}
use Rattle.std.proofs.Common.{Option, Some, None, List, [], ◌∷◌, refl, sym, ◌∙◌, ap, subst}
use Rattle.std.proofs.lemmas.Bool.{and_parts, eq-eqb, eqb-true, or_cases}
use Rattle.std.specs.Option.{option_map, option_map_or}
use Rattle.std.specs.Prelude.{if◌then◌else◌, is_some, map, slice_get, slice_set}
use Rattle.srcp_routes.specs.Conflicts.{are_free}
use Rattle.srcp_routes.specs.Plan.{Table, stage_at, wanted_at}
use Rattle.srcp_routes.specs.Runs.{Run, Signals, has_signal, heard_of, signals_sent, stopped}
use Rattle.srcp_routes.specs.Stages.{after_reply, lost_stage, order_of, ready_stage, retried_stage, show_setting}
use Rattle.srcp_routes.specs.Stages.{stop_setting, turnout_at}
use Rattle.srcp_routes.specs.Steps.{Stepped, answered, due, heard, may_begin, ready_at, ready_in, sent, stage_replied}
use Rattle.srcp_routes.specs.declared.interlocking.Event.{Event}
use Rattle.srcp_routes.specs.declared.interlocking.Event.TheVariants.{Ask, Give, Told, Second, Reply, Lost}
use Rattle.srcp_routes.specs.declared.route.Order.{Order}
use Rattle.srcp_routes.specs.declared.route.Order.TheVariants as order
use Rattle.srcp_routes.specs.declared.route.Route.{Route}
use Rattle.srcp_routes.specs.declared.route.Setting.{Setting}
use Rattle.srcp_routes.specs.declared.route.Signal.{Signal}
use Rattle.srcp_routes.specs.declared.stage.Stage.{Stage}
use Rattle.srcp_routes.specs.declared.stage.Stage.TheVariants as stage
use Rattle.srcp_routes.proofs.Apart.{stage_at-set}
use Rattle.srcp_routes.proofs.Falls.{in_keeps}
use Rattle.srcp_routes.proofs.Pending.{Fits, Pends, PendsAt, Sends, due_sends, replied_none, replied_some, replied_to}
use Rattle.srcp_routes.proofs.Touched.{goes, no_order, sends_stage}

-- a route has a signal, and may show "go" by it
pub record GoesAt (lost : Bool) (route : Route) (s : Stage) : Type 0 where
  pub signal : is_some route.signal ≡ true
  pub goes : goes lost s ≡ true

-- each signal that may show "go" may do so at the stage of its route
abbrev pub AllGo : Bool → List Route → List Stage → Signals → Type 0
AllGo lost routes stages going = (n : ℕ) (route : Route) → slice_get routes n ≡ Some route → going n ≡ true
    → GoesAt lost route (stage_at stages n)

leaving_goes : (lost : Bool) (x : Option Signal) → is_some x ≡ true
    → goes lost (option_map_or (λ signal. stage.Stopping) x stage.Hiding) ≡ true
leaving_goes lost None some = absurd (cc)
leaving_goes lost (Some signal) some = refl

stop_off : (x : Option Signal) (o : Order) (going : Signals) (n : ℕ) (P : Type 0)
    → option_map (λ signal. order.Stop (stop_setting signal)) x ≡ Some o → stopped going n o n ≡ true → P
stop_off None o going n P orders h = absurd (cc)
stop_off (Some signal) o going n P orders h =
    let is : order.Stop (stop_setting signal) ≡ o = cc in
    let later : (not (n == n) && going n) ≡ true = subst (λ (y : Order). stopped going n y n ≡ true) (sym is) h in
    let same : (n == n) ≡ true = eq-eqb n n refl in
    let off : (not true && going n) ≡ true = subst (λ (b : Bool). (not b && going n) ≡ true) same later in
    absurd (cc)

-- the signals after the reply to the order of a route
abbrev stopped_if : Signals → ℕ → Order → Bool → Signals
stopped_if going n o ok = if ok then stopped going n o else going

reply_goes : (lost : Bool) (route : Route) (s : Stage) (o : Order) (ok : Bool) (going : Signals) (n : ℕ)
    → order_of route s ≡ Some o → GoesAt lost route s → stopped_if going n o ok n ≡ true
    → goes lost (after_reply route s ok) ≡ true
reply_goes lost route stage.Clearing o true going n orders at h = stop_off route.signal o going n _ orders h
reply_goes lost route stage.Clearing o false going n orders at h = at.goes
reply_goes lost route stage.Showing o true going n orders at h = refl
reply_goes lost route stage.Showing o false going n orders at h = refl
reply_goes lost route stage.Reporting o true going n orders at h = refl
reply_goes lost route stage.Reporting o false going n orders at h = leaving_goes lost route.signal at.signal
reply_goes lost route stage.Stopping o true going n orders at h = stop_off route.signal o going n _ orders h
reply_goes lost route (stage.Falling told) o true going n orders at h = stop_off route.signal o going n _ orders h
reply_goes lost route (stage.Falling told) o false going n orders at h = refl
reply_goes lost route stage.Stopping o false going n orders at h = refl
reply_goes lost route stage.Blocked o ok going n orders at h = absurd (cc)
reply_goes lost route stage.Set o ok going n orders at h = absurd (cc)
reply_goes lost route stage.Stuck o ok going n orders at h = absurd (cc)
reply_goes lost route other o ok going n orders at h = let no : false ≡ true = at.goes in absurd (cc)

pub ready_goes : (lost : Bool) (route : Route) (wanted free begins : Bool) (s : Stage) → GoesAt lost route s
    → goes lost (ready_stage route wanted free begins s) ≡ true
ready_goes lost route true free begins stage.Clearing at = at.goes
ready_goes lost route false free begins stage.Clearing at = at.goes
ready_goes lost route true free begins stage.Blocked at = at.goes
ready_goes lost route false free begins stage.Blocked at = at.goes
ready_goes lost route wanted free begins stage.Showing at = refl
ready_goes lost route true free begins stage.Reporting at = refl
ready_goes lost route false free begins stage.Reporting at = leaving_goes lost route.signal at.signal
ready_goes lost route true free begins stage.Set at = refl
ready_goes lost route false free begins stage.Set at = leaving_goes lost route.signal at.signal
ready_goes lost route true free begins (stage.Falling told) at = refl
ready_goes lost route false free begins (stage.Falling told) at = refl
ready_goes lost route true free begins stage.Stopping at = refl
ready_goes lost route false free begins stage.Stopping at = refl
ready_goes lost route true free begins stage.Stuck at = refl
ready_goes lost route false free begins stage.Stuck at = refl
ready_goes lost route wanted free begins other at = let no : false ≡ true = at.goes in absurd (cc)

retried_goes : (lost : Bool) (s : Stage) → goes lost s ≡ true → goes lost (retried_stage s) ≡ true
retried_goes lost stage.Blocked h = h
retried_goes lost stage.Stuck h = refl
retried_goes lost other h = h

-- the stage at one place changes, and signals are stopped
set_goes : (lost : Bool) (routes : List Route) (stages : List Stage) (i : ℕ) (s : Stage) (going later : Signals)
    → ((n : ℕ) → later n ≡ true → going n ≡ true)
    → ((route : Route) → slice_get routes i ≡ Some route → later i ≡ true → GoesAt lost route s)
    → AllGo lost routes stages going → AllGo lost routes (slice_set stages i s) later
set_goes lost routes stages i s going later less here all n route is h = elim (stage_at-set stages i s n) [
  | inl p ↦
      let at : GoesAt lost route s = here route (subst (λ (m : ℕ). slice_get routes m ≡ Some route) p.0 is)
      (subst (λ (m : ℕ). later m ≡ true) p.0 h) in
      record { signal = at.signal; goes = ap (goes lost) p.1 ∙ at.goes }
  | inr e ↦
      let at : GoesAt lost route (stage_at stages n) = all n route is (less n h) in
      record { signal = at.signal; goes = ap (goes lost) e ∙ at.goes }
]

stopped_less : (going : Signals) (n : ℕ) (o : Order) (m : ℕ) → stopped going n o m ≡ true → going m ≡ true
stopped_less going n (order.Stop setting) m h = (and_parts (not (m == n)) (going m) h).1
stopped_less going n other m h = h

stopped_if_less : (going : Signals) (n : ℕ) (o : Order) (ok : Bool) (m : ℕ) → stopped_if going n o ok m ≡ true
    → going m ≡ true
stopped_if_less going n o true m h = stopped_less going n o m h
stopped_if_less going n o false m h = h

answer_at : (lost : Bool) (t : Table) (last : Option Order) (going : Signals) (ok : Bool) (n : ℕ) (pends : PendsAt t last n)
    → AllGo lost t.routes t.stages going
    → AllGo lost t.routes (slice_set t.stages n (stage_replied t n ok)) (stopped_if going n pends.order ok)
answer_at lost t last going ok n pends all = set_goes lost t.routes t.stages n (stage_replied t n ok) going
    (stopped_if going n pends.order ok) (stopped_if_less going n pends.order ok)
    (λ route is h.
    let same : Some pends.route ≡ Some route = sym pends.is ∙ is in
    let here : pends.route ≡ route = cc in
    let orders : order_of route (stage_at t.stages n) ≡ Some pends.order =
    subst (λ (x : Route). order_of x (stage_at t.stages n) ≡ Some pends.order) here pends.orders in
    let at : GoesAt lost route (stage_at t.stages n) = all n route is (stopped_if_less going n pends.order ok n h) in
    record {
      signal = at.signal;
      goes = ap (λ (x : Option Route).
          goes lost (option_map_or (λ (a : Route). after_reply a (stage_at t.stages n) ok) x stage.Idle)) is
          ∙ reply_goes lost route (stage_at t.stages n) pends.order ok going n orders at h;
    }) all

answer_goes : (lost : Bool) (t : Table) (last : Option Order) (going : Signals) (ok : Bool) (x : Option ℕ) → Pends t last x
    → AllGo lost t.routes t.stages going
    → AllGo lost (option_map_or (answered t ok) x t).routes (option_map_or (answered t ok) x t).stages
    (replied_to stopped going last x ok)
answer_goes lost t last going ok None pends all =
    subst (λ (l : Signals). AllGo lost t.routes t.stages l) (sym (replied_none stopped going last ok)) all
answer_goes lost t last going ok (Some n) pends all =
    let now : replied_to stopped going last (Some n) ok ≡ stopped_if going n pends.order ok =
    ap (λ (x : Option Order). replied_to stopped going x (Some n) ok) pends.waits ∙ replied_some stopped going n pends.order ok in
    subst (λ (l : Signals). AllGo lost (answered t ok n).routes (answered t ok n).stages l) (sym now)
    (answer_at lost t last going ok n pends all)

given_goes : (lost : Bool) (t : Table) (n : ℕ) (going : Signals) → AllGo lost t.routes t.stages going
    → AllGo lost (heard t (Give n)).routes (heard t (Give n)).stages going
given_goes lost t n going all =
    set_goes lost t.routes t.stages n (retried_stage (stage_at t.stages n)) going going (λ m h. h)
    (λ route is h.
    let at : GoesAt lost route (stage_at t.stages n) = all n route is h in
    record { signal = at.signal; goes = retried_goes lost (stage_at t.stages n) at.goes }) all

-- as a session begins
lost_goes_at : (x : Option Signal) → is_some x ≡ true
    → goes true (option_map_or (λ signal. stage.Clearing) x stage.Closing) ≡ true
lost_goes_at None some = absurd (cc)
lost_goes_at (Some signal) some = refl

pub start_stage : (routes : List Route) (n : ℕ) (route : Route) → slice_get routes n ≡ Some route
    → stage_at (map lost_stage routes) n ≡ lost_stage route
start_stage [] n route is = absurd (cc)
start_stage (first ∷ routes) zero route is = let same : first ≡ route = cc in ap lost_stage same
start_stage (first ∷ routes) (suc n) route is = start_stage routes n route is

pub start_may_go : (routes : List Route) → AllGo true routes (map lost_stage routes) (has_signal routes)
start_may_go routes n route is h =
    let has : is_some route.signal ≡ true =
    subst (λ (x : Option Route). option_map_or (λ (a : Route). is_some a.signal) x false ≡ true) is h in
    record { signal = has; goes = ap (goes true) (start_stage routes n route is) ∙ lost_goes_at route.signal has }

pub heard_shown : (r : Run) (event : Event) → Pends r.table r.order r.table.waiting
    → AllGo false r.table.routes r.table.stages r.shown
    → AllGo false (heard r.table event).routes (heard r.table event).stages (heard_of stopped (λ m. false) r.shown r event)
heard_shown r (Ask n) pends all = all
heard_shown r (Give n) pends all = given_goes false r.table n r.shown all
heard_shown r (Told sensor on) pends all = all
heard_shown r (Reply true) pends all = answer_goes false r.table r.order r.shown true r.table.waiting pends all
heard_shown r (Reply false) pends all = answer_goes false r.table r.order r.shown false r.table.waiting pends all
heard_shown r Second pends all = all
heard_shown r Lost pends all = λ n route is h. absurd (cc)

pub heard_may_go : (r : Run) (event : Event) → Pends r.table r.order r.table.waiting → AllGo true r.table.routes r.table.stages r.may_go
    → AllGo true (heard r.table event).routes (heard r.table event).stages (heard_of stopped (has_signal r.table.routes) r.may_go r event)
heard_may_go r (Ask n) pends all = all
heard_may_go r (Give n) pends all = given_goes true r.table n r.may_go all
heard_may_go r (Told sensor on) pends all = all
heard_may_go r (Reply true) pends all = answer_goes true r.table r.order r.may_go true r.table.waiting pends all
heard_may_go r (Reply false) pends all = answer_goes true r.table r.order r.may_go false r.table.waiting pends all
heard_may_go r Second pends all = all
heard_may_go r Lost pends all = start_may_go r.table.routes

-- a route shows "go" by its signal
pub record Shows (route : Route) (s : Stage) (setting : Setting) : Type 0 where
  pub signal : Signal
  pub has : route.signal ≡ Some signal
  pub go : setting ≡ show_setting signal
  pub now : s ≡ stage.Showing

shows_by : (route : Route) (x : Option Signal) (setting : Setting) → route.signal ≡ x
    → option_map (λ signal. order.Show (show_setting signal)) x ≡ Some (order.Show setting)
    → Shows route stage.Showing setting
shows_by route None setting has e = absurd (cc)
shows_by route (Some signal) setting has e = record { signal = signal; has = has; go = cc; now = refl }

pub shows : (route : Route) (s : Stage) (setting : Setting) → order_of route s ≡ Some (order.Show setting)
    → Shows route s setting
shows route stage.Showing setting e = shows_by route route.signal setting refl e
shows route stage.Clearing setting e = no_order _ route.signal (order.Show setting) _ (λ y h. cc) e
shows route stage.Stopping setting e = no_order _ route.signal (order.Show setting) _ (λ y h. cc) e
shows route (stage.Falling told) setting e = no_order _ route.signal (order.Show setting) _ (λ y h. cc) e
shows route (stage.Fallen false) setting e = absurd (cc)
shows route (stage.Locking done) setting e =
    no_order (λ (x : Setting). order.Lock x.device) (turnout_at route done) (order.Show setting) _ (λ y h. cc) e
shows route (stage.Throwing done) setting e =
    no_order order.Throw (turnout_at route done) (order.Show setting) _ (λ y h. cc) e
shows route (stage.Unlocking left) setting e =
    no_order (λ (x : Setting). order.Unlock x.device) (turnout_at route left) (order.Show setting) _ (λ y h. cc) e
shows route other setting e = absurd (cc)

shows_goes : (lost : Bool) (route : Route) (s : Stage) (setting : Setting) → Shows route s setting → GoesAt lost route s
shows_goes lost route s setting shows =
    record { signal = ap (λ (x : Option Signal). is_some x) shows.has; goes = ap (goes lost) shows.now }

-- once the order of a route is sent
order_goes : (lost : Bool) (routes : List Route) (stages : List Stage) (n : ℕ) (route : Route) (o : Order)
    (going : Signals) → slice_get routes n ≡ Some route → order_of route (stage_at stages n) ≡ Some o
    → AllGo lost routes stages going → AllGo lost routes stages (signals_sent going (Some o) (Some n))
order_goes lost routes stages n route (order.Show setting) going is orders all = λ m other is' h.
    elim (or_cases (m == n) (going m) h) [
      | inl here ↦
          let same : m ≡ n = eqb-true m n here in
          let at : slice_get routes n ≡ Some other = subst (λ (i : ℕ). slice_get routes i ≡ Some other) same is' in
          let one : Some route ≡ Some other = sym is ∙ at in
          let two : route ≡ other = cc in
          let so : GoesAt lost route (stage_at stages n) =
          shows_goes lost route (stage_at stages n) setting (shows route (stage_at stages n) setting orders) in
          let there : GoesAt lost route (stage_at stages m) =
          subst (λ (i : ℕ). GoesAt lost route (stage_at stages i)) (sym same) so in
          subst (λ (x : Route). GoesAt lost x (stage_at stages m)) two there
      | inr before ↦ all m other is' before
    ]
order_goes lost routes stages n route other going is orders all = all

ready_all_go : (lost : Bool) (t : Table) (n : ℕ) (going : Signals) → AllGo lost t.routes t.stages going
    → AllGo lost t.routes (slice_set t.stages n (ready_at t n)) going
ready_all_go lost t n going all = set_goes lost t.routes t.stages n (ready_at t n) going going (λ m h. h)
    (λ route is h.
    let at : GoesAt lost route (stage_at t.stages n) = all n route is h in
    record {
      signal = at.signal;
      goes = ap (λ (x : Option Route). goes lost (option_map_or (ready_in t n) x stage.Idle)) is
          ∙ in_keeps (λ s. goes lost s ≡ true) t n route (λ some g. refl) (λ some g. refl)
          (ready_goes lost route (wanted_at t.wanted n) (are_free t.sensors route.blocks.items)
          (may_begin t n (are_free t.sensors route.blocks.items)) (stage_at t.stages n) at);
    }) all

-- once the next order is sent
abbrev pub StepGo : Bool → Signals → Stepped → Type 0
StepGo lost going s = AllGo lost s.table.routes s.table.stages (signals_sent going s.order s.table.waiting)

sent_goes : (lost : Bool) (routes : List Route) (t : Table) (going : Signals) (n : ℕ) → Fits routes t → Sends t n
    → AllGo lost t.routes t.stages going → StepGo lost going (sent t (Some n))
sent_goes lost routes t going n fits sends all =
    subst (λ (x : Option Order).
    AllGo lost t.routes (slice_set t.stages n (ready_at t n)) (signals_sent going x (Some n))) (sym sends.sent)
    (order_goes lost t.routes (slice_set t.stages n (ready_at t n)) n sends.route sends.order going sends.is
    (sends_stage routes t n fits sends) (ready_all_go lost t n going all))

pub next_goes : (lost : Bool) (routes : List Route) (t : Table) (going : Signals) (waits : Bool) (d : Option ℕ)
    → Fits routes t → due t ≡ d → AllGo lost t.routes t.stages going
    → StepGo lost going (if waits then record { table = t; order = None } else sent t d)
next_goes lost routes t going true d fits is all = all
next_goes lost routes t going false None fits is all = all
next_goes lost routes t going false (Some n) fits is all = sent_goes lost routes t going n fits (due_sends t n is) all
