-- A route that is told to be set is held, until it has told that it is not.
use Rattle.std.proofs.Common.{◌≡◌, ◌⊎◌, inl, inr, ℕ, ◌==◌, Bool, true, false, not, ◌&&◌}
use Rattle.std.proofs.Common.{Option, Some, None, List, refl, sym, ◌∙◌, ap, subst}
use Rattle.std.proofs.lemmas.Bool.{and_parts, eq-eqb, eqb-true, or_cases}
use Rattle.std.specs.Option.{option_map_or}
use Rattle.std.specs.Prelude.{if◌then◌else◌, slice_set}
use Rattle.srcp_routes.specs.Conflicts.{are_free}
use Rattle.srcp_routes.specs.Plan.{Table, stage_at, wanted_at}
use Rattle.srcp_routes.specs.Runs.{Run, Signals, hidden, told_heard, told_sent}
use Rattle.srcp_routes.specs.Stages.{after_reply, order_of, ready_stage, retried_stage, turnout_at}
use Rattle.srcp_routes.specs.Steps.{Stepped, answered, due, heard, may_begin, ready_at, ready_in, sent, stage_replied}
use Rattle.srcp_routes.specs.declared.interlocking.Event.{Event}
use Rattle.srcp_routes.specs.declared.interlocking.Event.TheVariants.{Ask, Give, Told, Second, Reply, Lost}
use Rattle.srcp_routes.specs.declared.route.Order.{Order}
use Rattle.srcp_routes.specs.declared.route.Order.TheVariants as order
use Rattle.srcp_routes.specs.declared.route.Route.{Route}
use Rattle.srcp_routes.specs.declared.route.Setting.{Setting}
use Rattle.srcp_routes.specs.declared.route.Signal.{Signal}
use Rattle.srcp_routes.specs.declared.stage.Stage.{Stage}
use Rattle.srcp_routes.specs.declared.stage.Stage.TheVariants as stage
use Rattle.srcp_routes.proofs.Apart.{stage_at-set}
use Rattle.srcp_routes.proofs.Falls.{in_keeps}
use Rattle.srcp_routes.proofs.Pending.{Fits, Pends, PendsAt, Sends, due_sends}
use Rattle.srcp_routes.proofs.Touched.{no_order, sends_stage}

-- at this stage a route is told to be set, and has not told since that it is not
abbrev pub is_reported : Stage → Bool
is_reported stage.Reporting = true
is_reported stage.Set = true
is_reported stage.Stopping = true
is_reported stage.Stuck = true
is_reported stage.Hiding = true
is_reported (stage.Falling told) = true
is_reported (stage.Fallen told) = true
is_reported other = false

-- each route that is told to be set is at such a stage
abbrev pub AllTold : List Stage → Signals → Type 0
AllTold stages told = (n : ℕ) → told n ≡ true → is_reported (stage_at stages n) ≡ true

-- a route is told to be set at the stage at which it reports so
pub tells : (route : Route) (s : Stage) (number : ℕ) → order_of route s ≡ Some (order.Report number true)
    → ((s ≡ stage.Reporting) ⊎ (s ≡ stage.Fallen false)) × (route.number ≡ number)
tells route stage.Reporting number e = (inl refl, cc)
tells route (stage.Fallen false) number e = (inr refl, cc)
tells route (stage.Falling told) number e = no_order _ route.signal (order.Report number true) _ (λ y h. cc) e
tells route stage.Clearing number e = no_order _ route.signal (order.Report number true) _ (λ y h. cc) e
tells route stage.Showing number e = no_order _ route.signal (order.Report number true) _ (λ y h. cc) e
tells route stage.Stopping number e = no_order _ route.signal (order.Report number true) _ (λ y h. cc) e
tells route (stage.Locking done) number e =
    no_order (λ (x : Setting). order.Lock x.device) (turnout_at route done) (order.Report number true) _ (λ y h. cc) e
tells route (stage.Throwing done) number e = no_order order.Throw (turnout_at route done) (order.Report number true) _ (λ y h. cc) e
tells route (stage.Unlocking left) number e =
    no_order (λ (x : Setting). order.Unlock x.device) (turnout_at route left) (order.Report number true) _ (λ y h. cc) e
tells route other number e = absurd (cc)

-- the stage at one place changes, and routes are told no more
set_told : (stages : List Stage) (i : ℕ) (s : Stage) (told later : Signals) → ((n : ℕ) → later n ≡ true → told n ≡ true)
    → (later i ≡ true → is_reported s ≡ true) → AllTold stages told → AllTold (slice_set stages i s) later
set_told stages i s told later less here all n h = elim (stage_at-set stages i s n) [
  | inl p ↦ ap is_reported p.1 ∙ here (subst (λ (m : ℕ). later m ≡ true) p.0 h)
  | inr e ↦ ap is_reported e ∙ all n (less n h)
]

leaving_reported : (x : Option Signal) → is_reported (option_map_or (λ signal. stage.Stopping) x stage.Hiding) ≡ true
leaving_reported None = refl
leaving_reported (Some signal) = refl

-- ---- the reply to an order

hidden_off : (number : ℕ) (o : Order) (told : Signals) (n : ℕ) (P : Type 0) → Some (order.Report number false) ≡ Some o
    → hidden told n o n ≡ true → P
hidden_off number o told n P orders h =
    let is : order.Report number false ≡ o = cc in
    let later : (not (n == n) && told n) ≡ true = subst (λ (y : Order). hidden told n y n ≡ true) (sym is) h in
    let same : (n == n) ≡ true = eq-eqb n n refl in
    let off : (not true && told n) ≡ true = subst (λ (b : Bool). (not b && told n) ≡ true) same later in
    absurd (cc)

hidden_less : (told : Signals) (n : ℕ) (o : Order) (m : ℕ) → hidden told n o m ≡ true → told m ≡ true
hidden_less told n (order.Report number false) m h = (and_parts (not (m == n)) (told m) h).1
hidden_less told n (order.Report number true) m h = h
hidden_less told n other m h = h

reply_reported : (route : Route) (s : Stage) (o : Order) (ok : Bool) (told : Signals) (n : ℕ) → order_of route s ≡ Some o
    → is_reported s ≡ true → hidden told n o n ≡ true → is_reported (after_reply route s ok) ≡ true
reply_reported route stage.Reporting o true told n orders at h = refl
reply_reported route stage.Reporting o false told n orders at h = leaving_reported route.signal
reply_reported route stage.Stopping o true told n orders at h = refl
reply_reported route stage.Stopping o false told n orders at h = refl
reply_reported route stage.Hiding o ok told n orders at h = hidden_off route.number o told n _ orders h
reply_reported route stage.Set o ok told n orders at h = absurd (cc)
reply_reported route (stage.Falling done) o true told n orders at h = refl
reply_reported route (stage.Falling done) o false told n orders at h = refl
reply_reported route (stage.Fallen false) o true told n orders at h = refl
reply_reported route (stage.Fallen false) o false told n orders at h = refl
reply_reported route (stage.Fallen true) o ok told n orders at h = absurd (cc)
reply_reported route stage.Stuck o ok told n orders at h = absurd (cc)
reply_reported route other o ok told n orders at h = let no : false ≡ true = at in absurd (cc)

answer_at : (t : Table) (last : Option Order) (told : Signals) (ok : Bool) (n : ℕ) (pends : PendsAt t last n)
    → AllTold t.stages told → AllTold (slice_set t.stages n (stage_replied t n ok)) (hidden told n pends.order)
answer_at t last told ok n pends all = set_told t.stages n (stage_replied t n ok) told (hidden told n pends.order)
    (hidden_less told n pends.order)
    (λ h. ap (λ (x : Option Route).
    is_reported (option_map_or (λ (a : Route). after_reply a (stage_at t.stages n) ok) x stage.Idle)) pends.is
    ∙ reply_reported pends.route (stage_at t.stages n) pends.order ok told n pends.orders
    (all n (hidden_less told n pends.order n h)) h) all

answer_told : (t : Table) (last : Option Order) (told : Signals) (ok : Bool) (x : Option ℕ) → Pends t last x
    → AllTold t.stages told → AllTold (option_map_or (answered t ok) x t).stages
    (option_map_or (λ n. option_map_or (hidden told n) last told) x told)
answer_told t last told ok None pends all = all
answer_told t last told ok (Some n) pends all =
    let now : option_map_or (hidden told n) last told ≡ hidden told n pends.order =
    ap (λ (x : Option Order). option_map_or (hidden told n) x told) pends.waits in
    subst (λ (l : Signals). AllTold (answered t ok n).stages l) (sym now) (answer_at t last told ok n pends all)

retried_reported : (s : Stage) → is_reported s ≡ true → is_reported (retried_stage s) ≡ true
retried_reported stage.Blocked h = absurd (cc)
retried_reported stage.Stuck h = refl
retried_reported other h = h

pub heard_told : (r : Run) (event : Event) → Pends r.table r.order r.table.waiting → AllTold r.table.stages r.told
    → AllTold (heard r.table event).stages (told_heard r event)
heard_told r (Ask n) pends all = all
heard_told r (Give n) pends all =
    set_told r.table.stages n (retried_stage (stage_at r.table.stages n)) r.told r.told (λ m h. h)
    (λ h. retried_reported (stage_at r.table.stages n) (all n h)) all
heard_told r (Told sensor now) pends all = all
heard_told r (Reply ok) pends all = answer_told r.table r.order r.told ok r.table.waiting pends all
heard_told r Second pends all = all
heard_told r Lost pends all = λ n h. absurd (cc)

-- ---- the next order

ready_reported : (route : Route) (wanted free begins : Bool) (s : Stage) → is_reported s ≡ true
    → is_reported (ready_stage route wanted free begins s) ≡ true
ready_reported route true free begins stage.Reporting h = refl
ready_reported route false free begins stage.Reporting h = leaving_reported route.signal
ready_reported route true free begins stage.Set h = refl
ready_reported route false free begins stage.Set h = leaving_reported route.signal
ready_reported route true free begins (stage.Falling told) h = refl
ready_reported route false free begins (stage.Falling told) h = refl
ready_reported route true free begins (stage.Fallen told) h = refl
ready_reported route false free begins (stage.Fallen told) h = refl
ready_reported route true free begins stage.Stopping h = refl
ready_reported route false free begins stage.Stopping h = refl
ready_reported route true free begins stage.Stuck h = refl
ready_reported route false free begins stage.Stuck h = refl
ready_reported route true free begins stage.Hiding h = refl
ready_reported route false free begins stage.Hiding h = refl
ready_reported route wanted free begins other h = let no : false ≡ true = h in absurd (cc)

tells_reported : (s : Stage) → (s ≡ stage.Reporting) ⊎ (s ≡ stage.Fallen false) → is_reported s ≡ true
tells_reported s (inl e) = ap is_reported e
tells_reported s (inr e) = ap is_reported e

order_told : (stages : List Stage) (n : ℕ) (route : Route) (o : Order) (told : Signals)
    → order_of route (stage_at stages n) ≡ Some o → AllTold stages told → AllTold stages (told_sent told (Some o) (Some n))
order_told stages n route (order.Report number true) told orders all = λ m h. elim (or_cases (m == n) (told m) h) [
  | inl here ↦
      ap (λ (i : ℕ). is_reported (stage_at stages i)) (eqb-true m n here)
      ∙ tells_reported (stage_at stages n) (tells route (stage_at stages n) number orders).0
  | inr before ↦ all m before
]
order_told stages n route (order.Report number false) told orders all = all
order_told stages n route other told orders all = all

ready_all_told : (t : Table) (n : ℕ) (told : Signals) (sends : Sends t n) → AllTold t.stages told
    → AllTold (slice_set t.stages n (ready_at t n)) told
ready_all_told t n told sends all = set_told t.stages n (ready_at t n) told told (λ m h. h)
    (λ h. ap (λ (x : Option Route). is_reported (option_map_or (ready_in t n) x stage.Idle)) sends.is
    ∙ in_keeps (λ s. is_reported s ≡ true) t n sends.route (λ some g. refl) (λ some g. refl)
    (ready_reported sends.route (wanted_at t.wanted n) (are_free t.sensors sends.route.blocks.items)
    (may_begin t n (are_free t.sensors sends.route.blocks.items)) (stage_at t.stages n) (all n h))) all

sent_told : (routes : List Route) (t : Table) (told : Signals) (n : ℕ) → Fits routes t → Sends t n → AllTold t.stages told
    → AllTold (sent t (Some n)).table.stages (told_sent told (sent t (Some n)).order (Some n))
sent_told routes t told n fits sends all =
    subst (λ (x : Option Order). AllTold (slice_set t.stages n (ready_at t n)) (told_sent told x (Some n))) (sym sends.sent)
    (order_told (slice_set t.stages n (ready_at t n)) n sends.route sends.order told (sends_stage routes t n fits sends)
    (ready_all_told t n told sends all))

-- once the next order is sent
abbrev pub StepTold : Signals → Stepped → Type 0
StepTold told s = AllTold s.table.stages (told_sent told s.order s.table.waiting)

pub next_told : (routes : List Route) (t : Table) (told : Signals) (waits : Bool) (d : Option ℕ) → Fits routes t
    → due t ≡ d → AllTold t.stages told
    → StepTold told (if waits then record { table = t; order = None } else sent t d)
next_told routes t told true d fits is all = all
next_told routes t told false None fits is all = all
next_told routes t told false (Some n) fits is all = sent_told routes t told n fits (due_sends t n is) all
