-- A route whose turnouts are thrown by its stage has thrown them since they were locked.
use Rattle.std.proofs.Common.{◌≡◌, ◌⊎◌, inl, inr, ℕ, ◌+◌, ◌==◌, ◌<◌, Bool, true, false, ◌&&◌}
use Rattle.std.proofs.Common.{Option, Some, None, List, refl, sym, ◌∙◌, ap, arith, subst}
use Rattle.std.proofs.lemmas.Bool.{and_from, eq-eqb, eqb-true, ltb-true, or_left, or_right}
use Rattle.std.proofs.lemmas.Option.{slice_get_within}
use Rattle.std.specs.Option.{option_map, option_map_or}
use Rattle.std.specs.Prelude.{if◌then◌else◌, map, nat_lt, slice_get, slice_set}
use Rattle.srcp_routes.specs.Conflicts.{is_same}
use Rattle.srcp_routes.specs.Plan.{Table, stage_at}
use Rattle.srcp_routes.specs.Runs.{Run, Throws, heard_of, is_setting, put}
use Rattle.srcp_routes.specs.Stages.{after_reply, count_of, is_held, lost_stage, order_of, ready_stage, retried_stage}
use Rattle.srcp_routes.specs.Stages.{turnout_at}
use Rattle.srcp_routes.specs.Steps.{answered, heard, stage_replied}
use Rattle.srcp_routes.specs.declared.interlocking.Event.{Event}
use Rattle.srcp_routes.specs.declared.interlocking.Event.TheVariants.{Ask, Give, Told, Second, Reply, Lost}
use Rattle.srcp_routes.specs.declared.route.Order.{Order}
use Rattle.srcp_routes.specs.declared.route.Order.TheVariants as order
use Rattle.srcp_routes.specs.declared.route.Route.{Route}
use Rattle.srcp_routes.specs.declared.route.Setting.{Setting}
use Rattle.srcp_routes.specs.declared.route.Signal.{Signal}
use Rattle.srcp_routes.specs.declared.stage.Stage.{Stage}
use Rattle.srcp_routes.specs.declared.stage.Stage.TheVariants as stage
use Rattle.srcp_routes.proofs.Apart.{stage_at-set, stage_at-start}
use Rattle.srcp_routes.proofs.Locks.{locked_last, locked_next, same_self}
use Rattle.srcp_routes.proofs.Pending.{Pends, PendsAt, replied_none, replied_some, replied_to}

-- at this stage the turnout at a place is thrown
abbrev pub has_thrown : Stage → ℕ → Bool
has_thrown (stage.Throwing done) k = nat_lt k done
has_thrown stage.Ready k = true
has_thrown stage.Showing k = true
has_thrown stage.Reporting k = true
has_thrown stage.Set k = true
has_thrown stage.Stopping k = true
has_thrown stage.Stuck k = true
has_thrown (stage.Falling told) k = true
has_thrown (stage.Fallen told) k = true
has_thrown other k = false

-- each turnout that is thrown at the stage of its route is thrown
abbrev pub AllThrown : List Route → List Stage → Throws → Type 0
AllThrown routes stages thrown = (n : ℕ) (route : Route) (k : ℕ) (turnout : Setting) → slice_get routes n ≡ Some route
    → turnout_at route k ≡ Some turnout → has_thrown (stage_at stages n) k ≡ true → thrown n turnout ≡ true

thrown_held : (s : Stage) (k : ℕ) → has_thrown s k ≡ true → is_held s ≡ true
thrown_held stage.Idle k h = absurd (cc)
thrown_held stage.Clearing k h = absurd (cc)
thrown_held stage.Blocked k h = absurd (cc)
thrown_held stage.Closing k h = absurd (cc)
thrown_held other k h = refl

retried_thrown : (s : Stage) (k : ℕ) → has_thrown (retried_stage s) k ≡ true → has_thrown s k ≡ true
retried_thrown stage.Blocked k h = absurd (cc)
retried_thrown stage.Stuck k h = refl
retried_thrown other k h = h

-- one more turnout is thrown
thrown_all : (signal : Option Signal) (k : ℕ)
    → has_thrown (option_map_or (λ x. stage.Ready) signal stage.Reporting) k ≡ true
thrown_all None k = refl
thrown_all (Some signal) k = refl

throwing_thrown : (signal : Option Signal) (done k count : ℕ) (more : Bool) → nat_lt (done + 1) count ≡ more → k < count
    → has_thrown (if more then stage.Throwing (done + 1) else option_map_or (λ x. stage.Ready) signal stage.Reporting) k ≡ true
    → (nat_lt k done ≡ true) ⊎ (k ≡ done)
throwing_thrown signal done k count true more lt h = locked_next k done h
throwing_thrown signal done k count false more lt h = locked_last k done count more lt

-- a turnout was just thrown
just_thrown : (route : Route) (k done : ℕ) (turnout : Setting) (o : Order) → k ≡ done → turnout_at route k ≡ Some turnout
    → option_map order.Throw (turnout_at route done) ≡ Some o → o ≡ order.Throw turnout
just_thrown route k done turnout o e at orders =
    let here : turnout_at route done ≡ Some turnout = subst (λ (i : ℕ). turnout_at route i ≡ Some turnout) e at in
    let is : Some (order.Throw turnout) ≡ Some o =
    subst (λ (x : Option Setting). option_map order.Throw x ≡ Some o) here orders in
    cc

left_thrown : (left k : ℕ) (X : Type 0) (none : Bool)
    → has_thrown (if none then stage.Idle else stage.Unlocking left) k ≡ true → X
left_thrown left k X true h = absurd (cc)
left_thrown left k X false h = absurd (cc)

locking_thrown : (done k : ℕ) (X : Type 0) (more : Bool)
    → has_thrown (if more then stage.Locking (done + 1) else stage.Throwing 0) k ≡ true → X
locking_thrown done k X true h = absurd (cc)
locking_thrown done k X false h = absurd (omega (arith, ltb-true k 0 h))

-- after the reply a turnout is thrown that was, or whose throw was accepted
reply_thrown : (route : Route) (s : Stage) (o : Order) (ok : Bool) (k : ℕ) (turnout : Setting)
    → order_of route s ≡ Some o → turnout_at route k ≡ Some turnout → has_thrown (after_reply route s ok) k ≡ true
    → (has_thrown s k ≡ true) ⊎ ((ok ≡ true) × (o ≡ order.Throw turnout))
reply_thrown route stage.Idle o ok k turnout orders at h = absurd (cc)
reply_thrown route stage.Clearing o true k turnout orders at h = absurd (cc)
reply_thrown route stage.Clearing o false k turnout orders at h = absurd (cc)
reply_thrown route stage.Blocked o ok k turnout orders at h = absurd (cc)
reply_thrown route stage.Closing o true k turnout orders at h = absurd (cc)
reply_thrown route stage.Closing o false k turnout orders at h = absurd (cc)
reply_thrown route (stage.Locking done) o true k turnout orders at h =
    locking_thrown done k _ (nat_lt (done + 1) (count_of route)) h
reply_thrown route (stage.Locking done) o false k turnout orders at h = left_thrown _ k _ (done == 0) h
reply_thrown route (stage.Throwing done) o true k turnout orders at h =
    elim (throwing_thrown route.signal done k (count_of route) (nat_lt (done + 1) (count_of route)) refl
    (slice_get_within route.turnouts.items k turnout at) h) [
      | inl lower ↦ inl lower
      | inr e ↦ inr (refl, just_thrown route k done turnout o e at orders)
    ]
reply_thrown route (stage.Throwing done) o false k turnout orders at h = absurd (cc)
reply_thrown route (stage.Unlocking left) o true k turnout orders at h = left_thrown _ k _ (left == 0) h
reply_thrown route (stage.Unlocking left) o false k turnout orders at h = left_thrown _ k _ (left == 0) h
reply_thrown route stage.Hiding o true k turnout orders at h = left_thrown _ k _ (count_of route == 0) h
reply_thrown route stage.Hiding o false k turnout orders at h = left_thrown _ k _ (count_of route == 0) h
reply_thrown route other o ok k turnout orders at h = inl refl

-- as a route becomes ready no turnout is thrown that was not
first_thrown : (k count : ℕ) (none : Bool) (signal : Option Signal) → (count == 0) ≡ none → k < count
    → has_thrown (if none then option_map_or (λ x. stage.Showing) signal stage.Reporting else stage.Locking 0) k ≡ true
    → false ≡ true
first_thrown k count true signal none lt h = let e : count ≡ 0 = eqb-true count 0 none in absurd (omega arith)
first_thrown k count false signal none lt h = h

pub ready_thrown : (route : Route) (wanted free begins : Bool) (s : Stage) (k : ℕ) (turnout : Setting)
    → turnout_at route k ≡ Some turnout → has_thrown (ready_stage route wanted free begins s) k ≡ true
    → has_thrown s k ≡ true
ready_thrown route wanted free true stage.Idle k turnout at h = first_thrown k (count_of route) (count_of route == 0)
    route.signal refl (slice_get_within route.turnouts.items k turnout at) h
ready_thrown route wanted free false stage.Idle k turnout at h = absurd (cc)
ready_thrown route true free begins stage.Clearing k turnout at h = h
ready_thrown route false free begins stage.Clearing k turnout at h = h
ready_thrown route true free begins stage.Blocked k turnout at h = h
ready_thrown route false free begins stage.Blocked k turnout at h = h
ready_thrown route true free begins stage.Closing k turnout at h = h
ready_thrown route false free begins stage.Closing k turnout at h = h
ready_thrown route true free begins (stage.Locking done) k turnout at h = h
ready_thrown route false free begins (stage.Locking done) k turnout at h = left_thrown _ k _ (done == 0) h
ready_thrown route true free begins (stage.Throwing done) k turnout at h = h
ready_thrown route false free begins (stage.Throwing done) k turnout at h = absurd (cc)
ready_thrown route true free begins (stage.Unlocking left) k turnout at h = h
ready_thrown route false free begins (stage.Unlocking left) k turnout at h = h
ready_thrown route true free begins stage.Hiding k turnout at h = h
ready_thrown route false free begins stage.Hiding k turnout at h = h
ready_thrown route wanted free begins other k turnout at h = refl

-- the stage at one place changes, and turnouts are thrown
pub set_thrown : (routes : List Route) (stages : List Stage) (i : ℕ) (s : Stage) (thrown later : Throws)
    → ((n : ℕ) (x : Setting) → thrown n x ≡ true → later n x ≡ true)
    → ((route : Route) (k : ℕ) (turnout : Setting) → slice_get routes i ≡ Some route → turnout_at route k ≡ Some turnout
    → has_thrown s k ≡ true → later i turnout ≡ true)
    → AllThrown routes stages thrown → AllThrown routes (slice_set stages i s) later
set_thrown routes stages i s thrown later more here all n route k turnout is at h = elim (stage_at-set stages i s n) [
  | inl p ↦ subst (λ (m : ℕ). later m turnout ≡ true) (sym p.0)
      (here route k turnout (subst (λ (m : ℕ). slice_get routes m ≡ Some route) p.0 is) at
      (subst (λ (z : Stage). has_thrown z k ≡ true) p.1 h))
  | inr e ↦ more n turnout
      (all n route k turnout is at (subst (λ (z : Stage). has_thrown z k ≡ true) e h))
]

more_put : (thrown : Throws) (n : ℕ) (o : Order) (m : ℕ) (x : Setting) → thrown m x ≡ true → put thrown n o m x ≡ true
more_put thrown n (order.Throw setting) m x h = or_right ((m == n) && is_setting x setting) (thrown m x) h
more_put thrown n other m x h = h

setting_self : (x : Setting) → is_setting x x ≡ true
setting_self x = and_from (is_same x.device x.device) (x.port == x.port) (same_self x.device) (eq-eqb x.port x.port refl)

now_put : (thrown : Throws) (n : ℕ) (o : Order) (x : Setting) → o ≡ order.Throw x → put thrown n o n x ≡ true
now_put thrown n o x e = subst (λ (y : Order). put thrown n y n x ≡ true) (sym e)
    (or_left ((n == n) && is_setting x x) (thrown n x) (and_from (n == n) (is_setting x x) (eq-eqb n n refl) (setting_self x)))

-- what is thrown after the reply to the order of a route
abbrev put_if : Throws → ℕ → Order → Bool → Throws
put_if thrown n o ok = if ok then put thrown n o else thrown

more_put_if : (thrown : Throws) (n : ℕ) (o : Order) (ok : Bool) (m : ℕ) (x : Setting) → thrown m x ≡ true
    → put_if thrown n o ok m x ≡ true
more_put_if thrown n o true m x h = more_put thrown n o m x h
more_put_if thrown n o false m x h = h

now_put_if : (thrown : Throws) (n : ℕ) (o : Order) (ok : Bool) (x : Setting) → ok ≡ true → o ≡ order.Throw x
    → put_if thrown n o ok n x ≡ true
now_put_if thrown n o true x good e = now_put thrown n o x e
now_put_if thrown n o false x good e = absurd (cc)

answer_at : (t : Table) (last : Option Order) (thrown : Throws) (ok : Bool) (n : ℕ) (pends : PendsAt t last n)
    → AllThrown t.routes t.stages thrown
    → AllThrown t.routes (slice_set t.stages n (stage_replied t n ok)) (put_if thrown n pends.order ok)
answer_at t last thrown ok n pends all = set_thrown t.routes t.stages n (stage_replied t n ok) thrown
    (put_if thrown n pends.order ok) (more_put_if thrown n pends.order ok)
    (λ route k turnout is at h.
    let same : Some pends.route ≡ Some route = sym pends.is ∙ is in
    let here : pends.route ≡ route = cc in
    let orders : order_of route (stage_at t.stages n) ≡ Some pends.order =
    subst (λ (x : Route). order_of x (stage_at t.stages n) ≡ Some pends.order) here pends.orders in
    let later : has_thrown (after_reply route (stage_at t.stages n) ok) k ≡ true =
    subst (λ (x : Option Route).
    has_thrown (option_map_or (λ (a : Route). after_reply a (stage_at t.stages n) ok) x stage.Idle) k ≡ true) is h in
    elim (reply_thrown route (stage_at t.stages n) pends.order ok k turnout orders at later) [
      | inl before ↦ more_put_if thrown n pends.order ok n turnout (all n route k turnout is at before)
      | inr p ↦ now_put_if thrown n pends.order ok turnout p.0 p.1
    ]) all

answer_thrown : (t : Table) (last : Option Order) (thrown : Throws) (ok : Bool) (x : Option ℕ) → Pends t last x
    → AllThrown t.routes t.stages thrown
    → AllThrown (option_map_or (answered t ok) x t).routes (option_map_or (answered t ok) x t).stages
    (replied_to put thrown last x ok)
answer_thrown t last thrown ok None pends all =
    subst (λ (l : Throws). AllThrown t.routes t.stages l) (sym (replied_none put thrown last ok)) all
answer_thrown t last thrown ok (Some n) pends all =
    let now : replied_to put thrown last (Some n) ok ≡ put_if thrown n pends.order ok =
    ap (λ (x : Option Order). replied_to put thrown x (Some n) ok) pends.waits ∙ replied_some put thrown n pends.order ok in
    subst (λ (l : Throws). AllThrown (answered t ok n).routes (answered t ok n).stages l) (sym now)
    (answer_at t last thrown ok n pends all)

-- once an event came
pub heard_thrown : (r : Run) (event : Event) → Pends r.table r.order r.table.waiting
    → AllThrown r.table.routes r.table.stages r.thrown
    → AllThrown (heard r.table event).routes (heard r.table event).stages (heard_of put (λ m x. false) r.thrown r event)
heard_thrown r (Ask n) pends all = all
heard_thrown r (Give n) pends all =
    set_thrown r.table.routes r.table.stages n (retried_stage (stage_at r.table.stages n)) r.thrown r.thrown (λ m x h. h)
    (λ route k turnout is at h. all n route k turnout is at (retried_thrown (stage_at r.table.stages n) k h)) all
heard_thrown r (Told sensor on) pends all = all
heard_thrown r (Reply true) pends all = answer_thrown r.table r.order r.thrown true r.table.waiting pends all
heard_thrown r (Reply false) pends all = answer_thrown r.table r.order r.thrown false r.table.waiting pends all
heard_thrown r Second pends all = all
heard_thrown r Lost pends all = λ n route k turnout is at h.
    let not : is_held (stage_at (map lost_stage r.table.routes) n) ≡ false = stage_at-start r.table.routes n in
    let held : is_held (stage_at (map lost_stage r.table.routes) n) ≡ true = thrown_held _ k h in
    absurd (cc)

pub start_thrown : (routes : List Route) → AllThrown routes (map lost_stage routes) (λ m x. false)
start_thrown routes = λ n route k turnout is at h.
    let not : is_held (stage_at (map lost_stage routes) n) ≡ false = stage_at-start routes n in
    let held : is_held (stage_at (map lost_stage routes) n) ≡ true = thrown_held _ k h in
    absurd (cc)
