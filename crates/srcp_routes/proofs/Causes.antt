-- A lock that a route holds is that of one of its turnouts, and the stage of the route says that it may be held.
use Rattle.std.proofs.Common.{◌≡◌, ◌≢◌, ◌⊎◌, inl, inr, ℕ, ◌+◌, ◌==◌, Bool, true, false, not, ◌&&◌}
use Rattle.std.proofs.Common.{Option, Some, None, List, length, refl, sym, ◌∙◌, ap, subst}
use Rattle.std.proofs.lemmas.Bool.{and_parts, eqb-true, or_cases}
use Rattle.std.specs.Option.{option_map, option_map_or, option_or}
use Rattle.std.specs.Prelude.{if◌then◌else◌, nat_lt, slice_set}
use Rattle.srcp_routes.specs.Conflicts.{are_free, is_same}
use Rattle.srcp_routes.specs.Plan.{Table, stage_at, wanted_at}
use Rattle.srcp_routes.specs.Runs.{Locks, Run, granted, heard_of, locked_sent, order_heard}
use Rattle.srcp_routes.specs.Stages.{after_reply, count_of, order_of, retried_stage, turnout_at}
use Rattle.srcp_routes.specs.Steps.{Stepped, answered, heard, may_begin, order_at, ready_at, ready_in, sent, stage_replied}
use Rattle.srcp_routes.specs.declared.interlocking.Event.{Event}
use Rattle.srcp_routes.specs.declared.interlocking.Event.TheVariants.{Ask, Give, Told, Second, Reply, Lost}
use Rattle.srcp_routes.specs.declared.route.Device.{Device}
use Rattle.srcp_routes.specs.declared.route.Order.{Order}
use Rattle.srcp_routes.specs.declared.route.Order.TheVariants as order
use Rattle.srcp_routes.specs.declared.route.Route.{Route}
use Rattle.srcp_routes.specs.declared.route.Setting.{Setting}
use Rattle.srcp_routes.specs.declared.stage.Stage.{Stage}
use Rattle.srcp_routes.specs.declared.stage.Stage.TheVariants as stage
use Rattle.srcp_routes.proofs.Falls.{in_keeps}
use Rattle.srcp_routes.proofs.Locks.{replied_locks}
use Rattle.srcp_routes.proofs.Pending.{Fits, Pends, PendsAt, replied_none, replied_some, replied_to}
use Rattle.srcp_routes.proofs.Touched.{no_order}
use Rattle.srcp_routes.proofs.MayLock.{AllCaused, HasCause, IsFreed, MayLock, locked_may, ready_may, reply_may, retried_may, set_caused}

-- ---- the reply to an order

-- a lock is granted by the order that asks for it
record Grants (o : Order) (x : Device) : Type 0 where
  device : Device
  locks : o ≡ order.Lock device
  same : is_same x device ≡ true

granted_less : (locked : Locks) (n : ℕ) (o : Order) (m : ℕ) (x : Device) → m ≢ n → granted locked n o m x ≡ true
    → locked m x ≡ true
granted_less locked n (order.Lock device) m x differ h = elim (or_cases ((m == n) && is_same x device) (locked m x) h) [
  | inl now ↦ absurd (differ (eqb-true m n (and_parts (m == n) (is_same x device) now).0))
  | inr before ↦ before
]
granted_less locked n other m x differ h = h

replied_less : (locked : Locks) (n : ℕ) (o : Order) (ok : Bool) (m : ℕ) (x : Device) → m ≢ n
    → replied_locks locked n o ok m x ≡ true → locked m x ≡ true
replied_less locked n o true m x differ h = granted_less locked n o m x differ h
replied_less locked n o false m x differ h = h

granted_cases : (locked : Locks) (n : ℕ) (o : Order) (x : Device) → granted locked n o n x ≡ true
    → (locked n x ≡ true) ⊎ Grants o x
granted_cases locked n (order.Lock device) x h = elim (or_cases ((n == n) && is_same x device) (locked n x) h) [
  | inl now ↦ inr (record { device = device; locks = refl; same = (and_parts (n == n) (is_same x device) now).1 })
  | inr before ↦ inl before
]
granted_cases locked n other x h = inl h

replied_cases : (locked : Locks) (n : ℕ) (o : Order) (ok : Bool) (x : Device) → replied_locks locked n o ok n x ≡ true
    → (locked n x ≡ true) ⊎ ((ok ≡ true) × Grants o x)
replied_cases locked n o true x h = elim (granted_cases locked n o x h) [
  | inl before ↦ inl before
  | inr now ↦ inr (refl, now)
]
replied_cases locked n o false x h = inl h

-- a route asks for the lock of its next turnout
record LocksAt (route : Route) (s : Stage) (device : Device) : Type 0 where
  done : ℕ
  turnout : Setting
  now : s ≡ stage.Locking done
  at : turnout_at route done ≡ Some turnout
  is : turnout.device ≡ device

locking_at : (route : Route) (done : ℕ) (x : Option Setting) (device : Device) → turnout_at route done ≡ x
    → option_map (λ (setting : Setting). order.Lock setting.device) x ≡ Some (order.Lock device)
    → LocksAt route (stage.Locking done) device
locking_at route done None device at e = absurd (cc)
locking_at route done (Some turnout) device at e =
    record { done = done; turnout = turnout; now = refl; at = at; is = cc }

locks_at : (route : Route) (s : Stage) (device : Device) → order_of route s ≡ Some (order.Lock device)
    → LocksAt route s device
locks_at route (stage.Locking done) device e = locking_at route done (turnout_at route done) device refl e
locks_at route (stage.Throwing done) device e =
    no_order order.Throw (turnout_at route done) (order.Lock device) _ (λ y h. cc) e
locks_at route (stage.Unlocking left) device e =
    no_order (λ (x : Setting). order.Unlock x.device) (turnout_at route left) (order.Lock device) _ (λ y h. cc) e
locks_at route stage.Clearing device e = no_order _ route.signal (order.Lock device) _ (λ y h. cc) e
locks_at route stage.Showing device e = no_order _ route.signal (order.Lock device) _ (λ y h. cc) e
locks_at route stage.Stopping device e = no_order _ route.signal (order.Lock device) _ (λ y h. cc) e
locks_at route (stage.Falling told) device e = no_order _ route.signal (order.Lock device) _ (λ y h. cc) e
locks_at route (stage.Fallen false) device e = absurd (cc)
locks_at route other device e = absurd (cc)

now_caused : (route : Route) (s : Stage) (o : Order) (x : Device) → order_of route s ≡ Some o → (grants : Grants o x)
    → LocksAt route s grants.device → HasCause route (after_reply route s true) x
now_caused route s o x orders grants locks = record {
  place = locks.done;
  turnout = locks.turnout;
  at = locks.at;
  same = ap (is_same x) locks.is ∙ grants.same;
  may = subst (λ (z : Stage). MayLock (after_reply route z true) locks.done) (sym locks.now)
      (locked_may locks.done (nat_lt (locks.done + 1) (count_of route)));
}

-- a route that gives up the lock of its turnout at a place holds it no more
given_up : (route : Route) (left k : ℕ) (turnout : Setting) (o : Order) → order_of route (stage.Unlocking left) ≡ Some o
    → turnout_at route k ≡ Some turnout → k ≡ left → o ≡ order.Unlock turnout.device
given_up route left k turnout o orders at e =
    let here : turnout_at route left ≡ Some turnout = subst (λ (i : ℕ). turnout_at route i ≡ Some turnout) e at in
    let is : Some (order.Unlock turnout.device) ≡ Some o =
    subst (λ (x : Option Setting). option_map (λ (setting : Setting). order.Unlock setting.device) x ≡ Some o) here orders in
    cc

still_caused : (route : Route) (s : Stage) (o : Order) (ok : Bool) (locked : Locks) (n : ℕ) (x : Device)
    → order_of route s ≡ Some o → IsFreed (Some o) locked → locked n x ≡ true → HasCause route s x
    → HasCause route (after_reply route s ok) x
still_caused route s o ok locked n x orders freed before cause = record {
  place = cause.place;
  turnout = cause.turnout;
  at = cause.at;
  same = cause.same;
  may = reply_may route s o ok cause.place cause.turnout orders cause.at cause.may
      (λ left e here.
      let unlocks : o ≡ order.Unlock cause.turnout.device = given_up route left cause.place cause.turnout o
      (subst (λ (z : Stage). order_of route z ≡ Some o) e orders) cause.at here in
      let off : locked n x ≡ false =
      freed n x cause.turnout.device (ap (λ (y : Order). Some y) unlocks) cause.same in
      absurd (cc));
}

answer_at : (routes : List Route) (t : Table) (last : Option Order) (locked : Locks) (ok : Bool) (n : ℕ) → Fits routes t
    → (pends : PendsAt t last n) → IsFreed last locked → AllCaused t.routes t.stages locked
    → AllCaused t.routes (slice_set t.stages n (stage_replied t n ok)) (replied_locks locked n pends.order ok)
answer_at routes t last locked ok n fits pends freed all =
    set_caused t.routes t.stages n (stage_replied t n ok) locked (replied_locks locked n pends.order ok)
    (fits.stages ∙ ap length (sym fits.plan)) (replied_less locked n pends.order ok)
    (λ route x is h.
    let same : Some pends.route ≡ Some route = sym pends.is ∙ is in
    let here : pends.route ≡ route = cc in
    let orders : order_of route (stage_at t.stages n) ≡ Some pends.order =
    subst (λ (r : Route). order_of r (stage_at t.stages n) ≡ Some pends.order) here pends.orders in
    let later : stage_replied t n ok ≡ after_reply route (stage_at t.stages n) ok =
    ap (λ (r : Option Route). option_map_or (λ (a : Route). after_reply a (stage_at t.stages n) ok) r stage.Idle) is in
    subst (λ (z : Stage). HasCause route z x) (sym later)
    (elim (replied_cases locked n pends.order ok x h) [
      | inl before ↦ still_caused route (stage_at t.stages n) pends.order ok locked n x orders
          (subst (λ (o : Option Order). IsFreed o locked) pends.waits freed) before (all n route x is before)
      | inr now ↦ subst (λ (good : Bool). HasCause route (after_reply route (stage_at t.stages n) good) x) (sym now.0)
          (now_caused route (stage_at t.stages n) pends.order x orders now.1
          (locks_at route (stage_at t.stages n) now.1.device (orders ∙ ap (λ (y : Order). Some y) now.1.locks)))
    ])) all

answer_caused : (routes : List Route) (t : Table) (last : Option Order) (locked : Locks) (ok : Bool) (x : Option ℕ)
    → Fits routes t → Pends t last x → IsFreed last locked → AllCaused t.routes t.stages locked
    → AllCaused (option_map_or (answered t ok) x t).routes (option_map_or (answered t ok) x t).stages
    (replied_to granted locked last x ok)
answer_caused routes t last locked ok None fits pends freed all =
    subst (λ (l : Locks). AllCaused t.routes t.stages l) (sym (replied_none granted locked last ok)) all
answer_caused routes t last locked ok (Some n) fits pends freed all =
    let now : replied_to granted locked last (Some n) ok ≡ replied_locks locked n pends.order ok =
    ap (λ (x : Option Order). replied_to granted locked x (Some n) ok) pends.waits ∙ replied_some granted locked n pends.order ok in
    subst (λ (l : Locks). AllCaused (answered t ok n).routes (answered t ok n).stages l) (sym now)
    (answer_at routes t last locked ok n fits pends freed all)

-- once an event came
pub heard_caused : (routes : List Route) (r : Run) (event : Event) → Fits routes r.table
    → Pends r.table r.order r.table.waiting → IsFreed r.order r.locked → AllCaused r.table.routes r.table.stages r.locked
    → AllCaused (heard r.table event).routes (heard r.table event).stages (heard_of granted (λ m x. false) r.locked r event)
heard_caused routes r (Ask n) fits pends freed all = all
heard_caused routes r (Give n) fits pends freed all =
    set_caused r.table.routes r.table.stages n (retried_stage (stage_at r.table.stages n)) r.locked r.locked
    (fits.stages ∙ ap length (sym fits.plan)) (λ m x differ h. h)
    (λ route x is h.
    let cause : HasCause route (stage_at r.table.stages n) x = all n route x is h in
    record {
      place = cause.place;
      turnout = cause.turnout;
      at = cause.at;
      same = cause.same;
      may = retried_may (stage_at r.table.stages n) cause.place cause.may;
    }) all
heard_caused routes r (Told sensor on) fits pends freed all = all
heard_caused routes r (Reply true) fits pends freed all =
    answer_caused routes r.table r.order r.locked true r.table.waiting fits pends freed all
heard_caused routes r (Reply false) fits pends freed all =
    answer_caused routes r.table r.order r.locked false r.table.waiting fits pends freed all
heard_caused routes r Second fits pends freed all = all
heard_caused routes r Lost fits pends freed all = λ n route x is h. absurd (cc)

-- ---- the next order

sent_less : (locked : Locks) (o : Option Order) (m : ℕ) (x : Device) → locked_sent locked o m x ≡ true → locked m x ≡ true
sent_less locked None m x h = h
sent_less locked (Some (order.Unlock device)) m x h = (and_parts (not (is_same x device)) (locked m x) h).1
sent_less locked (Some other) m x h = h

sent_caused : (routes : List Route) (t : Table) (locked : Locks) (n : ℕ) → Fits routes t → AllCaused t.routes t.stages locked
    → AllCaused t.routes (slice_set t.stages n (ready_at t n)) (locked_sent locked (order_at t n))
sent_caused routes t locked n fits all =
    set_caused t.routes t.stages n (ready_at t n) locked (locked_sent locked (order_at t n))
    (fits.stages ∙ ap length (sym fits.plan)) (λ m x differ h. sent_less locked (order_at t n) m x h)
    (λ route x is h.
    let cause : HasCause route (stage_at t.stages n) x = all n route x is (sent_less locked (order_at t n) n x h) in
    let ready : ready_at t n ≡ ready_in t n route =
    ap (λ (r : Option Route). option_map_or (ready_in t n) r stage.Idle) is in
    record {
      place = cause.place;
      turnout = cause.turnout;
      at = cause.at;
      same = cause.same;
      may = subst (λ (z : Stage). MayLock z cause.place) (sym ready)
          (in_keeps (λ z. MayLock z cause.place) t n route (λ some h. h) (λ some h. h)
          (ready_may route (wanted_at t.wanted n) (are_free t.sensors route.blocks.items)
          (may_begin t n (are_free t.sensors route.blocks.items)) (stage_at t.stages n) cause.place cause.may));
    }) all

-- once the next order is sent
abbrev pub StepCaused : Locks → Stepped → Type 0
StepCaused locked s = AllCaused s.table.routes s.table.stages (locked_sent locked s.order)

pub next_caused : (routes : List Route) (t : Table) (locked : Locks) (waits : Bool) (d : Option ℕ) → Fits routes t
    → AllCaused t.routes t.stages locked
    → StepCaused locked (if waits then record { table = t; order = None } else sent t d)
next_caused routes t locked true d fits all = all
next_caused routes t locked false None fits all = all
next_caused routes t locked false (Some n) fits all = sent_caused routes t locked n fits all

-- ---- what was given up is locked for nobody

pub heard_freed : (r : Run) (event : Event) → IsFreed r.order r.locked
    → IsFreed (order_heard r.order event) (heard_of granted (λ m x. false) r.locked r event)
heard_freed r (Ask n) freed = freed
heard_freed r (Give n) freed = freed
heard_freed r (Told sensor on) freed = freed
heard_freed r (Reply true) freed = λ m x device e same. absurd (cc)
heard_freed r (Reply false) freed = λ m x device e same. absurd (cc)
heard_freed r Second freed = freed
heard_freed r Lost freed = λ m x device e same. absurd (cc)

none_locked : (same locked : Bool) → same ≡ true → (not same && locked) ≡ false
none_locked true locked e = refl
none_locked false locked e = absurd (cc)

freed_sent : (locked : Locks) (o : Order) → IsFreed (Some o) (locked_sent locked (Some o))
freed_sent locked o m x device e same =
    let is : order.Unlock device ≡ o = cc in
    subst (λ (y : Order). locked_sent locked (Some y) m x ≡ false) is
    (none_locked (is_same x device) (locked m x) same)

by_order : (o last : Option Order) (locked : Locks) → IsFreed last locked → IsFreed (option_or o last) (locked_sent locked o)
by_order None last locked freed = freed
by_order (Some o) last locked freed = freed_sent locked o

pub next_freed : (t : Table) (last : Option Order) (locked : Locks) (waits : Bool) (d : Option ℕ) → IsFreed last locked
    → IsFreed (option_or (if waits then record { table = t; order = None } else sent t d).order last)
    (locked_sent locked (if waits then record { table = t; order = None } else sent t d).order)
next_freed t last locked true d freed = freed
next_freed t last locked false None freed = freed
next_freed t last locked false (Some n) freed = by_order (order_at t n) last locked freed
