-- A route whose turnouts are locked by its stage holds their locks.
use Rattle.std.proofs.Common.{◌≡◌, ◌≢◌, ◌⊎◌, inl, inr, ℕ, zero, suc, ◌+◌, ◌==◌, ◌<◌, Bool, true, false, not, ◌&&◌, ◌||◌}
use Rattle.std.proofs.Common.{Option, Some, None, List, [], ◌∷◌, length, refl, sym, ◌∙◌, ap, arith, subst}
use Rattle.std.proofs.lemmas.Bool.{and_from, and_parts, cases_Bool, cases_eq, eq-eqb, eqb-true, lt-ltb, ltb-false, ltb-true, not_from_false}
use Rattle.std.proofs.lemmas.Bool.{or_left, or_right}
use Rattle.std.proofs.lemmas.Option.{slice_get_within}
use Rattle.std.specs.List.{list_any}
use Rattle.std.specs.Option.{option_map, option_map_or}
use Rattle.std.specs.Prelude.{if◌then◌else◌, map, nat_lt, slice_get, slice_set}
use Rattle.srcp_routes.specs.Conflicts.{are_free, blocks_meet, conflicts, has_turnout, is_same, is_signal, meets, pieces_meet}
use Rattle.srcp_routes.specs.Conflicts.{signal_meets, turnouts_meet, uses}
use Rattle.srcp_routes.specs.Laws.{AreApart}
use Rattle.srcp_routes.specs.Plan.{Table, conflict_at, stage_at, wanted_at}
use Rattle.srcp_routes.specs.Runs.{Locks, Run, granted, heard_of, locked_sent}
use Rattle.srcp_routes.specs.Stages.{after_reply, count_of, is_held, is_idle, lost_stage, order_of, ready_stage, retried_stage}
use Rattle.srcp_routes.specs.Stages.{turnout_at}
use Rattle.srcp_routes.specs.Steps.{Stepped, answered, due, heard, may_begin, ready_at, ready_in, sent, stage_replied}
use Rattle.srcp_routes.specs.declared.interlocking.Event.{Event}
use Rattle.srcp_routes.specs.declared.interlocking.Event.TheVariants.{Ask, Give, Told, Second, Reply, Lost}
use Rattle.srcp_routes.specs.declared.route.Device.{Device}
use Rattle.srcp_routes.specs.declared.route.Order.{Order}
use Rattle.srcp_routes.specs.declared.route.Order.TheVariants as order
use Rattle.srcp_routes.specs.declared.route.Route.{Route}
use Rattle.srcp_routes.specs.declared.route.Setting.{Setting}
use Rattle.srcp_routes.specs.declared.route.Signal.{Signal}
use Rattle.srcp_routes.specs.declared.stage.Stage.{Stage}
use Rattle.srcp_routes.specs.declared.stage.Stage.TheVariants as stage
use Rattle.srcp_routes.proofs.Apart.{stage_at-set, stage_at-set_same, stage_at-start, idle_not_held}
use Rattle.srcp_routes.proofs.Falls.{in_keeps}
use Rattle.srcp_routes.proofs.Pending.{Fits, Pends, PendsAt, Sends, due_sends, replied_none, replied_some, replied_to}

-- at this stage the turnout at a place is locked
abbrev pub has_lock : Stage → ℕ → Bool
has_lock stage.Idle k = false
has_lock stage.Clearing k = false
has_lock stage.Blocked k = false
has_lock stage.Closing k = false
has_lock (stage.Locking done) k = nat_lt k done
has_lock (stage.Unlocking left) k = false
has_lock other k = true

-- each turnout that is locked at the stage of its route is locked
abbrev pub AllLocked : List Route → List Stage → Locks → Type 0
AllLocked routes stages locked = (n : ℕ) (route : Route) (k : ℕ) (turnout : Setting) → slice_get routes n ≡ Some route
    → turnout_at route k ≡ Some turnout → has_lock (stage_at stages n) k ≡ true → locked n turnout.device ≡ true

-- what a stage locks
pub locks_held : (s : Stage) (k : ℕ) → has_lock s k ≡ true → is_held s ≡ true
locks_held stage.Idle k h = absurd (cc)
locks_held stage.Clearing k h = absurd (cc)
locks_held stage.Blocked k h = absurd (cc)
locks_held stage.Closing k h = absurd (cc)
locks_held other k h = refl

retried_locks : (s : Stage) (k : ℕ) → has_lock (retried_stage s) k ≡ true → has_lock s k ≡ true
retried_locks stage.Blocked k h = absurd (cc)
retried_locks stage.Stuck k h = refl
retried_locks other k h = h

-- one more turnout is locked
pub locked_next : (k done : ℕ) → nat_lt k (done + 1) ≡ true → (nat_lt k done ≡ true) ⊎ (k ≡ done)
locked_next k done h = grind (arith, ltb-true k (done + 1), lt-ltb k done)

pub locked_last : (k done count : ℕ) → nat_lt (done + 1) count ≡ false → k < count → (nat_lt k done ≡ true) ⊎ (k ≡ done)
locked_last k done count h lt = grind (arith, ltb-false (done + 1) count, lt-ltb k done)

locking_locks : (done k count : ℕ) (more : Bool) → nat_lt (done + 1) count ≡ more → k < count
    → has_lock (if more then stage.Locking (done + 1) else stage.Throwing 0) k ≡ true → (nat_lt k done ≡ true) ⊎ (k ≡ done)
locking_locks done k count true more lt h = locked_next k done h
locking_locks done k count false more lt h = locked_last k done count more lt

-- the lock of a turnout was just granted
granted_lock : (route : Route) (k done : ℕ) (turnout : Setting) (o : Order) → k ≡ done → turnout_at route k ≡ Some turnout
    → option_map (λ (setting : Setting). order.Lock setting.device) (turnout_at route done) ≡ Some o
    → o ≡ order.Lock turnout.device
granted_lock route k done turnout o e at orders =
    let here : turnout_at route done ≡ Some turnout = subst (λ (i : ℕ). turnout_at route i ≡ Some turnout) e at in
    let is : Some (order.Lock turnout.device) ≡ Some o =
    subst (λ (x : Option Setting). option_map (λ (setting : Setting). order.Lock setting.device) x ≡ Some o) here orders in
    cc

pub left_locks : (left k : ℕ) (X : Type 0) (none : Bool)
    → has_lock (if none then stage.Idle else stage.Unlocking left) k ≡ true → X
left_locks left k X true h = absurd (cc)
left_locks left k X false h = absurd (cc)

-- after the reply a turnout is locked that was, or whose lock was granted
reply_locks : (route : Route) (s : Stage) (o : Order) (ok : Bool) (k : ℕ) (turnout : Setting)
    → order_of route s ≡ Some o → turnout_at route k ≡ Some turnout → has_lock (after_reply route s ok) k ≡ true
    → (has_lock s k ≡ true) ⊎ ((ok ≡ true) × (o ≡ order.Lock turnout.device))
reply_locks route stage.Idle o ok k turnout orders at h = absurd (cc)
reply_locks route stage.Clearing o true k turnout orders at h = absurd (cc)
reply_locks route stage.Clearing o false k turnout orders at h = absurd (cc)
reply_locks route stage.Blocked o ok k turnout orders at h = absurd (cc)
reply_locks route stage.Closing o true k turnout orders at h = absurd (cc)
reply_locks route stage.Closing o false k turnout orders at h = absurd (cc)
reply_locks route (stage.Locking done) o true k turnout orders at h =
    elim (locking_locks done k (count_of route) (nat_lt (done + 1) (count_of route)) refl
    (slice_get_within route.turnouts.items k turnout at) h) [
      | inl lower ↦ inl lower
      | inr e ↦ inr (refl, granted_lock route k done turnout o e at orders)
    ]
reply_locks route (stage.Locking done) o false k turnout orders at h = left_locks _ k _ (done == 0) h
reply_locks route (stage.Unlocking left) o true k turnout orders at h = left_locks _ k _ (left == 0) h
reply_locks route (stage.Unlocking left) o false k turnout orders at h = left_locks _ k _ (left == 0) h
reply_locks route other o ok k turnout orders at h = inl refl

-- as a route becomes ready no turnout is locked that was not
back_locks : (route : Route) (k : ℕ) (count : ℕ) (none : Bool) (signal : Option Signal) → (count == 0) ≡ none → k < count
    → has_lock (if none then option_map_or (λ x. stage.Showing) signal stage.Reporting else stage.Locking 0) k ≡ true
    → false ≡ true
back_locks route k count true signal none lt h = let e : count ≡ 0 = eqb-true count 0 none in absurd (omega arith)
back_locks route k count false signal none lt h = absurd (omega (arith, ltb-true k 0 h))

ready_locks : (route : Route) (wanted free begins : Bool) (s : Stage) (k : ℕ) (turnout : Setting)
    → turnout_at route k ≡ Some turnout → has_lock (ready_stage route wanted free begins s) k ≡ true → has_lock s k ≡ true
ready_locks route wanted free true stage.Idle k turnout at h = back_locks route k (count_of route) (count_of route == 0)
    route.signal refl (slice_get_within route.turnouts.items k turnout at) h
ready_locks route wanted free false stage.Idle k turnout at h = absurd (cc)
ready_locks route true free begins stage.Clearing k turnout at h = h
ready_locks route false free begins stage.Clearing k turnout at h = h
ready_locks route true free begins stage.Blocked k turnout at h = h
ready_locks route false free begins stage.Blocked k turnout at h = h
ready_locks route true free begins stage.Closing k turnout at h = h
ready_locks route false free begins stage.Closing k turnout at h = h
ready_locks route true free begins (stage.Locking done) k turnout at h = h
ready_locks route false free begins (stage.Locking done) k turnout at h = left_locks _ k _ (done == 0) h
ready_locks route true free begins (stage.Unlocking left) k turnout at h = h
ready_locks route false free begins (stage.Unlocking left) k turnout at h = h
ready_locks route wanted free begins other k turnout at h = refl

-- the stage at one place changes, and locks are granted
set_locked : (routes : List Route) (stages : List Stage) (i : ℕ) (s : Stage) (locked later : Locks)
    → ((n : ℕ) (x : Device) → locked n x ≡ true → later n x ≡ true)
    → ((route : Route) (k : ℕ) (turnout : Setting) → slice_get routes i ≡ Some route → turnout_at route k ≡ Some turnout
    → has_lock s k ≡ true → later i turnout.device ≡ true)
    → AllLocked routes stages locked → AllLocked routes (slice_set stages i s) later
set_locked routes stages i s locked later more here all n route k turnout is at h = elim (stage_at-set stages i s n) [
  | inl p ↦ subst (λ (m : ℕ). later m turnout.device ≡ true) (sym p.0)
      (here route k turnout (subst (λ (m : ℕ). slice_get routes m ≡ Some route) p.0 is) at
      (subst (λ (z : Stage). has_lock z k ≡ true) p.1 h))
  | inr e ↦ more n turnout.device
      (all n route k turnout is at (subst (λ (z : Stage). has_lock z k ≡ true) e h))
]

more_granted : (locked : Locks) (n : ℕ) (o : Order) (m : ℕ) (x : Device) → locked m x ≡ true → granted locked n o m x ≡ true
more_granted locked n (order.Lock device) m x h = or_right ((m == n) && is_same x device) (locked m x) h
more_granted locked n other m x h = h

pub same_self : (x : Device) → is_same x x ≡ true
same_self x = and_from (x.bus == x.bus) (x.address == x.address) (eq-eqb x.bus x.bus refl) (eq-eqb x.address x.address refl)

pub same_back : (x y : Device) → is_same x y ≡ true → is_same y x ≡ true
same_back x y h =
    let both : ((x.bus == y.bus) ≡ true) × ((x.address == y.address) ≡ true) =
    and_parts (x.bus == y.bus) (x.address == y.address) h in
    and_from (y.bus == x.bus) (y.address == x.address) (eq-eqb y.bus x.bus (sym (eqb-true x.bus y.bus both.0)))
    (eq-eqb y.address x.address (sym (eqb-true x.address y.address both.1)))

now_granted : (locked : Locks) (n : ℕ) (o : Order) (x : Device) → o ≡ order.Lock x → granted locked n o n x ≡ true
now_granted locked n o x e = subst (λ (y : Order). granted locked n y n x ≡ true) (sym e)
    (or_left ((n == n) && is_same x x) (locked n x) (and_from (n == n) (is_same x x) (eq-eqb n n refl) (same_self x)))

-- the locks after the reply to the order of a route
abbrev pub replied_locks : Locks → ℕ → Order → Bool → Locks
replied_locks locked n o ok = if ok then granted locked n o else locked

more_replied : (locked : Locks) (n : ℕ) (o : Order) (ok : Bool) (m : ℕ) (x : Device) → locked m x ≡ true
    → replied_locks locked n o ok m x ≡ true
more_replied locked n o true m x h = more_granted locked n o m x h
more_replied locked n o false m x h = h

now_replied : (locked : Locks) (n : ℕ) (o : Order) (ok : Bool) (x : Device) → ok ≡ true → o ≡ order.Lock x
    → replied_locks locked n o ok n x ≡ true
now_replied locked n o true x good e = now_granted locked n o x e
now_replied locked n o false x good e = absurd (cc)

reply_locked : (t : Table) (last : Option Order) (locked : Locks) (ok : Bool) (n : ℕ) (pends : PendsAt t last n)
    → AllLocked t.routes t.stages locked
    → AllLocked t.routes (slice_set t.stages n (stage_replied t n ok)) (replied_locks locked n pends.order ok)
reply_locked t last locked ok n pends all = set_locked t.routes t.stages n (stage_replied t n ok) locked
    (replied_locks locked n pends.order ok) (more_replied locked n pends.order ok)
    (λ route k turnout is at h.
    let same : Some pends.route ≡ Some route = sym pends.is ∙ is in
    let here : pends.route ≡ route = cc in
    let orders : order_of route (stage_at t.stages n) ≡ Some pends.order =
    subst (λ (x : Route). order_of x (stage_at t.stages n) ≡ Some pends.order) here pends.orders in
    let later : has_lock (after_reply route (stage_at t.stages n) ok) k ≡ true =
    subst (λ (x : Option Route).
    has_lock (option_map_or (λ (a : Route). after_reply a (stage_at t.stages n) ok) x stage.Idle) k ≡ true) is h in
    elim (reply_locks route (stage_at t.stages n) pends.order ok k turnout orders at later) [
      | inl before ↦ more_replied locked n pends.order ok n turnout.device (all n route k turnout is at before)
      | inr p ↦ now_replied locked n pends.order ok turnout.device p.0 p.1
    ]) all

answer_locked : (t : Table) (last : Option Order) (locked : Locks) (ok : Bool) (x : Option ℕ) → Pends t last x
    → AllLocked t.routes t.stages locked
    → AllLocked (option_map_or (answered t ok) x t).routes (option_map_or (answered t ok) x t).stages (replied_to granted locked last x ok)
answer_locked t last locked ok None pends all =
    subst (λ (l : Locks). AllLocked t.routes t.stages l) (sym (replied_none granted locked last ok)) all
answer_locked t last locked ok (Some n) pends all =
    let now : replied_to granted locked last (Some n) ok ≡ replied_locks locked n pends.order ok =
    ap (λ (x : Option Order). replied_to granted locked x (Some n) ok) pends.waits ∙ replied_some granted locked n pends.order ok in
    subst (λ (l : Locks). AllLocked (answered t ok n).routes (answered t ok n).stages l) (sym now)
    (reply_locked t last locked ok n pends all)

-- once an event came
pub heard_locked : (r : Run) (event : Event) → Pends r.table r.order r.table.waiting
    → AllLocked r.table.routes r.table.stages r.locked
    → AllLocked (heard r.table event).routes (heard r.table event).stages (heard_of granted (λ m x. false) r.locked r event)
heard_locked r (Ask n) pends all = all
heard_locked r (Give n) pends all =
    set_locked r.table.routes r.table.stages n (retried_stage (stage_at r.table.stages n)) r.locked r.locked (λ m x h. h)
    (λ route k turnout is at h. all n route k turnout is at (retried_locks (stage_at r.table.stages n) k h)) all
heard_locked r (Told sensor on) pends all = all
heard_locked r (Reply true) pends all = answer_locked r.table r.order r.locked true r.table.waiting pends all
heard_locked r (Reply false) pends all = answer_locked r.table r.order r.locked false r.table.waiting pends all
heard_locked r Second pends all = all
heard_locked r Lost pends all = λ n route k turnout is at h.
    let not : is_held (stage_at (map lost_stage r.table.routes) n) ≡ false = stage_at-start r.table.routes n in
    let held : is_held (stage_at (map lost_stage r.table.routes) n) ≡ true = locks_held _ k h in
    absurd (cc)

-- a route gives up the lock of one of its turnouts
pub record Unlocks (route : Route) (s : Stage) (device : Device) : Type 0 where
  pub place : ℕ
  pub turnout : Setting
  pub at : turnout_at route place ≡ Some turnout
  pub same : turnout.device ≡ device
  pub held : is_held s ≡ true
  pub none : (k : ℕ) → has_lock s k ≡ false

pub no_unlock : {X : Type 0} → (f : X → Order) (x : Option X) (device : Device) (P : Type 0)
    → ((y : X) → f y ≢ order.Unlock device) → option_map f x ≡ Some (order.Unlock device) → P
no_unlock f None device P other e = absurd (cc)
no_unlock f (Some y) device P other e = let same : f y ≡ order.Unlock device = cc in absurd (other y same)

unlocks_at : (route : Route) (left : ℕ) (x : Option Setting) (device : Device) → turnout_at route left ≡ x
    → option_map (λ (setting : Setting). order.Unlock setting.device) x ≡ Some (order.Unlock device)
    → Unlocks route (stage.Unlocking left) device
unlocks_at route left None device at e = absurd (cc)
unlocks_at route left (Some turnout) device at e =
    record { place = left; turnout = turnout; at = at; same = cc; held = refl; none = λ k. refl }

unlocks : (route : Route) (s : Stage) (device : Device) → order_of route s ≡ Some (order.Unlock device)
    → Unlocks route s device
unlocks route (stage.Unlocking left) device e = unlocks_at route left (turnout_at route left) device refl e
unlocks route (stage.Locking done) device e =
    no_unlock (λ (setting : Setting). order.Lock setting.device) (turnout_at route done) device _ (λ y h. cc) e
unlocks route (stage.Throwing done) device e = no_unlock order.Throw (turnout_at route done) device _ (λ y h. cc) e
unlocks route stage.Clearing device e = no_unlock _ route.signal device _ (λ y h. cc) e
unlocks route stage.Showing device e = no_unlock _ route.signal device _ (λ y h. cc) e
unlocks route stage.Stopping device e = no_unlock _ route.signal device _ (λ y h. cc) e
unlocks route (stage.Falling told) device e = no_unlock _ route.signal device _ (λ y h. cc) e
unlocks route (stage.Fallen false) device e = absurd (cc)
unlocks route other device e = absurd (cc)

-- routes that share a turnout conflict
pub any_at : {X : Type 0} → (test : X → Bool) (xs : List X) (k : ℕ) (x : X) → slice_get xs k ≡ Some x → test x ≡ true
    → list_any test xs ≡ true
any_at test [] k x at h = absurd (cc)
any_at test (y ∷ ys) zero x at h = let same : y ≡ x = cc in or_left (test y) (list_any test ys) (ap test same ∙ h)
any_at test (y ∷ ys) (suc k) x at h = or_right (test y) (list_any test ys) (any_at test ys k x at h)

pub conflict_of : (routes : List Route) (n m : ℕ) (a b : Route) → slice_get routes n ≡ Some a → slice_get routes m ≡ Some b
    → conflict_at routes n m ≡ conflicts a b
conflict_of routes n m a b is is' = rw (is, is') refl

pub share : (routes : List Route) (n m : ℕ) (a b : Route) (i j : ℕ) (x y : Setting) → slice_get routes n ≡ Some a
    → slice_get routes m ≡ Some b → turnout_at a i ≡ Some x → turnout_at b j ≡ Some y
    → is_same y.device x.device ≡ true → conflict_at routes n m ≡ true
share routes n m a b i j x y is is' at at' same = conflict_of routes n m a b is is'
    ∙ or_left (meets a b) (meets b a) (or_right (signal_meets a b) (turnouts_meet a b || (blocks_meet a b || pieces_meet a b))
    (or_left (turnouts_meet a b) (blocks_meet a b || pieces_meet a b)
    (any_at (λ (turnout : Setting). uses b turnout.device) a.turnouts.items i x at
    (or_right (is_signal b x.device) (has_turnout b x.device)
    (any_at (λ (turnout : Setting). is_same turnout.device x.device) b.turnouts.items j y at' same)))))

-- a lock that one route gives up is none that another has
unlock_other : (routes : List Route) (stages : List Stage) (n m : ℕ) (a b : Route) (device : Device) (k : ℕ) (turnout : Setting)
    → (n ≡ m) ⊎ (n ≢ m) → ((n m : ℕ) → n ≢ m → conflict_at routes n m ≡ true → is_held (stage_at stages n) ≡ true
    → is_idle (stage_at stages m) ≡ true)
    → Unlocks a (stage_at stages n) device → slice_get routes n ≡ Some a → slice_get routes m ≡ Some b
    → turnout_at b k ≡ Some turnout → has_lock (stage_at stages m) k ≡ true → is_same turnout.device device ≡ false
unlock_other routes stages n m a b device k turnout (inl e) apart unlock is is' at h =
    let none : has_lock (stage_at stages m) k ≡ false =
    subst (λ (i : ℕ). has_lock (stage_at stages i) k ≡ false) e (unlock.none k) in
    absurd (cc)
unlock_other routes stages n m a b device k turnout (inr differ) apart unlock is is' at h =
    elim (cases_Bool (is_same turnout.device device)) [
      | inl same ↦
          let shared : is_same turnout.device unlock.turnout.device ≡ true =
          subst (λ (x : Device). is_same turnout.device x ≡ true) (sym unlock.same) same in
          let idle : is_idle (stage_at stages m) ≡ true = apart n m differ
          (share routes n m a b unlock.place k unlock.turnout turnout is is' unlock.at at shared) unlock.held in
          let not : is_held (stage_at stages m) ≡ false = idle_not_held (stage_at stages m) idle in
          let held : is_held (stage_at stages m) ≡ true = locks_held (stage_at stages m) k h in
          absurd (cc)
      | inr other ↦ other
    ]

-- once the order of a route is sent
order_locked : (routes : List Route) (stages : List Stage) (n : ℕ) (route : Route) (o : Order) (locked : Locks)
    → ((n m : ℕ) → n ≢ m → conflict_at routes n m ≡ true → is_held (stage_at stages n) ≡ true
    → is_idle (stage_at stages m) ≡ true)
    → slice_get routes n ≡ Some route → order_of route (stage_at stages n) ≡ Some o → AllLocked routes stages locked
    → AllLocked routes stages (locked_sent locked (Some o))
order_locked routes stages n route (order.Unlock device) locked apart is orders all = λ m other k turnout is' at h.
    and_from (not (is_same turnout.device device)) (locked m turnout.device)
    (not_from_false (is_same turnout.device device) (unlock_other routes stages n m route other device k turnout (cases_eq n m)
    apart (unlocks route (stage_at stages n) device orders) is is' at h))
    (all m other k turnout is' at h)
order_locked routes stages n route other locked apart is orders all = all

ready_locked : (t : Table) (n : ℕ) (sends : Sends t n) (locked : Locks) → AllLocked t.routes t.stages locked
    → AllLocked t.routes (slice_set t.stages n (ready_at t n)) locked
ready_locked t n sends locked all = set_locked t.routes t.stages n (ready_at t n) locked locked (λ m x h. h)
    (λ route k turnout is at h. all n route k turnout is at
    (in_keeps (λ s. has_lock s k ≡ true → has_lock (stage_at t.stages n) k ≡ true) t n route (λ some f. f) (λ some f. f)
    (ready_locks route (wanted_at t.wanted n) (are_free t.sensors route.blocks.items)
    (may_begin t n (are_free t.sensors route.blocks.items)) (stage_at t.stages n) k turnout at)
    (subst (λ (x : Option Route). has_lock (option_map_or (ready_in t n) x stage.Idle) k ≡ true) is h))) all

-- once the next order is sent
abbrev pub StepLocked : Locks → Stepped → Type 0
StepLocked locked s = AllLocked s.table.routes s.table.stages (locked_sent locked s.order)

sent_locked : (routes : List Route) (t : Table) (locked : Locks) (n : ℕ) → Fits routes t → AreApart (sent t (Some n)).table
    → Sends t n → AllLocked t.routes t.stages locked → StepLocked locked (sent t (Some n))
sent_locked routes t locked n fits apart sends all =
    let within : n < length t.stages =
    omega (arith, slice_get_within t.routes n sends.route sends.is, fits.stages, ap length fits.plan) in
    subst (λ (x : Option Order). AllLocked t.routes (slice_set t.stages n (ready_at t n)) (locked_sent locked x)) (sym sends.sent)
    (order_locked t.routes (slice_set t.stages n (ready_at t n)) n sends.route sends.order locked apart sends.is
    (ap (order_of sends.route) (stage_at-set_same t.stages n (ready_at t n) within) ∙ sends.orders)
    (ready_locked t n sends locked all))

pub next_locked : (routes : List Route) (t : Table) (locked : Locks) (waits : Bool) (d : Option ℕ) → Fits routes t → due t ≡ d
    → AreApart (if waits then record { table = t; order = None } else sent t d).table → AllLocked t.routes t.stages locked
    → StepLocked locked (if waits then record { table = t; order = None } else sent t d)
next_locked routes t locked true d fits is apart all = all
next_locked routes t locked false None fits is apart all = all
next_locked routes t locked false (Some n) fits is apart all = sent_locked routes t locked n fits apart (due_sends t n is) all
