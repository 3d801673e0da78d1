-- The turnout that a route locks, throws or unlocks is none that another holds.
use Rattle.std.proofs.Common.{◌≡◌, ◌≢◌, ◌⊎◌, inl, inr, ℕ, ◌<◌, Bool, true, false, not, ◌&&◌}
use Rattle.std.proofs.Common.{Option, Some, None, List, length, refl, sym, ◌∙◌, ap, arith, subst}
use Rattle.std.proofs.lemmas.Bool.{and_from, cases_Bool, cases_eq, not_from_false}
use Rattle.std.proofs.lemmas.Option.{slice_get_within}
use Rattle.std.specs.Option.{option_map, option_map_or}
use Rattle.std.specs.Prelude.{if◌then◌else◌, slice_get, slice_set}
use Rattle.srcp_routes.specs.Conflicts.{are_free, is_same}
use Rattle.srcp_routes.specs.Laws.{AreApart, touched}
use Rattle.srcp_routes.specs.Plan.{Table, conflict_at, stage_at, wanted_at}
use Rattle.srcp_routes.specs.Runs.{Throws, thrown_sent}
use Rattle.srcp_routes.specs.Stages.{is_held, is_idle, order_of, turnout_at}
use Rattle.srcp_routes.specs.Steps.{Stepped, due, may_begin, ready_at, ready_in, sent}
use Rattle.srcp_routes.specs.declared.route.Device.{Device}
use Rattle.srcp_routes.specs.declared.route.Order.{Order}
use Rattle.srcp_routes.specs.declared.route.Order.TheVariants as order
use Rattle.srcp_routes.specs.declared.route.Route.{Route}
use Rattle.srcp_routes.specs.declared.route.Setting.{Setting}
use Rattle.srcp_routes.specs.declared.stage.Stage.{Stage}
use Rattle.srcp_routes.specs.declared.stage.Stage.TheVariants as stage
use Rattle.srcp_routes.proofs.Apart.{stage_at-set_same}
use Rattle.srcp_routes.proofs.Falls.{in_keeps}
use Rattle.srcp_routes.proofs.Locks.{share}
use Rattle.srcp_routes.proofs.Pending.{Fits, Sends, due_sends}
use Rattle.srcp_routes.proofs.Thrown.{AllThrown, has_thrown, ready_thrown, set_thrown}

-- at this stage the signal of a route may show "go"; of a session that begins it may, too
abbrev pub goes : Bool → Stage → Bool
goes lost stage.Clearing = lost
goes lost stage.Blocked = lost
goes lost stage.Showing = true
goes lost stage.Reporting = true
goes lost stage.Set = true
goes lost stage.Stopping = true
goes lost stage.Stuck = true
goes lost (stage.Falling told) = true
goes lost other = false

-- a route touches one of its turnouts: it is held, and its signal shows "stop"
pub record Touches (route : Route) (s : Stage) (device : Device) : Type 0 where
  pub place : ℕ
  pub turnout : Setting
  pub at : turnout_at route place ≡ Some turnout
  pub same : turnout.device ≡ device
  pub held : is_held s ≡ true
  pub quiet : goes true s ≡ false

touches_at : (route : Route) (s : Stage) (place : ℕ) (f : Setting → Order) (x : Option Setting) (o : Order) (device : Device)
    → is_held s ≡ true → goes true s ≡ false → ((y : Setting) → touched (f y) ≡ Some y.device) → turnout_at route place ≡ x
    → option_map f x ≡ Some o → touched o ≡ Some device → Touches route s device
touches_at route s place f None o device held quiet is at orders e = absurd (cc)
touches_at route s place f (Some turnout) o device held quiet is at orders e =
    let one : f turnout ≡ o = cc in
    let two : Some turnout.device ≡ Some device = sym (is turnout) ∙ ap touched one ∙ e in
    record { place = place; turnout = turnout; at = at; same = cc; held = held; quiet = quiet }

no_touch : {X : Type 0} → (f : X → Order) (x : Option X) (o : Order) (device : Device) (P : Type 0)
    → ((y : X) → touched (f y) ≡ None) → option_map f x ≡ Some o → touched o ≡ Some device → P
no_touch f None o device P none orders e = absurd (cc)
no_touch f (Some y) o device P none orders e =
    let one : f y ≡ o = cc in
    let two : None ≡ Some device = sym (none y) ∙ ap touched one ∙ e in
    absurd (cc)

no_report : (report o : Order) (device : Device) (P : Type 0) → touched report ≡ None → Some report ≡ Some o
    → touched o ≡ Some device → P
no_report report o device P none orders e =
    let one : report ≡ o = cc in
    let two : None ≡ Some device = sym none ∙ ap touched one ∙ e in
    absurd (cc)

pub touches : (route : Route) (s : Stage) (o : Order) (device : Device) → order_of route s ≡ Some o
    → touched o ≡ Some device → Touches route s device
touches route (stage.Locking done) o device orders e = touches_at route (stage.Locking done) done
    (λ (x : Setting). order.Lock x.device) (turnout_at route done) o device refl refl (λ y. refl) refl orders e
touches route (stage.Throwing done) o device orders e = touches_at route (stage.Throwing done) done order.Throw
    (turnout_at route done) o device refl refl (λ y. refl) refl orders e
touches route (stage.Unlocking left) o device orders e = touches_at route (stage.Unlocking left) left
    (λ (x : Setting). order.Unlock x.device) (turnout_at route left) o device refl refl (λ y. refl) refl orders e
touches route stage.Clearing o device orders e = no_touch _ route.signal o device _ (λ y. refl) orders e
touches route stage.Showing o device orders e = no_touch _ route.signal o device _ (λ y. refl) orders e
touches route stage.Stopping o device orders e = no_touch _ route.signal o device _ (λ y. refl) orders e
touches route (stage.Falling told) o device orders e = no_touch _ route.signal o device _ (λ y. refl) orders e
touches route (stage.Fallen false) o device orders e = no_report _ o device _ refl orders e
touches route stage.Closing o device orders e = no_report _ o device _ refl orders e
touches route stage.Hiding o device orders e = no_report _ o device _ refl orders e
touches route stage.Reporting o device orders e = no_report _ o device _ refl orders e
touches route other o device orders e = absurd (cc)

abbrev pub StagesApart : List Route → List Stage → Type 0
StagesApart routes stages = (n m : ℕ) → n ≢ m → conflict_at routes n m ≡ true → is_held (stage_at stages n) ≡ true
    → is_idle (stage_at stages m) ≡ true

-- of a route that is not idle and another no turnout is touched
pub touch_other : (routes : List Route) (stages : List Stage) (n m : ℕ) (a b : Route) (device : Device) (k : ℕ)
    (turnout : Setting) → n ≢ m → StagesApart routes stages → Touches a (stage_at stages n) device
    → slice_get routes n ≡ Some a → slice_get routes m ≡ Some b → turnout_at b k ≡ Some turnout
    → is_idle (stage_at stages m) ≡ false → is_same turnout.device device ≡ false
touch_other routes stages n m a b device k turnout differ apart touch is is' at busy =
    elim (cases_Bool (is_same turnout.device device)) [
      | inl same ↦
          let shared : is_same turnout.device touch.turnout.device ≡ true =
          subst (λ (x : Device). is_same turnout.device x ≡ true) (sym touch.same) same in
          let idle : is_idle (stage_at stages m) ≡ true = apart n m differ
          (share routes n m a b touch.place k touch.turnout turnout is is' touch.at at shared) touch.held in
          absurd (cc)
      | inr other ↦ other
    ]

thrown_busy : (s : Stage) (k : ℕ) → has_thrown s k ≡ true → is_idle s ≡ false
thrown_busy stage.Idle k h = absurd (cc)
thrown_busy other k h = refl

-- a stage that locks or unlocks has thrown nothing
pub no_order : {X : Type 0} → (f : X → Order) (x : Option X) (o : Order) (P : Type 0) → ((y : X) → f y ≢ o)
    → option_map f x ≡ Some o → P
no_order f None o P other e = absurd (cc)
no_order f (Some y) o P other e = let same : f y ≡ o = cc in absurd (other y same)

lock_thrown : (route : Route) (s : Stage) (device : Device) (k : ℕ) → order_of route s ≡ Some (order.Lock device)
    → has_thrown s k ≡ false
lock_thrown route (stage.Throwing done) device k e =
    no_order order.Throw (turnout_at route done) (order.Lock device) _ (λ y h. cc) e
lock_thrown route stage.Showing device k e = no_order _ route.signal (order.Lock device) _ (λ y h. cc) e
lock_thrown route stage.Stopping device k e = no_order _ route.signal (order.Lock device) _ (λ y h. cc) e
lock_thrown route (stage.Falling told) device k e = no_order _ route.signal (order.Lock device) _ (λ y h. cc) e
lock_thrown route (stage.Fallen false) device k e = absurd (cc)
lock_thrown route (stage.Fallen true) device k e = absurd (cc)
lock_thrown route stage.Ready device k e = absurd (cc)
lock_thrown route stage.Reporting device k e = absurd (cc)
lock_thrown route stage.Set device k e = absurd (cc)
lock_thrown route stage.Stuck device k e = absurd (cc)
lock_thrown route other device k e = refl

unlock_thrown : (route : Route) (s : Stage) (device : Device) (k : ℕ) → order_of route s ≡ Some (order.Unlock device)
    → has_thrown s k ≡ false
unlock_thrown route (stage.Throwing done) device k e =
    no_order order.Throw (turnout_at route done) (order.Unlock device) _ (λ y h. cc) e
unlock_thrown route stage.Showing device k e = no_order _ route.signal (order.Unlock device) _ (λ y h. cc) e
unlock_thrown route stage.Stopping device k e = no_order _ route.signal (order.Unlock device) _ (λ y h. cc) e
unlock_thrown route (stage.Falling told) device k e = no_order _ route.signal (order.Unlock device) _ (λ y h. cc) e
unlock_thrown route (stage.Fallen false) device k e = absurd (cc)
unlock_thrown route (stage.Fallen true) device k e = absurd (cc)
unlock_thrown route stage.Ready device k e = absurd (cc)
unlock_thrown route stage.Reporting device k e = absurd (cc)
unlock_thrown route stage.Set device k e = absurd (cc)
unlock_thrown route stage.Stuck device k e = absurd (cc)
unlock_thrown route other device k e = refl

-- what is locked or unlocked was thrown by no route
not_thrown : (routes : List Route) (stages : List Stage) (n m : ℕ) (a b : Route) (device : Device) (k : ℕ)
    (turnout : Setting) → (n ≡ m) ⊎ (n ≢ m) → StagesApart routes stages → has_thrown (stage_at stages n) k ≡ false
    → Touches a (stage_at stages n) device → slice_get routes n ≡ Some a → slice_get routes m ≡ Some b
    → turnout_at b k ≡ Some turnout → has_thrown (stage_at stages m) k ≡ true → is_same turnout.device device ≡ false
not_thrown routes stages n m a b device k turnout (inl e) apart none touch is is' at h =
    let no : has_thrown (stage_at stages m) k ≡ false =
    subst (λ (i : ℕ). has_thrown (stage_at stages i) k ≡ false) e none in
    absurd (cc)
not_thrown routes stages n m a b device k turnout (inr differ) apart none touch is is' at h =
    touch_other routes stages n m a b device k turnout differ apart touch is is' at (thrown_busy (stage_at stages m) k h)

clear_thrown : (routes : List Route) (stages : List Stage) (n : ℕ) (route : Route) (device : Device) (thrown : Throws)
    → StagesApart routes stages → ((k : ℕ) → has_thrown (stage_at stages n) k ≡ false)
    → Touches route (stage_at stages n) device → slice_get routes n ≡ Some route → AllThrown routes stages thrown
    → AllThrown routes stages (λ m x. not (is_same x.device device) && thrown m x)
clear_thrown routes stages n route device thrown apart none touch is all = λ m other k turnout is' at h.
    and_from (not (is_same turnout.device device)) (thrown m turnout)
    (not_from_false (is_same turnout.device device)
    (not_thrown routes stages n m route other device k turnout (cases_eq n m) apart (none k) touch is is' at h))
    (all m other k turnout is' at h)

-- once the order of a route is sent
order_thrown : (routes : List Route) (stages : List Stage) (n : ℕ) (route : Route) (o : Order) (thrown : Throws)
    → StagesApart routes stages → slice_get routes n ≡ Some route → order_of route (stage_at stages n) ≡ Some o
    → AllThrown routes stages thrown → AllThrown routes stages (thrown_sent thrown (Some o))
order_thrown routes stages n route (order.Lock device) thrown apart is orders all =
    clear_thrown routes stages n route device thrown apart
    (λ k. lock_thrown route (stage_at stages n) device k orders)
    (touches route (stage_at stages n) (order.Lock device) device orders refl) is all
order_thrown routes stages n route (order.Unlock device) thrown apart is orders all =
    clear_thrown routes stages n route device thrown apart
    (λ k. unlock_thrown route (stage_at stages n) device k orders)
    (touches route (stage_at stages n) (order.Unlock device) device orders refl) is all
order_thrown routes stages n route other thrown apart is orders all = all

ready_all_thrown : (t : Table) (n : ℕ) (thrown : Throws) → AllThrown t.routes t.stages thrown
    → AllThrown t.routes (slice_set t.stages n (ready_at t n)) thrown
ready_all_thrown t n thrown all = set_thrown t.routes t.stages n (ready_at t n) thrown thrown (λ m x h. h)
    (λ route k turnout is at h. all n route k turnout is at
    (in_keeps (λ s. has_thrown s k ≡ true → has_thrown (stage_at t.stages n) k ≡ true) t n route (λ some f. f)
    (λ some f. f) (ready_thrown route (wanted_at t.wanted n) (are_free t.sensors route.blocks.items)
    (may_begin t n (are_free t.sensors route.blocks.items)) (stage_at t.stages n) k turnout at)
    (subst (λ (x : Option Route). has_thrown (option_map_or (ready_in t n) x stage.Idle) k ≡ true) is h))) all

-- the stage in which a route sends its order
pub sends_stage : (routes : List Route) (t : Table) (n : ℕ) → Fits routes t → (sends : Sends t n)
    → order_of sends.route (stage_at (slice_set t.stages n (ready_at t n)) n) ≡ Some sends.order
sends_stage routes t n fits sends =
    let within : n < length t.stages =
    omega (arith, slice_get_within t.routes n sends.route sends.is, fits.stages, ap length fits.plan) in
    ap (order_of sends.route) (stage_at-set_same t.stages n (ready_at t n) within) ∙ sends.orders

-- once the next order is sent
abbrev pub StepThrown : Throws → Stepped → Type 0
StepThrown thrown s = AllThrown s.table.routes s.table.stages (thrown_sent thrown s.order)

sent_thrown : (routes : List Route) (t : Table) (thrown : Throws) (n : ℕ) → Fits routes t
    → AreApart (sent t (Some n)).table → Sends t n → AllThrown t.routes t.stages thrown → StepThrown thrown (sent t (Some n))
sent_thrown routes t thrown n fits apart sends all =
    subst (λ (x : Option Order). AllThrown t.routes (slice_set t.stages n (ready_at t n)) (thrown_sent thrown x)) (sym sends.sent)
    (order_thrown t.routes (slice_set t.stages n (ready_at t n)) n sends.route sends.order thrown apart sends.is
    (sends_stage routes t n fits sends) (ready_all_thrown t n thrown all))

pub next_thrown : (routes : List Route) (t : Table) (thrown : Throws) (waits : Bool) (d : Option ℕ) → Fits routes t
    → due t ≡ d → AreApart (if waits then record { table = t; order = None } else sent t d).table
    → AllThrown t.routes t.stages thrown → StepThrown thrown (if waits then record { table = t; order = None } else sent t d)
next_thrown routes t thrown true d fits is apart all = all
next_thrown routes t thrown false None fits is apart all = all
next_thrown routes t thrown false (Some n) fits is apart all = sent_thrown routes t thrown n fits apart (due_sends t n is) all
