-- Which locks a route may hold at its stage.
use Rattle.std.proofs.Common.{◌≡◌, ◌≢◌, inl, inr, ℕ, ◌+◌, ◌-◌, ◌==◌, ◌<◌, ◌≤◌, Bool, true, false}
use Rattle.std.proofs.Common.{Option, Some, None, List, length, refl, sym, ◌∙◌, ap, arith, subst}
use Rattle.std.proofs.Math.Nat.{eq-or-lt_of_le}
use Rattle.std.proofs.lemmas.Bool.{cases_eq, eqb-true}
use Rattle.std.proofs.lemmas.Option.{slice_get_within}
use Rattle.std.specs.Option.{option_map_or}
use Rattle.std.specs.Prelude.{if◌then◌else◌, nat_lt, slice_get, slice_set}
use Rattle.srcp_routes.specs.Conflicts.{is_same}
use Rattle.srcp_routes.specs.Plan.{stage_at}
use Rattle.srcp_routes.specs.Runs.{Locks}
use Rattle.srcp_routes.specs.Stages.{after_reply, count_of, order_of, ready_stage, retried_stage, turnout_at}
use Rattle.srcp_routes.specs.declared.route.Device.{Device}
use Rattle.srcp_routes.specs.declared.route.Order.{Order}
use Rattle.srcp_routes.specs.declared.route.Order.TheVariants as order
use Rattle.srcp_routes.specs.declared.route.Route.{Route}
use Rattle.srcp_routes.specs.declared.route.Setting.{Setting}
use Rattle.srcp_routes.specs.declared.route.Signal.{Signal}
use Rattle.srcp_routes.specs.declared.stage.Stage.{Stage}
use Rattle.srcp_routes.specs.declared.stage.Stage.TheVariants as stage
use Rattle.srcp_routes.proofs.Apart.{stage_at-set, stage_at-set_same}

-- at this stage the lock of the turnout at a place may be held
abbrev pub MayLock : Stage → ℕ → Type 0
MayLock stage.Idle k = false ≡ true
MayLock stage.Clearing k = false ≡ true
MayLock stage.Blocked k = false ≡ true
MayLock stage.Closing k = false ≡ true
MayLock (stage.Locking done) k = k < done
MayLock (stage.Unlocking left) k = k ≤ left
MayLock other k = true ≡ true

-- a lock is that of a turnout of the route
pub record HasCause (route : Route) (s : Stage) (x : Device) : Type 0 where
  pub place : ℕ
  pub turnout : Setting
  pub at : turnout_at route place ≡ Some turnout
  pub same : is_same x turnout.device ≡ true
  pub may : MayLock s place

abbrev pub AllCaused : List Route → List Stage → Locks → Type 0
AllCaused routes stages locked = (n : ℕ) (route : Route) (x : Device) → slice_get routes n ≡ Some route
    → locked n x ≡ true → HasCause route (stage_at stages n) x

-- a turnout whose lock the last order gives up is locked for no route
abbrev pub IsFreed : Option Order → Locks → Type 0
IsFreed last locked = (m : ℕ) (x device : Device) → last ≡ Some (order.Unlock device) → is_same x device ≡ true
    → locked m x ≡ false

-- ---- what may be locked at the next stage

left_may : (left k : ℕ) (none : Bool) → (left == 0) ≡ none → k < left
    → MayLock (if none then stage.Idle else stage.Unlocking (left - 1)) k
left_may left k true is lt = let e : left ≡ 0 = eqb-true left 0 is in absurd (omega (arith, lt, e))
left_may left k false is lt = grind (arith, lt)

below : (left k : ℕ) → k ≤ left → k ≢ left → k < left
below left k le differ = elim (eq-or-lt_of_le le) [
  | inl same ↦ absurd (differ same)
  | inr lt ↦ lt
]

locking_may : (done k : ℕ) (more : Bool) → k < done
    → MayLock (if more then stage.Locking (done + 1) else stage.Throwing 0) k
locking_may done k true lt = omega (arith, lt)
locking_may done k false lt = refl

pub locked_may : (done : ℕ) (more : Bool) → MayLock (if more then stage.Locking (done + 1) else stage.Throwing 0) done
locked_may done true = omega arith
locked_may done false = refl

throwing_may : (done k : ℕ) (more : Bool) (x : Option Signal)
    → MayLock (if more then stage.Throwing (done + 1) else option_map_or (λ signal. stage.Ready) x stage.Reporting) k
throwing_may done k true x = refl
throwing_may done k false None = refl
throwing_may done k false (Some signal) = refl

leaving_may : (k : ℕ) (x : Option Signal) → MayLock (option_map_or (λ signal. stage.Stopping) x stage.Hiding) k
leaving_may k None = refl
leaving_may k (Some signal) = refl

pub retried_may : (s : Stage) (k : ℕ) → MayLock s k → MayLock (retried_stage s) k
retried_may stage.Blocked k may = may
retried_may stage.Stuck k may = refl
retried_may other k may = may

pub reply_may : (route : Route) (s : Stage) (o : Order) (ok : Bool) (k : ℕ) (turnout : Setting) → order_of route s ≡ Some o
    → turnout_at route k ≡ Some turnout → MayLock s k → ((left : ℕ) → s ≡ stage.Unlocking left → k ≢ left)
    → MayLock (after_reply route s ok) k
reply_may route stage.Idle o ok k turnout orders at may gone = absurd (cc)
reply_may route stage.Clearing o true k turnout orders at may gone = may
reply_may route stage.Clearing o false k turnout orders at may gone = may
reply_may route stage.Blocked o ok k turnout orders at may gone = absurd (cc)
reply_may route stage.Closing o true k turnout orders at may gone = may
reply_may route stage.Closing o false k turnout orders at may gone = may
reply_may route (stage.Locking done) o true k turnout orders at may gone =
    locking_may done k (nat_lt (done + 1) (count_of route)) may
reply_may route (stage.Locking done) o false k turnout orders at may gone = left_may done k (done == 0) refl may
reply_may route (stage.Throwing done) o true k turnout orders at may gone =
    throwing_may done k (nat_lt (done + 1) (count_of route)) route.signal
reply_may route (stage.Throwing done) o false k turnout orders at may gone = refl
reply_may route stage.Ready o ok k turnout orders at may gone = absurd (cc)
reply_may route stage.Showing o true k turnout orders at may gone = refl
reply_may route stage.Showing o false k turnout orders at may gone = refl
reply_may route stage.Reporting o true k turnout orders at may gone = refl
reply_may route stage.Reporting o false k turnout orders at may gone = leaving_may k route.signal
reply_may route stage.Set o ok k turnout orders at may gone = absurd (cc)
reply_may route (stage.Falling told) o true k turnout orders at may gone = refl
reply_may route (stage.Falling told) o false k turnout orders at may gone = refl
reply_may route (stage.Fallen false) o true k turnout orders at may gone = refl
reply_may route (stage.Fallen false) o false k turnout orders at may gone = refl
reply_may route (stage.Fallen true) o ok k turnout orders at may gone = absurd (cc)
reply_may route stage.Stopping o true k turnout orders at may gone = refl
reply_may route stage.Stopping o false k turnout orders at may gone = refl
reply_may route stage.Stuck o ok k turnout orders at may gone = absurd (cc)
reply_may route stage.Hiding o true k turnout orders at may gone =
    left_may (count_of route) k (count_of route == 0) refl (slice_get_within route.turnouts.items k turnout at)
reply_may route stage.Hiding o false k turnout orders at may gone =
    left_may (count_of route) k (count_of route == 0) refl (slice_get_within route.turnouts.items k turnout at)
reply_may route (stage.Unlocking left) o true k turnout orders at may gone =
    left_may left k (left == 0) refl (below left k may (gone left refl))
reply_may route (stage.Unlocking left) o false k turnout orders at may gone =
    left_may left k (left == 0) refl (below left k may (gone left refl))

pub ready_may : (route : Route) (wanted free begins : Bool) (s : Stage) (k : ℕ) → MayLock s k
    → MayLock (ready_stage route wanted free begins s) k
ready_may route wanted free true stage.Idle k may = absurd (cc)
ready_may route wanted free false stage.Idle k may = may
ready_may route wanted free begins stage.Showing k may = refl
ready_may route true true begins stage.Ready k may = refl
ready_may route true false begins stage.Ready k may = refl
ready_may route false free begins stage.Ready k may = refl
ready_may route true free begins (stage.Locking done) k may = may
ready_may route false free begins (stage.Locking done) k may = left_may done k (done == 0) refl may
ready_may route true free begins (stage.Throwing done) k may = refl
ready_may route false free begins (stage.Throwing done) k may = refl
ready_may route true free begins stage.Reporting k may = refl
ready_may route false free begins stage.Reporting k may = leaving_may k route.signal
ready_may route true free begins stage.Set k may = refl
ready_may route false free begins stage.Set k may = leaving_may k route.signal
ready_may route false free begins (stage.Fallen told) k may = refl
ready_may route true free begins other k may = may
ready_may route false free begins other k may = may

-- ---- the stage at one place changes, and no other route gets a lock

pub set_caused : (routes : List Route) (stages : List Stage) (i : ℕ) (s : Stage) (locked later : Locks)
    → length stages ≡ length routes → ((m : ℕ) (x : Device) → m ≢ i → later m x ≡ true → locked m x ≡ true)
    → ((route : Route) (x : Device) → slice_get routes i ≡ Some route → later i x ≡ true → HasCause route s x)
    → AllCaused routes stages locked → AllCaused routes (slice_set stages i s) later
set_caused routes stages i s locked later long less here all n route x is h = elim (cases_eq n i) [
  | inl same ↦
      let within : i < length stages = omega (arith, slice_get_within routes n route is, long, same) in
      let now : stage_at (slice_set stages i s) n ≡ s =
      ap (stage_at (slice_set stages i s)) same ∙ stage_at-set_same stages i s within in
      subst (λ (z : Stage). HasCause route z x) (sym now)
      (here route x (subst (λ (m : ℕ). slice_get routes m ≡ Some route) same is)
      (subst (λ (m : ℕ). later m x ≡ true) same h))
  | inr differ ↦ elim (stage_at-set stages i s n) [
    | inl p ↦ absurd (differ p.0)
    | inr e ↦ subst (λ (z : Stage). HasCause route z x) (sym e) (all n route x is (less n x differ h))
  ]
]
