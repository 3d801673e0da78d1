-- How many orders a route sends at most before it rests.
use Rattle.std.proofs.Common.{◌≡◌, inl, inr, ℕ, zero, suc, ◌+◌, ◌-◌, ◌==◌, ◌<◌, ◌≤◌, Bool, true, false}
use Rattle.std.proofs.Common.{Option, Some, None, length, refl, arith, subst}
use Rattle.std.proofs.Math.Nat.{eq-or-lt_of_le}
use Rattle.std.proofs.lemmas.Bool.{eqb-false, ltb-false, ltb-true}
use Rattle.std.specs.Option.{option_map_or}
use Rattle.std.specs.Prelude.{if◌then◌else◌, nat_lt, slice_get}
use Rattle.srcp_routes.specs.Plan.{Table, stage_at, wanted_at}
use Rattle.srcp_routes.specs.Stages.{after_reply, count_of, is_idle, order_of, ready_stage}
use Rattle.srcp_routes.specs.declared.route.Order.{Order}
use Rattle.srcp_routes.specs.declared.route.Route.{Route}
use Rattle.srcp_routes.specs.declared.route.Signal.{Signal}
use Rattle.srcp_routes.specs.declared.stage.Stage.{Stage}
use Rattle.srcp_routes.specs.declared.stage.Stage.TheVariants as stage
use Rattle.srcp_routes.proofs.Well.{below, fresh, well}

-- of a route with this number of turnouts, asked for or not, at a stage
abbrev pub cost : ℕ → Bool → Stage → ℕ
cost count wanted (stage.Locking done) = count + count + 5 + (count - done)
cost count wanted (stage.Throwing done) = count + 4 + (count - done)
cost count wanted stage.Showing = count + 4
cost count wanted stage.Reporting = count + 3
cost count wanted stage.Blocked = 0
cost count wanted stage.Stuck = 0
cost count wanted stage.Set = count + 2
cost count wanted (stage.Falling false) = count + 3
cost count wanted (stage.Falling true) = count + 2
cost count wanted (stage.Fallen false) = count + 2
cost count true (stage.Fallen true) = 0
cost count false (stage.Fallen true) = count + 1
cost count true stage.Ready = count + 4
cost count false stage.Ready = count + 1
cost count true stage.Idle = count + count + count + 5
cost count false stage.Idle = 0
cost count true stage.Closing = count + count + count + 6
cost count false stage.Closing = 1
cost count true stage.Clearing = count + count + count + 7
cost count false stage.Clearing = 2
cost count true (stage.Unlocking left) = count + count + count + 6 + left
cost count false (stage.Unlocking left) = left + 1
cost count true stage.Hiding = count + count + count + count + 6
cost count false stage.Hiding = count + 1
cost count true stage.Stopping = count + count + count + count + 7
cost count false stage.Stopping = count + 2

-- a route that gives up its locks
left_false : (count left : ℕ) (none : Bool) → (left == 0) ≡ none
    → cost count false (if none then stage.Idle else stage.Unlocking (left - 1)) ≤ left
left_false count left true is = omega arith
left_false count left false is = grind (arith, eqb-false left 0)

left_true : (count left : ℕ) (none : Bool) → (left == 0) ≡ none
    → cost count true (if none then stage.Idle else stage.Unlocking (left - 1)) ≤ count + count + count + 5 + left
left_true count left true is = omega arith
left_true count left false is = grind (arith, eqb-false left 0)

leaving_false : (count : ℕ) (x : Option Signal)
    → cost count false (option_map_or (λ signal. stage.Stopping) x stage.Hiding) ≤ count + 2
leaving_false count None = omega arith
leaving_false count (Some signal) = omega arith

thrown_true : (count : ℕ) (wanted : Bool) (x : Option Signal)
    → cost count wanted (option_map_or (λ x. stage.Ready) x stage.Reporting) ≤ count + 4
thrown_true count true None = omega arith
thrown_true count false None = omega arith
thrown_true count true (Some signal) = omega arith
thrown_true count false (Some signal) = omega arith

locking_cost : (count done : ℕ) (wanted more : Bool) → nat_lt (done + 1) count ≡ more → done < count
    → cost count wanted (if more then stage.Locking (done + 1) else stage.Throwing 0) + 1
    ≤ count + count + 5 + (count - done)
locking_cost count done wanted true is lt = omega (arith, ltb-true (done + 1) count is)
locking_cost count done wanted false is lt = omega (arith, ltb-false (done + 1) count is)

throwing_cost : (count done : ℕ) (wanted more : Bool) (x : Option Signal) → nat_lt (done + 1) count ≡ more → done < count
    → cost count wanted (if more then stage.Throwing (done + 1) else option_map_or (λ x. stage.Ready) x stage.Reporting) + 1
    ≤ count + 4 + (count - done)
throwing_cost count done wanted true x is lt = omega (arith, ltb-true (done + 1) count is)
throwing_cost count done wanted false x is lt = omega (arith, ltb-false (done + 1) count is, thrown_true count wanted x)

-- a reply is one order less; what is refused is not asked for any more
pub accepted_cost : (route : Route) (wanted : Bool) (s : Stage) (o : Order) → order_of route s ≡ Some o → well route s ≡ true
    → cost (count_of route) wanted (after_reply route s true) + 1 ≤ cost (count_of route) wanted s
accepted_cost route wanted (stage.Locking done) o e good =
    locking_cost (count_of route) done wanted (nat_lt (done + 1) (count_of route)) refl (below done (count_of route) good)
accepted_cost route wanted (stage.Throwing done) o e good = throwing_cost (count_of route) done wanted
    (nat_lt (done + 1) (count_of route)) route.signal refl (below done (count_of route) good)
accepted_cost route true (stage.Unlocking left) o e good =
    omega (arith, left_true (count_of route) left (left == 0) refl)
accepted_cost route false (stage.Unlocking left) o e good =
    omega (arith, left_false (count_of route) left (left == 0) refl)
accepted_cost route true stage.Hiding o e good =
    omega (arith, left_true (count_of route) (count_of route) (count_of route == 0) refl)
accepted_cost route false stage.Hiding o e good =
    omega (arith, left_false (count_of route) (count_of route) (count_of route == 0) refl)
accepted_cost route wanted stage.Idle o e good = absurd (cc)
accepted_cost route wanted stage.Blocked o e good = absurd (cc)
accepted_cost route wanted stage.Ready o e good = absurd (cc)
accepted_cost route wanted stage.Set o e good = absurd (cc)
accepted_cost route wanted (stage.Fallen true) o e good = absurd (cc)
accepted_cost route true (stage.Fallen false) o e good = omega arith
accepted_cost route false (stage.Fallen false) o e good = omega arith
accepted_cost route true (stage.Falling true) o e good = omega arith
accepted_cost route false (stage.Falling true) o e good = omega arith
accepted_cost route wanted (stage.Falling false) o e good = omega arith
accepted_cost route wanted stage.Stuck o e good = absurd (cc)
accepted_cost route true stage.Clearing o e good = omega arith
accepted_cost route false stage.Clearing o e good = omega arith
accepted_cost route true stage.Closing o e good = omega arith
accepted_cost route false stage.Closing o e good = omega arith
accepted_cost route true stage.Showing o e good = omega arith
accepted_cost route false stage.Showing o e good = omega arith
accepted_cost route true stage.Reporting o e good = omega arith
accepted_cost route false stage.Reporting o e good = omega arith
accepted_cost route true stage.Stopping o e good = omega arith
accepted_cost route false stage.Stopping o e good = omega arith

pub refused_cost : (route : Route) (wanted : Bool) (s : Stage) (o : Order) → order_of route s ≡ Some o → well route s ≡ true
    → cost (count_of route) false (after_reply route s false) + 1 ≤ cost (count_of route) wanted s
refused_cost route wanted (stage.Locking done) o e good = omega (
  arith,
  left_false (count_of route) done (done == 0) refl,
  below done (count_of route) good,
)
refused_cost route wanted (stage.Throwing done) o e good = omega arith
refused_cost route true (stage.Unlocking left) o e good =
    omega (arith, left_false (count_of route) left (left == 0) refl)
refused_cost route false (stage.Unlocking left) o e good =
    omega (arith, left_false (count_of route) left (left == 0) refl)
refused_cost route true stage.Hiding o e good =
    omega (arith, left_false (count_of route) (count_of route) (count_of route == 0) refl)
refused_cost route false stage.Hiding o e good =
    omega (arith, left_false (count_of route) (count_of route) (count_of route == 0) refl)
refused_cost route wanted stage.Idle o e good = absurd (cc)
refused_cost route wanted stage.Blocked o e good = absurd (cc)
refused_cost route wanted stage.Ready o e good = absurd (cc)
refused_cost route wanted stage.Set o e good = absurd (cc)
refused_cost route wanted (stage.Fallen true) o e good = absurd (cc)
refused_cost route wanted (stage.Fallen false) o e good = omega arith
refused_cost route wanted (stage.Falling true) o e good = omega arith
refused_cost route wanted (stage.Falling false) o e good = omega arith
refused_cost route wanted stage.Stuck o e good = absurd (cc)
refused_cost route true stage.Clearing o e good = omega arith
refused_cost route false stage.Clearing o e good = omega arith
refused_cost route true stage.Closing o e good = omega arith
refused_cost route false stage.Closing o e good = omega arith
refused_cost route wanted stage.Showing o e good = omega arith
refused_cost route wanted stage.Reporting o e good = omega (arith, leaving_false (count_of route) route.signal)
refused_cost route true stage.Stopping o e good = omega arith
refused_cost route false stage.Stopping o e good = omega arith

-- as a route becomes ready it has no more to send than before
first_cost : (count : ℕ) (none : Bool) (x : Option Signal) → (count == 0) ≡ none
    → cost count true (if none then option_map_or (λ signal. stage.Showing) x stage.Reporting else stage.Locking 0)
    ≤ count + count + count + 5
first_cost count true None is = omega arith
first_cost count true (Some signal) is = omega arith
first_cost count false x is = omega arith

pub ready_cost : (route : Route) (wanted free begins : Bool) (s : Stage) → (begins ≡ true → wanted ≡ true)
    → fresh s ≡ false → well route s ≡ true
    → cost (count_of route) wanted (ready_stage route wanted free begins s) ≤ cost (count_of route) wanted s
ready_cost route true free true stage.Idle may old good =
    first_cost (count_of route) (count_of route == 0) route.signal refl
ready_cost route false free true stage.Idle may old good = let no : false ≡ true = may refl in absurd (cc)
ready_cost route wanted free false stage.Idle may old good = omega arith
ready_cost route wanted free begins stage.Showing may old good = absurd (cc)
ready_cost route true true begins stage.Ready may old good = omega arith
ready_cost route true false begins stage.Ready may old good = omega arith
ready_cost route false free begins stage.Ready may old good = omega arith
ready_cost route false free begins (stage.Locking done) may old good =
    omega (arith, left_false (count_of route) done (done == 0) refl, below done (count_of route) good)
ready_cost route false free begins (stage.Throwing done) may old good = omega arith
ready_cost route false free begins stage.Reporting may old good = omega (arith, leaving_false (count_of route) route.signal)
ready_cost route false free begins stage.Set may old good = leaving_false (count_of route) route.signal
ready_cost route wanted free begins (stage.Falling told) may old good = absurd (cc)
ready_cost route false free begins (stage.Fallen true) may old good = omega arith
ready_cost route false free begins (stage.Fallen false) may old good = omega arith
ready_cost route true free begins other may old good = omega arith
ready_cost route false free begins other may old good = omega arith

-- all routes below a number
abbrev pub total : (ℕ → ℕ) → ℕ → ℕ
total f zero = 0
total f (suc n) = total f n + f n

pub total_le : (f g : ℕ → ℕ) (k : ℕ) → ((n : ℕ) → f n ≤ g n) → total f k ≤ total g k
total_le f g zero le = omega arith
total_le f g (suc k) le = omega (arith, total_le f g k le, le k)

pub total_less : (f g : ℕ → ℕ) (k i : ℕ) → i < k → f i + 1 ≤ g i → ((n : ℕ) → f n ≤ g n) → total f k + 1 ≤ total g k
total_less f g zero i lt one le = absurd (omega (arith, lt))
total_less f g (suc k) i lt one le = elim (eq-or-lt_of_le {n = i} {m = k} (omega (arith, lt))) [
  | inl same ↦
      let here : f k + 1 ≤ g k = subst (λ (m : ℕ). f m + 1 ≤ g m) same one in
      omega (arith, total_le f g k le, here)
  | inr lower ↦ omega (arith, total_less f g k i lower one le, le k)
]

-- what a route sends more that is asked for again before it ended
abbrev pub extra : ℕ → Bool → ℕ
extra count true = count + count + count + 5
extra count false = 0

pub idle_cost : (count : ℕ) (wanted : Bool) (s : Stage) → is_idle s ≡ true → cost count wanted s ≤ extra count true
idle_cost count true stage.Idle h = omega arith
idle_cost count false stage.Idle h = omega arith
idle_cost count wanted other h = absurd (cc)

-- what a route has to send, by its place
abbrev pub cost_at : Table → ℕ → ℕ
cost_at t n = option_map_or (λ (route : Route). cost (count_of route) (wanted_at t.wanted n) (stage_at t.stages n)
    + extra (count_of route) (wanted_at t.again n)) (slice_get t.routes n) 0

abbrev pub work : Table → ℕ
work t = total (cost_at t) (length t.routes)
