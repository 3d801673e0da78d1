-- Once no order waits for its reply, each route that is wanted is set, or waits for a reason.
use Rattle.std.proofs.Common.{◌≡◌, ◌≢◌, inl, inr, ℕ, zero, suc, ◌-◌, ◌==◌, ◌<◌, ◌≤◌, Bool, true, false, not, ◌&&◌, ◌||◌}
use Rattle.std.proofs.Common.{Option, Some, None, List, [], ◌∷◌, length, refl, sym, ◌∙◌, ap, arith, subst}
use Rattle.std.proofs.lemmas.Bool.{and_parts, eqb-false, eqb-true, not-true, or_cases, or_left, or_right}
use Rattle.std.proofs.lemmas.Option.{slice_get_within}
use Rattle.std.specs.Option.{option_and_then, option_map, option_map_or}
use Rattle.std.specs.Prelude.{if◌then◌else◌, is_some, nat_lt, slice_get}
use Rattle.srcp_routes.specs.Conflicts.{are_free}
use Rattle.srcp_routes.specs.Laws.{IsBehind, IsServed, is_asked, is_unstopped, stands, stays}
use Rattle.srcp_routes.specs.Plan.{Table, conflict_at, delay_at, is_clear, lets, stage_at, wanted_at}
use Rattle.srcp_routes.specs.Stages.{count_of, is_hiding, is_idle, order_of, ready_stage, turnout_at}
use Rattle.srcp_routes.specs.Steps.{after, due, heard, is_kept, may_begin, order_at, ready_in, sent}
use Rattle.srcp_routes.specs.declared.interlocking.Event.{Event}
use Rattle.srcp_routes.specs.declared.route.Order.{Order}
use Rattle.srcp_routes.specs.declared.route.Order.TheVariants as order
use Rattle.srcp_routes.specs.declared.route.Route.{Route}
use Rattle.srcp_routes.specs.declared.route.Setting.{Setting}
use Rattle.srcp_routes.specs.declared.route.Signal.{Signal}
use Rattle.srcp_routes.specs.declared.stage.Stage.{Stage}
use Rattle.srcp_routes.specs.declared.stage.Stage.TheVariants as stage
use Rattle.srcp_routes.proofs.Again.{AllBusy, heard_busy}
use Rattle.srcp_routes.proofs.Falls.{has_fallen, in_keeps}
use Rattle.srcp_routes.proofs.Loops.{Fails, fails_below, none_found}
use Rattle.srcp_routes.proofs.Pending.{Fits, heard_fits}
use Rattle.srcp_routes.proofs.Sound.{IsSound}
use Rattle.srcp_routes.proofs.Well.{AllSent, AllWell, below, fresh, heard_sent, heard_well, well}

-- at this stage a route has no order to send
abbrev pub rests : (kept wanted free begins : Bool) → Stage → Bool
rests kept wanted free begins stage.Idle = not begins
rests kept wanted free begins stage.Ready = wanted && not free
rests kept wanted free begins stage.Set = wanted
rests kept wanted free begins (stage.Fallen true) = wanted
rests kept wanted free begins stage.Blocked = true
rests kept wanted free begins stage.Stuck = true
rests kept wanted free begins stage.Hiding = kept
rests kept wanted free begins other = false

pub mapped : {X : Type 0} → (f : X → Order) (x : Option X) → is_some x ≡ true → is_some (option_map f x) ≡ true
mapped f None h = absurd (cc)
mapped f (Some y) h = refl

past_route : (xs : List Route) (k : ℕ) → slice_get xs k ≡ None → k < length xs → zero ≡ suc zero
past_route [] k none lt = absurd (omega (arith, lt))
past_route (x ∷ xs) zero none lt = absurd (cc)
past_route (x ∷ xs) (suc k) none lt = past_route xs k none (omega (arith, lt))

past_of : (xs : List Setting) (k : ℕ) → slice_get xs k ≡ None → k < length xs → zero ≡ suc zero
past_of [] k none lt = absurd (omega (arith, lt))
past_of (x ∷ xs) zero none lt = absurd (cc)
past_of (x ∷ xs) (suc k) none lt = past_of xs k none (omega (arith, lt))

turnout_is : (route : Route) (k : ℕ) (x : Option Setting) → turnout_at route k ≡ x → k < count_of route → is_some x ≡ true
turnout_is route k None is lt =
    let no : zero ≡ suc zero = past_of route.turnouts.items k is lt in absurd (cc)
turnout_is route k (Some turnout) is lt = refl

some_turnout : (route : Route) (k : ℕ) → k < count_of route → is_some (turnout_at route k) ≡ true
some_turnout route k lt = turnout_is route k (turnout_at route k) refl lt

unlocking_sends : (route : Route) (left : ℕ) (none : Bool) → (left == 0) ≡ none → left ≢ 0 → left ≤ count_of route
    → is_some (order_of route (if none then stage.Idle else stage.Unlocking (left - 1))) ≡ true
unlocking_sends route left true is some le = absurd (some (eqb-true left 0 is))
unlocking_sends route left false is some le = mapped (λ (setting : Setting). order.Unlock setting.device)
    (turnout_at route (left - 1)) (some_turnout route (left - 1) (grind arith))

leaving_sends : (route : Route) (x : Option Signal) → route.signal ≡ x
    → is_some (order_of route (option_map_or (λ signal. stage.Stopping) x stage.Hiding)) ≡ true
leaving_sends route None is = refl
leaving_sends route (Some signal) is = mapped _ route.signal (ap (λ (x : Option Signal). is_some x) is)

showing_sends : (route : Route) (x : Option Signal) → route.signal ≡ x
    → is_some (order_of route (option_map_or (λ signal. stage.Showing) x stage.Reporting)) ≡ true
showing_sends route None is = refl
showing_sends route (Some signal) is = mapped _ route.signal (ap (λ (x : Option Signal). is_some x) is)

first_sends : (route : Route) (none : Bool) → (count_of route == 0) ≡ none
    → is_some (order_of route (if none then option_map_or (λ signal. stage.Showing) route.signal stage.Reporting
    else stage.Locking 0)) ≡ true
first_sends route true is = showing_sends route route.signal refl
first_sends route false is = mapped (λ (setting : Setting). order.Lock setting.device) (turnout_at route 0)
    (some_turnout route 0 (grind (arith, eqb-false (count_of route) 0 is)))

must_rest : (route : Route) (kept wanted free begins : Bool) (s : Stage) → well route s ≡ true → fresh s ≡ false
    → is_some (if is_hiding s && kept then None else order_of route (ready_stage route wanted free begins s)) ≡ false
    → rests kept wanted free begins s ≡ true
must_rest route kept wanted free true stage.Idle good old none =
    let sends : is_some (order_of route (ready_stage route wanted free true stage.Idle)) ≡ true =
    first_sends route (count_of route == 0) refl in
    absurd (cc)
must_rest route kept wanted free false stage.Idle good old none = refl
must_rest route kept true true begins stage.Ready good old none =
    let sends : is_some (order_of route stage.Showing) ≡ true = mapped _ route.signal good in absurd (cc)
must_rest route kept true false begins stage.Ready good old none = refl
must_rest route kept false free begins stage.Ready good old none = absurd (cc)
must_rest route kept wanted free begins stage.Showing good old none = absurd (cc)
must_rest route kept true free begins stage.Set good old none = refl
must_rest route kept false free begins stage.Set good old none =
    let sends : is_some (order_of route (ready_stage route false free begins stage.Set)) ≡ true =
    leaving_sends route route.signal refl in absurd (cc)
must_rest route kept wanted free begins (stage.Falling told) good old none = absurd (cc)
must_rest route kept true free begins (stage.Fallen true) good old none = refl
must_rest route kept false free begins (stage.Fallen true) good old none = absurd (cc)
must_rest route kept true free begins (stage.Fallen false) good old none = absurd (cc)
must_rest route kept false free begins (stage.Fallen false) good old none = absurd (cc)
must_rest route kept wanted free begins stage.Blocked good old none = refl
must_rest route kept wanted free begins stage.Stuck good old none = refl
must_rest route kept true free begins stage.Clearing good old none =
    let sends : is_some (order_of route stage.Clearing) ≡ true = mapped _ route.signal good in absurd (cc)
must_rest route kept false free begins stage.Clearing good old none =
    let sends : is_some (order_of route stage.Clearing) ≡ true = mapped _ route.signal good in absurd (cc)
must_rest route kept true free begins stage.Closing good old none = absurd (cc)
must_rest route kept false free begins stage.Closing good old none = absurd (cc)
must_rest route kept true free begins (stage.Locking done) good old none =
    let sends : is_some (order_of route (stage.Locking done)) ≡ true =
    mapped (λ (setting : Setting). order.Lock setting.device) (turnout_at route done)
    (some_turnout route done (below done (count_of route) good)) in absurd (cc)
must_rest route kept false free begins (stage.Locking done) good old none =
    let sends : is_some (order_of route (ready_stage route false free begins (stage.Locking done))) ≡ true =
    unlocking_sends route done (done == 0) refl (eqb-false done 0 old) (omega (arith, below done (count_of route) good)) in
    absurd (cc)
must_rest route kept true free begins (stage.Throwing done) good old none =
    let sends : is_some (order_of route (stage.Throwing done)) ≡ true =
    mapped order.Throw (turnout_at route done) (some_turnout route done (below done (count_of route) good)) in absurd (cc)
must_rest route kept false free begins (stage.Throwing done) good old none = absurd (cc)
must_rest route kept true free begins stage.Reporting good old none = absurd (cc)
must_rest route kept false free begins stage.Reporting good old none =
    let sends : is_some (order_of route (ready_stage route false free begins stage.Reporting)) ≡ true =
    leaving_sends route route.signal refl in absurd (cc)
must_rest route kept true free begins stage.Stopping good old none =
    let sends : is_some (order_of route stage.Stopping) ≡ true = mapped _ route.signal good in absurd (cc)
must_rest route kept false free begins stage.Stopping good old none =
    let sends : is_some (order_of route stage.Stopping) ≡ true = mapped _ route.signal good in absurd (cc)
must_rest route true wanted free begins stage.Hiding good old none = refl
must_rest route false true free begins stage.Hiding good old none = absurd (cc)
must_rest route false false free begins stage.Hiding good old none = absurd (cc)
must_rest route kept true free begins (stage.Unlocking left) good old none =
    let sends : is_some (order_of route (stage.Unlocking left)) ≡ true =
    mapped (λ (setting : Setting). order.Unlock setting.device) (turnout_at route left)
    (some_turnout route left (below left (count_of route) good)) in absurd (cc)
must_rest route kept false free begins (stage.Unlocking left) good old none =
    let sends : is_some (order_of route (stage.Unlocking left)) ≡ true =
    mapped (λ (setting : Setting). order.Unlock setting.device) (turnout_at route left)
    (some_turnout route left (below left (count_of route) good)) in absurd (cc)

-- what holds of a table at rest
pub record IsResting (routes : List Route) (t : Table) : Type 0 where
  pub fits : Fits routes t
  pub well : AllWell t.routes t.stages
  pub sent : AllSent t.stages t.waiting
  pub busy : AllBusy t.stages t.again
  pub waits : t.waiting ≡ None
  pub due : due t ≡ None

pub not_fresh : (stages : List Stage) (waiting : Option ℕ) (n : ℕ) (f : Bool) → fresh (stage_at stages n) ≡ f → waiting ≡ None
    → AllSent stages waiting → f ≡ false
not_fresh stages waiting n true is waits all = let both : None ≡ Some n = sym waits ∙ all n is in absurd (cc)
not_fresh stages waiting n false is waits all = refl

-- a route of a table at rest has no order
pub none_at : (routes : List Route) (t : Table) (n : ℕ) (route : Route) → IsResting routes t
    → slice_get t.routes n ≡ Some route
    → is_some (if is_kept t n then None else order_of route (ready_in t n route)) ≡ false
none_at routes t n route resting is = subst (λ (x : Option Route). is_some (if is_kept t n then None else option_and_then
    (λ (a : Route). order_of a (option_map_or (ready_in t n) x stage.Idle)) x) ≡ false) is
    (none_found (λ n. is_some (order_at t n)) 0 (length t.routes) n (omega arith)
    (omega (arith, slice_get_within t.routes n route is)) resting.due)

-- a signal that falls is stopped
falls_rest : (kept : Bool) (route : Route) (s z : Stage) (P : Type 0) → is_some (order_of route z) ≡ true
    → (is_some (if kept then None else order_of route s) ≡ false → P)
    → is_some (if kept then None else order_of route z) ≡ false → P
falls_rest true route s z P sends f none = f refl
falls_rest false route s z P sends f none = absurd (cc)

-- a route of a table at rest has a stage of these
abbrev pub RestsAt : Table → ℕ → Route → Type 0
RestsAt t n route = rests (nat_lt 0 (delay_at t.delays n)) (wanted_at t.wanted n) (are_free t.sensors route.blocks.items)
    (may_begin t n (are_free t.sensors route.blocks.items)) (stage_at t.stages n) ≡ true

pub rests_at : (routes : List Route) (t : Table) (n : ℕ) (route : Route) → IsResting routes t
    → slice_get t.routes n ≡ Some route → RestsAt t n route
rests_at routes t n route resting is =
    in_keeps (λ s. is_some (if is_kept t n then None else order_of route s) ≡ false → RestsAt t n route) t n route
    (λ some f none. falls_rest (is_kept t n) route stage.Reporting (stage.Falling false) _ (mapped _ route.signal some) f none)
    (λ some f none. falls_rest (is_kept t n) route stage.Set (stage.Falling true) _ (mapped _ route.signal some) f none)
    (must_rest route (nat_lt 0 (delay_at t.delays n)) (wanted_at t.wanted n) (are_free t.sensors route.blocks.items)
    (may_begin t n (are_free t.sensors route.blocks.items)) (stage_at t.stages n) (resting.well n route is)
    (not_fresh t.stages t.waiting n (fresh (stage_at t.stages n)) refl resting.waits resting.sent))
    (none_at routes t n route resting is)

pub stays_else : (kept wanted free begins : Bool) (s : Stage) → rests kept wanted free begins s ≡ true → is_idle s ≡ false
    → is_hiding s ≡ false → stays wanted s ≡ true
stays_else kept wanted free begins stage.Idle rest busy not = absurd (cc)
stays_else kept true free begins stage.Ready rest busy not = refl
stays_else kept false free begins stage.Ready rest busy not = absurd (cc)
stays_else kept wanted free begins stage.Set rest busy not = rest
stays_else kept wanted free begins (stage.Fallen true) rest busy not = rest
stays_else kept wanted free begins stage.Blocked rest busy not = refl
stays_else kept wanted free begins stage.Stuck rest busy not = refl
stays_else kept wanted free begins other rest busy not = absurd (cc)

pub stays_of : (kept wanted free begins : Bool) (s : Stage) → rests kept wanted free begins s ≡ true → is_idle s ≡ false
    → (kept || stays wanted s) ≡ true
stays_of kept wanted free begins stage.Hiding rest busy = or_left kept (stays wanted stage.Hiding) rest
stays_of kept wanted free begins other rest busy =
    or_right kept (stays wanted other) (stays_else kept wanted free begins other rest busy refl)

-- a route that keeps its locks for its delay does so
abbrev pub Keeping : Table → (ℕ → Bool) → Type 0
Keeping t keeps = (n : ℕ) (route : Route) → slice_get t.routes n ≡ Some route
    → nat_lt 0 (delay_at t.delays n) ≡ true → keeps n ≡ true

or_more : (a b c : Bool) → (a ≡ true → b ≡ true) → (a || c) ≡ true → (b || c) ≡ true
or_more true b c more h = or_left b c (more refl)
or_more false b c more h = or_right b c h

lets_not : (clash idle : Bool) → (not clash || idle) ≡ false → (clash ≡ true) × (idle ≡ false)
lets_not true idle h = (refl, h)
lets_not false idle h = absurd (cc)

behind_at : (routes : List Route) (t : Table) (keeps : ℕ → Bool) (n m : ℕ) (x : Option Route) → IsResting routes t
    → Keeping t keeps → m < length t.routes → slice_get t.routes m ≡ x → conflict_at t.routes n m ≡ true
    → is_idle (stage_at t.stages m) ≡ false → IsBehind t.routes t keeps n
behind_at routes t keeps n m None resting keeping lt is clash busy =
    let no : zero ≡ suc zero = past_route t.routes m is lt in absurd (cc)
behind_at routes t keeps n m (Some route) resting keeping lt is clash busy = record {
  other = m;
  conflict = clash;
  stays = or_more (nat_lt 0 (delay_at t.delays m)) (keeps m) (stays (wanted_at t.wanted m) (stage_at t.stages m))
      (keeping m route is)
      (stays_of (nat_lt 0 (delay_at t.delays m)) (wanted_at t.wanted m) (are_free t.sensors route.blocks.items)
      (may_begin t m (are_free t.sensors route.blocks.items)) (stage_at t.stages m) (rests_at routes t m route resting is)
      busy);
}

behind : (routes : List Route) (t : Table) (keeps : ℕ → Bool) (n : ℕ) → IsResting routes t → Keeping t keeps
    → is_clear t.routes t.stages n ≡ false → IsBehind t.routes t keeps n
behind routes t keeps n resting keeping h =
    let one : Fails (lets t.routes t.stages n) (length t.routes) =
    fails_below (lets t.routes t.stages n) (length t.routes) h in
    let two : (conflict_at t.routes n one.at ≡ true) × (is_idle (stage_at t.stages one.at) ≡ false) =
    lets_not (conflict_at t.routes n one.at) (is_idle (stage_at t.stages one.at)) one.fails in
    behind_at routes t keeps n one.at (slice_get t.routes one.at) resting keeping one.lt refl two.0 two.1

idle_served : (routes : List Route) (t : Table) (entered : Bool) (keeps : ℕ → Bool) (n : ℕ) (route : Route) (free clear : Bool)
    → IsResting routes t → Keeping t keeps → are_free t.sensors route.blocks.items ≡ free → is_clear t.routes t.stages n ≡ clear
    → (free && clear) ≡ false → IsServed t.routes t entered keeps n route
idle_served routes t entered keeps n route false clear resting keeping free is none = inr (inl free)
idle_served routes t entered keeps n route true true resting keeping free is none = absurd (cc)
idle_served routes t entered keeps n route true false resting keeping free is none =
    inr (inr (inr (inr (behind routes t keeps n resting keeping is))))

-- the signal of a route fell only if the train has entered
abbrev pub Entered : Table → Bool → ℕ → Type 0
Entered t entered n = has_fallen (stage_at t.stages n) ≡ true → entered ≡ true

served_of : (routes : List Route) (t : Table) (entered : Bool) (keeps : ℕ → Bool) (n : ℕ) (route : Route)
    (kept wanted free begins : Bool) (s : Stage) → IsResting routes t → Keeping t keeps → (kept ≡ true → keeps n ≡ true)
    → Entered t entered n → stage_at t.stages n ≡ s → wanted ≡ true
    → are_free t.sensors route.blocks.items ≡ free
    → (is_idle s && (wanted && (free && is_clear t.routes t.stages n))) ≡ begins
    → rests kept wanted free begins s ≡ true → IsServed t.routes t entered keeps n route
served_of routes t entered keeps n route kept true free false stage.Idle resting keeping held came is wants blocks may rest =
    idle_served routes t entered keeps n route free (is_clear t.routes t.stages n) resting keeping blocks refl may
served_of routes t entered keeps n route kept false free begins stage.Idle resting keeping held came is wants blocks may rest = absurd (cc)
served_of routes t entered keeps n route kept wanted free true stage.Idle resting keeping held came is wants blocks may rest = absurd (cc)
served_of routes t entered keeps n route kept wanted free begins stage.Ready resting keeping held came is wants blocks may rest =
    inr (inl (blocks ∙ not-true free (and_parts wanted (not free) rest).1))
served_of routes t entered keeps n route kept wanted free begins stage.Set resting keeping held came is wants blocks may rest =
    inl (ap (stands entered) is)
served_of routes t entered keeps n route kept wanted free begins (stage.Fallen true) resting keeping held came is wants blocks may rest =
    inl (ap (stands entered) is ∙ came (ap has_fallen is))
served_of routes t entered keeps n route kept wanted free begins stage.Blocked resting keeping held came is wants blocks may rest =
    inr (inr (inl (ap is_unstopped is)))
served_of routes t entered keeps n route kept wanted free begins stage.Stuck resting keeping held came is wants blocks may rest =
    inr (inr (inl (ap is_unstopped is)))
served_of routes t entered keeps n route kept wanted free begins stage.Hiding resting keeping held came is wants blocks may rest =
    inr (inr (inr (inl (held rest))))
served_of routes t entered keeps n route kept wanted free begins other resting keeping held came is wants blocks may rest = absurd (cc)

wanted_served : (routes : List Route) (t : Table) (entered : Bool) (keeps : ℕ → Bool) (n : ℕ) (route : Route) → IsResting routes t
    → Keeping t keeps → Entered t entered n → slice_get t.routes n ≡ Some route → wanted_at t.wanted n ≡ true
    → IsServed t.routes t entered keeps n route
wanted_served routes t entered keeps n route resting keeping came is wants =
    served_of routes t entered keeps n route (nat_lt 0 (delay_at t.delays n)) (wanted_at t.wanted n) (are_free t.sensors route.blocks.items)
    (may_begin t n (are_free t.sensors route.blocks.items)) (stage_at t.stages n) resting keeping (keeping n route is) came
    refl wants refl refl (rests_at routes t n route resting is)

-- a route that was given back, and could not end
pub stays_back : (s : Stage) → stays false s ≡ true → is_unstopped s ≡ true
stays_back stage.Set h = absurd (cc)
stays_back stage.Ready h = absurd (cc)
stays_back (stage.Fallen true) h = absurd (cc)
stays_back other h = h

-- a route that is asked for again before it ended waits for its signal
again_served : (routes : List Route) (t : Table) (entered : Bool) (keeps : ℕ → Bool) (n : ℕ) (route : Route) (wanted : Bool)
    → IsResting routes t → Keeping t keeps → Entered t entered n → slice_get t.routes n ≡ Some route → wanted_at t.wanted n ≡ wanted
    → wanted_at t.again n ≡ true → IsServed t.routes t entered keeps n route
again_served routes t entered keeps n route true resting keeping came is wants again =
    wanted_served routes t entered keeps n route resting keeping came is wants
again_served routes t entered keeps n route false resting keeping came is wants again =
    let rest : (nat_lt 0 (delay_at t.delays n) || stays (wanted_at t.wanted n) (stage_at t.stages n)) ≡ true =
    stays_of (nat_lt 0 (delay_at t.delays n)) (wanted_at t.wanted n) (are_free t.sensors route.blocks.items)
    (may_begin t n (are_free t.sensors route.blocks.items)) (stage_at t.stages n) (rests_at routes t n route resting is)
    (resting.busy n again) in
    elim (or_cases (nat_lt 0 (delay_at t.delays n)) (stays (wanted_at t.wanted n) (stage_at t.stages n)) rest) [
      | inl kept ↦ inr (inr (inr (inl (keeping n route is kept))))
      | inr stayed ↦ inr (inr (inl (stays_back (stage_at t.stages n)
          (subst (λ (w : Bool). stays w (stage_at t.stages n) ≡ true) wants stayed))))
    ]

pub resting_served : (routes : List Route) (t : Table) (entered : Bool) (keeps : ℕ → Bool) (n : ℕ) (route : Route) → IsResting routes t
    → Keeping t keeps → Entered t entered n → slice_get t.routes n ≡ Some route → is_asked t n ≡ true
    → IsServed t.routes t entered keeps n route
resting_served routes t entered keeps n route resting keeping came is asks =
    elim (or_cases (wanted_at t.wanted n) (wanted_at t.again n) asks) [
      | inl wants ↦ wanted_served routes t entered keeps n route resting keeping came is wants
      | inr again ↦ again_served routes t entered keeps n route (wanted_at t.wanted n) resting keeping came is refl again
    ]

-- a table in which no order waits after a step is at rest
heard_resting : (routes : List Route) (t : Table) (event : Event) → IsSound routes t → (heard t event).waiting ≡ None
    → due (heard t event) ≡ None → IsResting routes (heard t event)
heard_resting routes t event sound waits none = record {
  fits = heard_fits routes t event sound.fits;
  well = heard_well t event sound.well;
  sent = heard_sent routes t sound.last event sound.fits sound.pends sound.sent;
  busy = heard_busy t event sound.busy;
  waits = waits;
  due = none;
}

next_resting : (routes : List Route) (t : Table) (x d : Option ℕ) → t.waiting ≡ x → due t ≡ d
    → (t.waiting ≡ None → due t ≡ None → IsResting routes t)
    → (if is_some x then record { table = t; order = None } else sent t d).table.waiting ≡ None
    → IsResting routes (if is_some x then record { table = t; order = None } else sent t d).table
next_resting routes t (Some n) d waits is so none = let both : Some n ≡ None = sym waits ∙ none in absurd (cc)
next_resting routes t None None waits is so none = so waits is
next_resting routes t None (Some n) waits is so none = absurd (cc)

pub after_resting : (routes : List Route) (t : Table) (event : Event) → IsSound routes t → (after t event).waiting ≡ None
    → IsResting routes (after t event)
after_resting routes t event sound none = next_resting routes (heard t event) (heard t event).waiting (due (heard t event))
    refl refl (heard_resting routes t event sound) none
