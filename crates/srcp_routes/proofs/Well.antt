-- Which stages a route comes to, and at which of them its order has been sent.
use Rattle.std.proofs.Common.{◌≡◌, ◌≢◌, ◌⊎◌, inl, inr, ℕ, ◌+◌, ◌-◌, ◌==◌, ◌<◌, ◌≤◌, Bool, true, false}
use Rattle.std.proofs.Common.{Option, Some, None, List, length, refl, sym, ◌∙◌, ap, arith, subst}
use Rattle.std.proofs.lemmas.Bool.{cases_eq, eqb-false, lt-ltb, ltb-true, ne_eqb}
use Rattle.std.proofs.lemmas.Option.{slice_get_within}
use Rattle.std.specs.Option.{option_map_or}
use Rattle.std.specs.Prelude.{if◌then◌else◌, is_some, map, nat_lt, slice_get, slice_set}
use Rattle.srcp_routes.specs.Conflicts.{are_free}
use Rattle.srcp_routes.specs.Plan.{Table, stage_at, wanted_at}
use Rattle.srcp_routes.specs.Stages.{after_reply, count_of, is_held, lost_stage, order_of, ready_stage}
use Rattle.srcp_routes.specs.Stages.{retried_stage}
use Rattle.srcp_routes.specs.Steps.{answered, heard, may_begin, ready_at, ready_in, sent, stage_replied}
use Rattle.srcp_routes.specs.declared.interlocking.Event.{Event}
use Rattle.srcp_routes.specs.declared.interlocking.Event.TheVariants.{Ask, Give, Told, Second, Reply, Lost}
use Rattle.srcp_routes.specs.declared.route.Order.{Order}
use Rattle.srcp_routes.specs.declared.route.Route.{Route}
use Rattle.srcp_routes.specs.declared.route.Signal.{Signal}
use Rattle.srcp_routes.specs.declared.stage.Stage.{Stage}
use Rattle.srcp_routes.specs.declared.stage.Stage.TheVariants as stage
use Rattle.srcp_routes.proofs.Apart.{stage_at-set, stage_at-set_same, stage_at-start}
use Rattle.srcp_routes.proofs.Falls.{in_keeps}
use Rattle.srcp_routes.proofs.Pending.{Fits, Pends, PendsAt}
use Rattle.srcp_routes.proofs.Signals.{start_stage}

-- a stage that its route can come to
abbrev pub well : Route → Stage → Bool
well route stage.Clearing = is_some route.signal
well route stage.Blocked = is_some route.signal
well route stage.Ready = is_some route.signal
well route stage.Showing = is_some route.signal
well route stage.Stopping = is_some route.signal
well route stage.Stuck = is_some route.signal
well route (stage.Falling told) = is_some route.signal
well route (stage.Fallen told) = is_some route.signal
well route (stage.Locking done) = nat_lt done (count_of route)
well route (stage.Throwing done) = nat_lt done (count_of route)
well route (stage.Unlocking left) = nat_lt left (count_of route)
well route other = true

left_well : (route : Route) (left : ℕ) (none : Bool) → (left == 0) ≡ none → left ≤ count_of route
    → well route (if none then stage.Idle else stage.Unlocking (left - 1)) ≡ true
left_well route left true is le = refl
left_well route left false is le =
    lt-ltb (left - 1) (count_of route) (grind (arith, eqb-false left 0 is))

leaving_well : (route : Route) (x : Option Signal) → route.signal ≡ x
    → well route (option_map_or (λ signal. stage.Stopping) x stage.Hiding) ≡ true
leaving_well route None is = refl
leaving_well route (Some signal) is = ap (λ (x : Option Signal). is_some x) is

thrown_well : (route : Route) (x : Option Signal) → route.signal ≡ x
    → well route (option_map_or (λ signal. stage.Ready) x stage.Reporting) ≡ true
thrown_well route None is = refl
thrown_well route (Some signal) is = ap (λ (x : Option Signal). is_some x) is

shown_well : (route : Route) (x : Option Signal) → route.signal ≡ x
    → well route (option_map_or (λ signal. stage.Showing) x stage.Reporting) ≡ true
shown_well route None is = refl
shown_well route (Some signal) is = ap (λ (x : Option Signal). is_some x) is

pub lost_well : (route : Route) (x : Option Signal) → route.signal ≡ x
    → well route (option_map_or (λ signal. stage.Clearing) x stage.Closing) ≡ true
lost_well route None is = refl
lost_well route (Some signal) is = ap (λ (x : Option Signal). is_some x) is

pub below : (a b : ℕ) → nat_lt a b ≡ true → a < b
below a b h = ltb-true a b h

locking_well : (route : Route) (done : ℕ) (more : Bool) → nat_lt (done + 1) (count_of route) ≡ more
    → nat_lt done (count_of route) ≡ true
    → well route (if more then stage.Locking (done + 1) else stage.Throwing 0) ≡ true
locking_well route done true is h = is
locking_well route done false is h = lt-ltb 0 (count_of route) (omega (arith, below done (count_of route) h))

throwing_well : (route : Route) (done : ℕ) (more : Bool) → nat_lt (done + 1) (count_of route) ≡ more
    → well route (if more then stage.Throwing (done + 1) else option_map_or (λ x. stage.Ready) route.signal stage.Reporting) ≡ true
throwing_well route done true is = is
throwing_well route done false is = thrown_well route route.signal refl

reply_well : (route : Route) (s : Stage) (ok : Bool) → well route s ≡ true → well route (after_reply route s ok) ≡ true
reply_well route (stage.Locking done) true h = locking_well route done (nat_lt (done + 1) (count_of route)) refl h
reply_well route (stage.Locking done) false h =
    left_well route done (done == 0) refl (omega (arith, below done (count_of route) h))
reply_well route (stage.Throwing done) true h = throwing_well route done (nat_lt (done + 1) (count_of route)) refl
reply_well route (stage.Throwing done) false h = refl
reply_well route (stage.Unlocking left) true h =
    left_well route left (left == 0) refl (omega (arith, below left (count_of route) h))
reply_well route (stage.Unlocking left) false h =
    left_well route left (left == 0) refl (omega (arith, below left (count_of route) h))
reply_well route stage.Hiding true h = left_well route (count_of route) (count_of route == 0) refl (omega arith)
reply_well route stage.Hiding false h = left_well route (count_of route) (count_of route == 0) refl (omega arith)
reply_well route stage.Idle true h = refl
reply_well route stage.Idle false h = refl
reply_well route stage.Clearing true h = refl
reply_well route stage.Clearing false h = h
reply_well route stage.Blocked true h = h
reply_well route stage.Blocked false h = h
reply_well route stage.Closing true h = refl
reply_well route stage.Closing false h = refl
reply_well route stage.Ready true h = h
reply_well route stage.Ready false h = h
reply_well route stage.Showing true h = refl
reply_well route stage.Showing false h = h
reply_well route stage.Reporting true h = refl
reply_well route stage.Reporting false h = leaving_well route route.signal refl
reply_well route stage.Set true h = refl
reply_well route stage.Set false h = refl
reply_well route stage.Stopping true h = refl
reply_well route stage.Stopping false h = h
reply_well route (stage.Falling told) true h = h
reply_well route (stage.Falling told) false h = h
reply_well route (stage.Fallen false) true h = h
reply_well route (stage.Fallen false) false h = refl
reply_well route (stage.Fallen true) true h = h
reply_well route (stage.Fallen true) false h = h
reply_well route stage.Stuck true h = h
reply_well route stage.Stuck false h = h

first_well : (route : Route) (none : Bool) → (count_of route == 0) ≡ none
    → well route (if none then option_map_or (λ x. stage.Showing) route.signal stage.Reporting else stage.Locking 0) ≡ true
first_well route true is = shown_well route route.signal refl
first_well route false is = lt-ltb 0 (count_of route) (grind (arith, eqb-false (count_of route) 0 is))

ready_well : (route : Route) (wanted free begins : Bool) (s : Stage) → well route s ≡ true
    → well route (ready_stage route wanted free begins s) ≡ true
ready_well route wanted free true stage.Idle h = first_well route (count_of route == 0) refl
ready_well route wanted free false stage.Idle h = refl
ready_well route wanted free begins stage.Showing h = h
ready_well route true true begins stage.Ready h = h
ready_well route true false begins stage.Ready h = h
ready_well route false free begins stage.Ready h = refl
ready_well route true free begins other h = h
ready_well route false free begins (stage.Locking done) h =
    left_well route done (done == 0) refl (omega (arith, below done (count_of route) h))
ready_well route false free begins (stage.Throwing done) h = refl
ready_well route false free begins stage.Reporting h = leaving_well route route.signal refl
ready_well route false free begins stage.Set h = leaving_well route route.signal refl
ready_well route false free begins (stage.Fallen told) h = refl
ready_well route false free begins other h = h

retried_well : (route : Route) (s : Stage) → well route s ≡ true → well route (retried_stage s) ≡ true
retried_well route stage.Blocked h = h
retried_well route stage.Stuck h = h
retried_well route other h = h

-- at this stage the order of a route has been sent
abbrev pub fresh : Stage → Bool
fresh (stage.Locking done) = done == 0
fresh stage.Showing = true
fresh (stage.Falling told) = true
fresh other = false

pub fresh_held : (s : Stage) → fresh s ≡ true → is_held s ≡ true
fresh_held (stage.Locking done) h = refl
fresh_held stage.Showing h = refl
fresh_held (stage.Falling told) h = refl
fresh_held other h = absurd (cc)

retried_fresh : (s : Stage) → fresh (retried_stage s) ≡ true → fresh s ≡ true
retried_fresh stage.Blocked h = absurd (cc)
retried_fresh stage.Stuck h = absurd (cc)
retried_fresh other h = h

left_stale : (left : ℕ) (none : Bool) → fresh (if none then stage.Idle else stage.Unlocking left) ≡ false
left_stale left true = refl
left_stale left false = refl

leaving_stale : (x : Option Signal) → fresh (option_map_or (λ signal. stage.Stopping) x stage.Hiding) ≡ false
leaving_stale None = refl
leaving_stale (Some signal) = refl

locking_stale : (done : ℕ) (more : Bool) → fresh (if more then stage.Locking (done + 1) else stage.Throwing 0) ≡ false
locking_stale done true = ne_eqb (done + 1) 0 (λ e. absurd (omega arith))
locking_stale done false = refl

throwing_stale : (x : Option Signal) (done : ℕ) (more : Bool)
    → fresh (if more then stage.Throwing (done + 1) else option_map_or (λ x. stage.Ready) x stage.Reporting) ≡ false
throwing_stale x done true = refl
throwing_stale None done false = refl
throwing_stale (Some signal) done false = refl

-- no order of the stage after a reply has been sent
reply_stale : (route : Route) (s : Stage) (o : Order) (ok : Bool) → order_of route s ≡ Some o
    → fresh (after_reply route s ok) ≡ false
reply_stale route (stage.Locking done) o true e = locking_stale done (nat_lt (done + 1) (count_of route))
reply_stale route (stage.Locking done) o false e = left_stale _ (done == 0)
reply_stale route (stage.Throwing done) o true e = throwing_stale route.signal done (nat_lt (done + 1) (count_of route))
reply_stale route (stage.Throwing done) o false e = refl
reply_stale route (stage.Unlocking left) o true e = left_stale _ (left == 0)
reply_stale route (stage.Unlocking left) o false e = left_stale _ (left == 0)
reply_stale route stage.Hiding o true e = left_stale _ (count_of route == 0)
reply_stale route stage.Hiding o false e = left_stale _ (count_of route == 0)
reply_stale route stage.Reporting o true e = refl
reply_stale route stage.Reporting o false e = leaving_stale route.signal
reply_stale route (stage.Fallen false) o true e = refl
reply_stale route (stage.Fallen false) o false e = refl
reply_stale route (stage.Fallen true) o ok e = absurd (cc)
reply_stale route other o true e = refl
reply_stale route other o false e = refl

-- each route is at a stage that it can come to
abbrev pub AllWell : List Route → List Stage → Type 0
AllWell routes stages = (n : ℕ) (route : Route) → slice_get routes n ≡ Some route → well route (stage_at stages n) ≡ true

set_well : (routes : List Route) (stages : List Stage) (i : ℕ) (s : Stage)
    → ((route : Route) → slice_get routes i ≡ Some route → well route s ≡ true)
    → AllWell routes stages → AllWell routes (slice_set stages i s)
set_well routes stages i s here all n route is = elim (stage_at-set stages i s n) [
  | inl p ↦ ap (well route) p.1 ∙ here route (subst (λ (m : ℕ). slice_get routes m ≡ Some route) p.0 is)
  | inr e ↦ ap (well route) e ∙ all n route is
]

answer_well : (t : Table) (ok : Bool) (x : Option ℕ) → AllWell t.routes t.stages
    → AllWell (option_map_or (answered t ok) x t).routes (option_map_or (answered t ok) x t).stages
answer_well t ok None all = all
answer_well t ok (Some n) all =
    set_well t.routes t.stages n (stage_replied t n ok)
    (λ route is. ap (λ (x : Option Route).
    well route (option_map_or (λ (a : Route). after_reply a (stage_at t.stages n) ok) x stage.Idle)) is
    ∙ reply_well route (stage_at t.stages n) ok (all n route is)) all

pub heard_well : (t : Table) (event : Event) → AllWell t.routes t.stages
    → AllWell (heard t event).routes (heard t event).stages
heard_well t (Ask n) all = all
heard_well t (Give n) all = set_well t.routes t.stages n (retried_stage (stage_at t.stages n))
    (λ route is. retried_well route (stage_at t.stages n) (all n route is)) all
heard_well t (Told sensor on) all = all
heard_well t (Reply ok) all = answer_well t ok t.waiting all
heard_well t Second all = all
heard_well t Lost all = λ n route is.
    ap (well route) (start_stage t.routes n route is) ∙ lost_well route route.signal refl

pub next_well : (t : Table) (waits : Bool) (d : Option ℕ) → AllWell t.routes t.stages
    → AllWell (if waits then record { table = t; order = None } else sent t d).table.routes
    (if waits then record { table = t; order = None } else sent t d).table.stages
next_well t true d all = all
next_well t false None all = all
next_well t false (Some n) all = set_well t.routes t.stages n (ready_at t n)
    (λ route is. ap (λ (x : Option Route). well route (option_map_or (ready_in t n) x stage.Idle)) is
    ∙ in_keeps (λ s. well route s ≡ true) t n route (λ some h. some) (λ some h. some)
    (ready_well route (wanted_at t.wanted n) (are_free t.sensors route.blocks.items)
    (may_begin t n (are_free t.sensors route.blocks.items)) (stage_at t.stages n) (all n route is))) all

-- a route whose order has been sent waits for the reply
abbrev pub AllSent : List Stage → Option ℕ → Type 0
AllSent stages waiting = (n : ℕ) → fresh (stage_at stages n) ≡ true → waiting ≡ Some n

other_sent : (stages : List Stage) (waiting : Option ℕ) (n : ℕ) (s : Stage) (m : ℕ) (P : Type 0) → m ≢ n
    → waiting ≡ Some n → AllSent stages waiting → fresh (stage_at (slice_set stages n s) m) ≡ true → P
other_sent stages waiting n s m P differ waits all h = elim (stage_at-set stages n s m) [
  | inl p ↦ absurd (differ p.0)
  | inr e ↦
      let here : waiting ≡ Some m = all m (ap fresh (sym e) ∙ h) in
      let both : Some m ≡ Some n = sym here ∙ waits in
      let same : m ≡ n = cc in
      absurd (differ same)
]

answered_one : (t : Table) (ok : Bool) (n m : ℕ) (last : Option Order) → (m ≡ n) ⊎ (m ≢ n) → n < length t.stages
    → t.waiting ≡ Some n → PendsAt t last n → AllSent t.stages t.waiting
    → fresh (stage_at (slice_set t.stages n (stage_replied t n ok)) m) ≡ true → None ≡ Some m
answered_one t ok n m last (inl same) within waits pends all h =
    let at : fresh (stage_at (slice_set t.stages n (stage_replied t n ok)) n) ≡ true =
    subst (λ (i : ℕ). fresh (stage_at (slice_set t.stages n (stage_replied t n ok)) i) ≡ true) same h in
    let yes : fresh (stage_replied t n ok) ≡ true =
    ap fresh (sym (stage_at-set_same t.stages n (stage_replied t n ok) within)) ∙ at in
    let later : fresh (after_reply pends.route (stage_at t.stages n) ok) ≡ true =
    subst (λ (x : Option Route).
    fresh (option_map_or (λ (a : Route). after_reply a (stage_at t.stages n) ok) x stage.Idle) ≡ true) pends.is yes in
    let no : fresh (after_reply pends.route (stage_at t.stages n) ok) ≡ false =
    reply_stale pends.route (stage_at t.stages n) pends.order ok pends.orders in
    absurd (cc)
answered_one t ok n m last (inr differ) within waits pends all h =
    other_sent t.stages t.waiting n (stage_replied t n ok) m _ differ waits all h

answer_sent : (routes : List Route) (t : Table) (last : Option Order) (ok : Bool) (x : Option ℕ) → Fits routes t
    → t.waiting ≡ x → Pends t last x → AllSent t.stages t.waiting
    → AllSent (option_map_or (answered t ok) x t).stages (option_map_or (answered t ok) x t).waiting
answer_sent routes t last ok None fits waits pends all = all
answer_sent routes t last ok (Some n) fits waits pends all =
    let within : n < length t.stages =
    omega (arith, slice_get_within t.routes n pends.route pends.is, fits.stages, ap length fits.plan) in
    λ m h. answered_one t ok n m last (cases_eq m n) within waits pends all h

given_sent : (stages : List Stage) (waiting : Option ℕ) (n : ℕ) → AllSent stages waiting
    → AllSent (slice_set stages n (retried_stage (stage_at stages n))) waiting
given_sent stages waiting n all m h = elim (stage_at-set stages n (retried_stage (stage_at stages n)) m) [
  | inl p ↦
      let at : fresh (stage_at stages n) ≡ true = retried_fresh (stage_at stages n) (ap fresh (sym p.1) ∙ h) in
      all m (ap (λ (i : ℕ). fresh (stage_at stages i)) p.0 ∙ at)
  | inr e ↦ all m (ap fresh (sym e) ∙ h)
]

pub heard_sent : (routes : List Route) (t : Table) (last : Option Order) (event : Event) → Fits routes t
    → Pends t last t.waiting → AllSent t.stages t.waiting → AllSent (heard t event).stages (heard t event).waiting
heard_sent routes t last (Ask n) fits pends all = all
heard_sent routes t last (Give n) fits pends all = given_sent t.stages t.waiting n all
heard_sent routes t last (Told sensor on) fits pends all = all
heard_sent routes t last (Reply ok) fits pends all = answer_sent routes t last ok t.waiting fits refl pends all
heard_sent routes t last Second fits pends all = all
heard_sent routes t last Lost fits pends all = λ m h.
    let not : is_held (stage_at (map lost_stage t.routes) m) ≡ false = stage_at-start t.routes m in
    let held : is_held (stage_at (map lost_stage t.routes) m) ≡ true = fresh_held _ h in
    absurd (cc)

next_one : (t : Table) (n m : ℕ) (s : Stage) → (m ≡ n) ⊎ (m ≢ n) → t.waiting ≡ None → AllSent t.stages t.waiting
    → fresh (stage_at (slice_set t.stages n s) m) ≡ true → Some n ≡ Some m
next_one t n m s (inl same) waits all h = ap (λ (i : ℕ). Some i) (sym same)
next_one t n m s (inr differ) waits all h = elim (stage_at-set t.stages n s m) [
  | inl p ↦ absurd (differ p.0)
  | inr e ↦
      let here : t.waiting ≡ Some m = all m (ap fresh (sym e) ∙ h) in
      let both : None ≡ Some m = sym waits ∙ here in
      absurd (cc)
]

pub next_sent : (t : Table) (x d : Option ℕ) → t.waiting ≡ x → AllSent t.stages t.waiting
    → AllSent (if is_some x then record { table = t; order = None } else sent t d).table.stages
    (if is_some x then record { table = t; order = None } else sent t d).table.waiting
next_sent t (Some n) d waits all = all
next_sent t None None waits all = all
next_sent t None (Some n) waits all = λ m h. next_one t n m (ready_at t n) (cases_eq m n) waits all h
