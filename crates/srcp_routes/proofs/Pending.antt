-- The order whose reply has not come is that of the stage of the route that waits.
use Rattle.std.proofs.Common.{◌≡◌, inl, inr, ℕ, ◌<◌, Bool, true, false}
use Rattle.std.proofs.Common.{Option, Some, None, List, length, refl, sym, ◌∙◌, ap, arith, subst}
use Rattle.std.proofs.lemmas.List.{length-map, length-set}
use Rattle.std.proofs.lemmas.Option.{slice_get_within}
use Rattle.std.specs.Option.{option_and_then, option_map_or, option_or}
use Rattle.std.specs.Prelude.{if◌then◌else◌, is_some, slice_get, slice_set}
use Rattle.srcp_routes.specs.Plan.{Table, places, stage_at, start}
use Rattle.srcp_routes.specs.Runs.{order_heard}
use Rattle.srcp_routes.specs.Stages.{lost_stage, order_of, retried_stage}
use Rattle.srcp_routes.specs.Steps.{Stepped, after, answered, due, given, heard, is_kept, order_at, ready_at, sent, step}
use Rattle.srcp_routes.specs.Steps.{stage_replied}
use Rattle.srcp_routes.specs.declared.interlocking.Event.{Event}
use Rattle.srcp_routes.specs.declared.interlocking.Event.TheVariants.{Ask, Give, Told, Second, Reply, Lost}
use Rattle.srcp_routes.specs.declared.route.Order.{Order}
use Rattle.srcp_routes.specs.declared.route.Route.{Route}
use Rattle.srcp_routes.specs.declared.stage.Stage.{Stage}
use Rattle.srcp_routes.specs.declared.stage.Stage.TheVariants as stage
use Rattle.srcp_routes.proofs.Loops.{found}
use Rattle.srcp_routes.proofs.Apart.{stage_at-set, stage_at-set_same}

-- the plan stays, and each route of it has a stage
pub record Fits (routes : List Route) (t : Table) : Type 0 where
  pub plan : t.routes ≡ routes
  pub stages : length t.stages ≡ length routes

set_fits : (routes : List Route) (t : Table) (n : ℕ) (s : Stage) → Fits routes t
    → length (slice_set t.stages n s) ≡ length routes
set_fits routes t n s fits = length-set t.stages n s ∙ fits.stages

answer_fits : (routes : List Route) (t : Table) (ok : Bool) (x : Option ℕ) → Fits routes t
    → Fits routes (option_map_or (answered t ok) x t)
answer_fits routes t ok None fits = fits
answer_fits routes t ok (Some n) fits =
    record { plan = fits.plan; stages = set_fits routes t n (stage_replied t n ok) fits }

pub heard_fits : (routes : List Route) (t : Table) (event : Event) → Fits routes t → Fits routes (heard t event)
heard_fits routes t (Ask n) fits = record { plan = fits.plan; stages = fits.stages }
heard_fits routes t (Give n) fits =
    record { plan = fits.plan; stages = set_fits routes t n (retried_stage (stage_at t.stages n)) fits }
heard_fits routes t (Told sensor on) fits = record { plan = fits.plan; stages = fits.stages }
heard_fits routes t (Reply ok) fits = answer_fits routes t ok t.waiting fits
heard_fits routes t Second fits = record { plan = fits.plan; stages = fits.stages }
heard_fits routes t Lost fits =
    record { plan = fits.plan; stages = length-map t.routes lost_stage ∙ ap length fits.plan }

sent_fits : (routes : List Route) (t : Table) (waits : Bool) (d : Option ℕ) → Fits routes t
    → Fits routes (if waits then record { table = t; order = None } else sent t d).table
sent_fits routes t true d fits = fits
sent_fits routes t false None fits = fits
sent_fits routes t false (Some n) fits = record { plan = fits.plan; stages = set_fits routes t n (ready_at t n) fits }

pub after_fits : (routes : List Route) (t : Table) (event : Event) → Fits routes t → Fits routes (after t event)
after_fits routes t event fits = sent_fits routes (heard t event) (is_some (heard t event).waiting) (due (heard t event))
    (heard_fits routes t event fits)

-- the route at a place waits for the reply to the order of its stage
pub record PendsAt (t : Table) (last : Option Order) (n : ℕ) : Type 0 where
  pub route : Route
  pub order : Order
  pub is : slice_get t.routes n ≡ Some route
  pub orders : order_of route (stage_at t.stages n) ≡ Some order
  pub waits : last ≡ Some order

-- what waits is the order of the stage of its route
abbrev pub Pends : Table → Option Order → Option ℕ → Type 0
Pends t last None = last ≡ None
Pends t last (Some n) = PendsAt t last n

-- a stage that has an order stays as its route is given back
pub retried_same : (route : Route) (s : Stage) (o : Order) → order_of route s ≡ Some o → retried_stage s ≡ s
retried_same route stage.Blocked o e = absurd (cc)
retried_same route stage.Stuck o e = absurd (cc)
retried_same route other o e = refl

retried_at : (stages : List Stage) (k n : ℕ) (route : Route) (o : Order) → order_of route (stage_at stages n) ≡ Some o
    → stage_at (slice_set stages k (retried_stage (stage_at stages k))) n ≡ stage_at stages n
retried_at stages k n route o e = elim (stage_at-set stages k (retried_stage (stage_at stages k)) n) [
  | inl p ↦
      let here : order_of route (stage_at stages k) ≡ Some o =
      subst (λ (i : ℕ). order_of route (stage_at stages i) ≡ Some o) p.0 e in
      p.1 ∙ retried_same route (stage_at stages k) o here ∙ ap (stage_at stages) (sym p.0)
  | inr same ↦ same
]

-- once a route is given back
given_pends : (t : Table) (k : ℕ) (last : Option Order) (x : Option ℕ) → Pends t last x → Pends (given t k) last x
given_pends t k last None pends = pends
given_pends t k last (Some n) pends = record {
  route = pends.route;
  order = pends.order;
  is = pends.is;
  orders = ap (order_of pends.route) (retried_at t.stages k n pends.route pends.order pends.orders) ∙ pends.orders;
  waits = pends.waits;
}

-- once what is wanted or sensed changed
other_pends : (t : Table) (u : Table) (last : Option Order) (x : Option ℕ) → u.routes ≡ t.routes → u.stages ≡ t.stages
    → Pends t last x → Pends u last x
other_pends t u last None e d pends = pends
other_pends t u last (Some n) e d pends = record {
  route = pends.route;
  order = pends.order;
  is = ap (λ (routes : List Route). slice_get routes n) e ∙ pends.is;
  orders = ap (λ (stages : List Stage). order_of pends.route (stage_at stages n)) d ∙ pends.orders;
  waits = pends.waits;
}

none_waits : (t : Table) (ok : Bool) (x : Option ℕ) → t.waiting ≡ x → (option_map_or (answered t ok) x t).waiting ≡ None
none_waits t ok None e = e
none_waits t ok (Some n) e = refl

pends_as : (t : Table) (last : Option Order) (x y : Option ℕ) → x ≡ y → Pends t last y → Pends t last x
pends_as t last x y e pends = subst (λ (z : Option ℕ). Pends t last z) (sym e) pends

-- what is known after the reply to the order of whichever route waits
abbrev pub replied_to : {X : Type 0} → (X → ℕ → Order → X) → X → Option Order → Option ℕ → Bool → X
replied_to change known last waiting ok =
    if ok then option_map_or (λ n. option_map_or (change known n) last known) waiting known else known

pub replied_none : {X : Type 0} (change : X → ℕ → Order → X) (known : X) (last : Option Order) (ok : Bool)
    → replied_to change known last None ok ≡ known
replied_none change known last true = refl
replied_none change known last false = refl

pub replied_some : {X : Type 0} (change : X → ℕ → Order → X) (known : X) (n : ℕ) (o : Order) (ok : Bool)
    → replied_to change known (Some o) (Some n) ok ≡ (if ok then change known n o else known)
replied_some change known n o true = refl
replied_some change known n o false = refl

-- once an event came
pub heard_pends : (t : Table) (last : Option Order) (event : Event) → Pends t last t.waiting
    → Pends (heard t event) (order_heard last event) (heard t event).waiting
heard_pends t last (Ask n) pends = other_pends t (heard t (Ask n)) last t.waiting refl refl pends
heard_pends t last (Give n) pends = given_pends t n last t.waiting pends
heard_pends t last (Told sensor on) pends = other_pends t (heard t (Told sensor on)) last t.waiting refl refl pends
heard_pends t last (Reply ok) pends = pends_as (heard t (Reply ok)) None _ None (none_waits t ok t.waiting refl) refl
heard_pends t last Second pends = other_pends t (heard t Second) last t.waiting refl refl pends
heard_pends t last Lost pends = refl

-- what a route is due to send
pub record Sends (t : Table) (n : ℕ) : Type 0 where
  pub route : Route
  pub order : Order
  pub is : slice_get t.routes n ≡ Some route
  pub orders : order_of route (ready_at t n) ≡ Some order
  pub sent : order_at t n ≡ Some order
  pub ends : is_kept t n ≡ false

sends_order : (t : Table) (n : ℕ) (route : Route) (x : Option Order) → slice_get t.routes n ≡ Some route
    → order_of route (ready_at t n) ≡ x → order_at t n ≡ x → is_kept t n ≡ false → is_some x ≡ true → Sends t n
sends_order t n route None is orders sent ends some = absurd (cc)
sends_order t n route (Some o) is orders sent ends some =
    record { route = route; order = o; is = is; orders = orders; sent = sent; ends = ends }

sends_route : (t : Table) (n : ℕ) (x : Option Route) (kept : Bool) → slice_get t.routes n ≡ x → is_kept t n ≡ kept
    → order_at t n ≡ (if kept then None else option_and_then (λ route. order_of route (ready_at t n)) x)
    → is_some (if kept then None else option_and_then (λ route. order_of route (ready_at t n)) x) ≡ true → Sends t n
sends_route t n x true is ends e some = absurd (cc)
sends_route t n None false is ends e some = absurd (cc)
sends_route t n (Some route) false is ends e some =
    sends_order t n route (order_of route (ready_at t n)) is refl e ends some

pub due_sends : (t : Table) (n : ℕ) → due t ≡ Some n → Sends t n
due_sends t n e = sends_route t n (slice_get t.routes n) (is_kept t n) refl refl refl
    (found (λ n. is_some (order_at t n)) (places t.routes) n e)

-- once the next order is sent
abbrev pub AllPends : Option Order → Stepped → Type 0
AllPends last s = Pends s.table (option_or s.order last) s.table.waiting

sent_pends : (routes : List Route) (t : Table) (last : Option Order) (n : ℕ) → Fits routes t → Sends t n
    → AllPends last (sent t (Some n))
sent_pends routes t last n fits sends =
    let within : n < length t.stages = omega (arith, slice_get_within t.routes n sends.route sends.is, fits.stages, ap length fits.plan) in
    record {
      route = sends.route;
      order = sends.order;
      is = sends.is;
      orders = ap (order_of sends.route) (stage_at-set_same t.stages n (ready_at t n) within) ∙ sends.orders;
      waits = ap (λ (x : Option Order). option_or x last) sends.sent;
    }

next_of : (routes : List Route) (t : Table) (last : Option Order) (x d : Option ℕ) → Fits routes t → t.waiting ≡ x
    → due t ≡ d → Pends t last x → AllPends last (if is_some x then record { table = t; order = None } else sent t d)
next_of routes t last (Some n) d fits waits is pends = pends_as t last t.waiting (Some n) waits pends
next_of routes t last None None fits waits is pends = pends_as t last t.waiting None waits pends
next_of routes t last None (Some n) fits waits is pends = sent_pends routes t last n fits (due_sends t n is)

-- once an event came and the next order is sent
pub step_pends : (routes : List Route) (t : Table) (last : Option Order) (event : Event) → Fits routes t
    → Pends t last t.waiting → AllPends (order_heard last event) (step t event)
step_pends routes t last event fits pends =
    next_of routes (heard t event) (order_heard last event) (heard t event).waiting (due (heard t event))
    (heard_fits routes t event fits) refl refl (heard_pends t last event pends)

-- before any event
pub start_fits : (routes : List Route) → Fits routes (start routes)
start_fits routes = record { plan = refl; stages = length-map routes lost_stage }
