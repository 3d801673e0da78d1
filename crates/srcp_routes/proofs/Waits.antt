-- The delay of a route in the table is that of the events.
use Rattle.std.proofs.Common.{◌≡◌, ◌≢◌, ◌⊎◌, inl, inr, ℕ, zero, suc, ◌-◌, ◌==◌, ◌<◌, Bool, true, false, not, ◌&&◌}
use Rattle.std.proofs.Common.{Option, Some, None, List, [], ◌∷◌, length, refl, sym, ◌∙◌, ap, arith, subst}
use Rattle.std.proofs.lemmas.Bool.{cases_eq, eq-eqb, ne_eqb}
use Rattle.std.proofs.lemmas.Option.{slice_get_within}
use Rattle.std.specs.Option.{option_map_or}
use Rattle.std.specs.Prelude.{if◌then◌else◌, is_some, map, slice_get, slice_set}
use Rattle.srcp_routes.specs.Conflicts.{are_free, is_vacant}
use Rattle.srcp_routes.specs.Plan.{Table, delay_at, delay_sent, stops_short}
use Rattle.srcp_routes.specs.Runs.{Run, delay_of, is_approach_free, is_stop}
use Rattle.srcp_routes.specs.Runs.{stops_now, wait_heard}
use Rattle.srcp_routes.specs.Stages.{order_of}
use Rattle.srcp_routes.specs.Steps.{answered, due, heard, less, ready_at, ready_in, sent}
use Rattle.srcp_routes.specs.declared.interlocking.Event.{Event}
use Rattle.srcp_routes.specs.declared.interlocking.Event.TheVariants.{Ask, Give, Told, Second, Reply, Lost}
use Rattle.srcp_routes.specs.declared.route.Device.{Device}
use Rattle.srcp_routes.specs.declared.route.Order.{Order}
use Rattle.srcp_routes.specs.declared.route.Route.{Route}
use Rattle.srcp_routes.specs.declared.stage.Stage.{Stage}
use Rattle.srcp_routes.specs.declared.stage.Stage.TheVariants as stage
use Rattle.srcp_routes.proofs.Free.{IsKnownRightly}
use Rattle.srcp_routes.proofs.Known.{AllNear}
use Rattle.srcp_routes.proofs.Long.{IsLong}
use Rattle.srcp_routes.proofs.Pending.{Sends, due_sends}
use Rattle.srcp_routes.proofs.Places.{at-replicate, at-set_else, at-set_same}
use Rattle.srcp_routes.proofs.Stops.{Stands, approach_is, braked_is, clearing_not, falling_go, let_go_not, stopping_shown}

-- ---- the delay once the next order is sent

-- what the delay of a route becomes by events, once its order is sent
abbrev pub waits_sent : List Route → (ℕ → Bool) → (ℕ → Bool) → (Device → Bool) → (ℕ → ℕ) → Option Order → Option ℕ → ℕ → ℕ
waits_sent routes shown go free wait o w n =
    if stops_now o w n && (shown n && (not (go n) && not (is_approach_free routes free n))) then delay_of routes n else wait n

if_same : (a b : Bool) (x y u v : ℕ) → a ≡ b → x ≡ u → y ≡ v → (if a then x else y) ≡ (if b then u else v)
if_same a b x y u v e c d = ap (λ (z : Bool). if z then x else y) e
    ∙ ap (λ (z : ℕ). if b then z else y) c ∙ ap (λ (z : ℕ). if b then u else z) d

here_now : (a b : Bool) → b ≡ true → (a && b) ≡ a
here_now true b e = e
here_now false b e = refl

sent_delay : (routes : List Route) (t : Table) (shown go : ℕ → Bool) (head tail : ℕ → ℕ) (free : Device → Bool)
    (wait : ℕ → ℕ) (n : ℕ) → Stands routes t shown go head tail → t.waiting ≡ None → (sends : Sends t n)
    → AllNear t.routes t.sensors free → IsKnownRightly is_vacant t.sensors free → delay_at t.delays n ≡ wait n
    → delay_sent t.routes t.sensors t.delays (ready_at t n) n
    ≡ waits_sent t.routes shown go free wait (Some sends.order) (Some n) n
sent_delay routes t shown go head tail free wait n stands waits sends near known same =
    let route : Route = sends.route in
    let ready : ready_at t n ≡ ready_in t n route =
    ap (λ (x : Option Route). option_map_or (ready_in t n) x stage.Idle) sends.is in
    let orders : order_of route (ready_in t n route) ≡ Some sends.order =
    subst (λ (z : Stage). order_of route z ≡ Some sends.order) ready sends.orders in
    let now : (stops_now (Some sends.order) (Some n) n
    && (shown n && (not (go n) && not (is_approach_free t.routes free n))))
    ≡ stops_short route t.sensors (ready_in t n route) =
    ap (λ (b : Bool). b && (shown n && (not (go n) && not (is_approach_free t.routes free n))))
    (here_now (is_stop (Some sends.order)) (n == n) (eq-eqb n n refl))
    ∙ ap (λ (b : Bool). is_stop (Some sends.order) && (shown n && (not (go n) && not b)))
    (approach_is t free n route sends.is near known)
    ∙ braked_is route (ready_in t n route) sends.order (shown n) (go n) (are_free t.sensors route.approach.items) orders
    (stopping_shown routes t shown go head tail n route stands sends.is)
    (let_go_not routes t shown go head tail n route (go n) stands waits sends.is refl)
    (clearing_not routes t shown go head tail n route (shown n) stands sends.is refl)
    (falling_go routes t shown go head tail n route stands waits sends.is) in
    ap (λ (x : Option Route). option_map_or (λ (a : Route). if stops_short a t.sensors (ready_at t n) then a.delay
    else delay_at t.delays n) x (delay_at t.delays n)) sends.is
    ∙ ap (λ (z : Stage). if stops_short route t.sensors z then route.delay else delay_at t.delays n) ready
    ∙ if_same (stops_short route t.sensors (ready_in t n route)) (stops_now (Some sends.order) (Some n) n
    && (shown n && (not (go n) && not (is_approach_free t.routes free n)))) route.delay (delay_at t.delays n)
    (delay_of t.routes n) (wait n) (sym now)
    (sym (ap (λ (x : Option Route). option_map_or (λ (a : Route). a.delay) x 0) sends.is)) same

-- each delay in the table is that of the events
abbrev pub AllSame : Table → (ℕ → ℕ) → Type 0
AllSame t wait = (n : ℕ) (route : Route) → slice_get t.routes n ≡ Some route → delay_at t.delays n ≡ wait n

not_here : (a b c : Bool) (x y : ℕ) → b ≡ false → (if (a && b) && c then x else y) ≡ y
not_here true true c x y e = absurd (cc)
not_here true false c x y e = refl
not_here false b c x y e = refl

sent_same : (routes : List Route) (t : Table) (shown go : ℕ → Bool) (head tail : ℕ → ℕ) (free : Device → Bool)
    (wait : ℕ → ℕ) (m n : ℕ) (route : Route) → (n ≡ m) ⊎ (n ≢ m) → Stands routes t shown go head tail → IsLong routes t
    → t.waiting ≡ None → (sends : Sends t m) → AllNear t.routes t.sensors free
    → IsKnownRightly is_vacant t.sensors free → AllSame t wait → slice_get t.routes n ≡ Some route
    → delay_at (slice_set t.delays m (delay_sent t.routes t.sensors t.delays (ready_at t m) m)) n
    ≡ waits_sent t.routes shown go free wait (Some sends.order) (Some m) n
sent_same routes t shown go head tail free wait m n route (inl same) stands long waits sends near known all is =
    let within : m < length t.delays =
    omega (arith, slice_get_within t.routes m sends.route sends.is, long.delays, ap length stands.fits.plan) in
    ap (λ (i : ℕ). delay_at (slice_set t.delays m (delay_sent t.routes t.sensors t.delays (ready_at t m) m)) i) same
    ∙ at-set_same t.delays m (delay_sent t.routes t.sensors t.delays (ready_at t m) m) 0 within
    ∙ sent_delay routes t shown go head tail free wait m stands waits sends near known (all m sends.route sends.is)
    ∙ ap (waits_sent t.routes shown go free wait (Some sends.order) (Some m)) (sym same)
sent_same routes t shown go head tail free wait m n route (inr differ) stands long waits sends near known all is =
    at-set_else t.delays m n (delay_sent t.routes t.sensors t.delays (ready_at t m) m) 0 differ ∙ all n route is
    ∙ sym (not_here (is_stop (Some sends.order)) (n == m)
    (shown n && (not (go n) && not (is_approach_free t.routes free n))) (delay_of t.routes n) (wait n)
    (ne_eqb n m differ))

pub next_same : (routes : List Route) (t : Table) (shown go : ℕ → Bool) (head tail : ℕ → ℕ) (free : Device → Bool)
    (wait : ℕ → ℕ) (x d : Option ℕ) (n : ℕ) (route : Route) → t.waiting ≡ x → due t ≡ d
    → Stands routes t shown go head tail → IsLong routes t → AllNear t.routes t.sensors free
    → IsKnownRightly is_vacant t.sensors free → AllSame t wait → slice_get t.routes n ≡ Some route
    → delay_at (if is_some x then record { table = t; order = None } else sent t d).table.delays n
    ≡ waits_sent t.routes shown go free wait (if is_some x then record { table = t; order = None } else sent t d).order
    (if is_some x then record { table = t; order = None } else sent t d).table.waiting n
next_same routes t shown go head tail free wait (Some m) d n route waits is stands long near known all at = all n route at
next_same routes t shown go head tail free wait None None n route waits is stands long near known all at = all n route at
next_same routes t shown go head tail free wait None (Some m) n route waits is stands long near known all at =
    let sends : Sends t m = due_sends t m is in
    subst (λ (o : Option Order).
    delay_at (slice_set t.delays m (delay_sent t.routes t.sensors t.delays (ready_at t m) m)) n
    ≡ waits_sent t.routes shown go free wait o (Some m) n) (sym sends.sent)
    (sent_same routes t shown go head tail free wait m n route (cases_eq n m) stands long waits sends near known all at)

-- a second less of each
pub less_at : (delays : List ℕ) (n : ℕ) → delay_at (map less delays) n ≡ delay_at delays n - 1
less_at [] n = refl
less_at (delay ∷ delays) zero = refl
less_at (delay ∷ delays) (suc n) = less_at delays n

answer_delays : (t : Table) (ok : Bool) (x : Option ℕ) → (option_map_or (answered t ok) x t).delays ≡ t.delays
answer_delays t ok None = refl
answer_delays t ok (Some m) = refl

pub heard_same : (r : Run) (event : Event) (n : ℕ) → delay_at r.table.delays n ≡ r.wait n
    → delay_at (heard r.table event).delays n ≡ wait_heard r event n
heard_same r (Ask m) n same = same
heard_same r (Give m) n same = same
heard_same r (Told sensor now) n same = same
heard_same r Second n same = less_at r.table.delays n ∙ ap less same
heard_same r (Reply ok) n same =
    ap (λ (l : List ℕ). delay_at l n) (answer_delays r.table ok r.table.waiting) ∙ same
heard_same r Lost n same = at-replicate (length r.table.routes) n 0
