-- A route whose delay runs stops its signal, could not, or is to be told not to be set.
use Rattle.std.proofs.Common.{◌≡◌, ◌≢◌, ◌⊎◌, inl, inr, ℕ, zero, suc, ◌-◌, ◌==◌, ◌<◌, Bool, true, false, not, ◌&&◌}
use Rattle.std.proofs.Common.{Option, Some, None, List, length, refl, sym, ◌∙◌, ap, arith, subst}
use Rattle.std.proofs.lemmas.Bool.{and_parts, cases_eq, eq-eqb, lt-ltb, ne_eqb}
use Rattle.std.proofs.lemmas.Option.{slice_get_within}
use Rattle.std.specs.Option.{option_map_or}
use Rattle.std.specs.Prelude.{if◌then◌else◌, is_some, nat_lt, replicate, slice_set}
use Rattle.srcp_routes.specs.Conflicts.{are_free}
use Rattle.srcp_routes.specs.Laws.{ends}
use Rattle.srcp_routes.specs.Plan.{Table, delay_at, delay_sent, stage_at, stops_short, train_at, wanted_at}
use Rattle.srcp_routes.specs.Stages.{after_reply, falls, is_hiding, is_stopping, order_of, ready_stage, retried_stage}
use Rattle.srcp_routes.specs.Steps.{answered, due, heard, may_begin, ready_at, ready_in, sent, stage_replied}
use Rattle.srcp_routes.specs.Trains.{has_entered}
use Rattle.srcp_routes.specs.declared.interlocking.Event.{Event}
use Rattle.srcp_routes.specs.declared.interlocking.Event.TheVariants.{Ask, Give, Told, Second, Reply, Lost}
use Rattle.srcp_routes.specs.declared.route.Order.{Order}
use Rattle.srcp_routes.specs.declared.route.Route.{Route}
use Rattle.srcp_routes.specs.declared.stage.Stage.{Stage}
use Rattle.srcp_routes.specs.declared.stage.Stage.TheVariants as stage
use Rattle.srcp_routes.proofs.Apart.{stage_at-set, stage_at-set_same}
use Rattle.srcp_routes.proofs.Long.{IsLong}
use Rattle.srcp_routes.proofs.Pending.{Fits, Pends, PendsAt, Sends, due_sends}
use Rattle.srcp_routes.proofs.Places.{at-replicate, at-set_else, at-set_same}
use Rattle.srcp_routes.proofs.Waits.{less_at}

-- ---- the stage of a route that keeps its locks

-- at this stage a route keeps its locks for its delay: it stops its signal, could not, or did so and waits
abbrev pub brakes : (sends : Bool) → Stage → Bool
brakes sends stage.Stopping = true
brakes sends stage.Stuck = true
brakes sends stage.Hiding = not sends
brakes sends other = false

abbrev pub sends_at : Option ℕ → ℕ → Bool
sends_at waiting n = option_map_or (λ m. n == m) waiting false

abbrev pub AllBrake : Table → Type 0
AllBrake t = (n : ℕ) → nat_lt 0 (delay_at t.delays n) ≡ true → brakes (sends_at t.waiting n) (stage_at t.stages n) ≡ true

retried_brakes : (sends : Bool) (s : Stage) → brakes sends s ≡ true → brakes sends (retried_stage s) ≡ true
retried_brakes sends stage.Blocked h = absurd (cc)
retried_brakes sends stage.Stuck h = refl
retried_brakes sends other h = h

given_brakes : (t : Table) (m : ℕ) → AllBrake t → AllBrake (heard t (Give m))
given_brakes t m all n h = elim (stage_at-set t.stages m (retried_stage (stage_at t.stages m)) n) [
  | inl p ↦ ap (brakes (sends_at t.waiting n)) p.1
      ∙ ap (λ (i : ℕ). brakes (sends_at t.waiting n) (retried_stage (stage_at t.stages i))) (sym p.0)
      ∙ retried_brakes (sends_at t.waiting n) (stage_at t.stages n) (all n h)
  | inr e ↦ ap (brakes (sends_at t.waiting n)) e ∙ all n h
]

-- the reply to the order of a route that stops its signal
reply_brakes : (route : Route) (s : Stage) (o : Order) (ok sends : Bool) → sends ≡ true → order_of route s ≡ Some o
    → brakes sends s ≡ true → brakes false (after_reply route s ok) ≡ true
reply_brakes route stage.Stopping o true sends now orders h = refl
reply_brakes route stage.Stopping o false sends now orders h = refl
reply_brakes route stage.Stuck o ok sends now orders h = absurd (cc)
reply_brakes route stage.Hiding o ok true now orders h = absurd (cc)
reply_brakes route stage.Hiding o ok false now orders h = absurd (cc)
reply_brakes route other o ok sends now orders h = absurd (cc)

still_brakes : (sends : Bool) (s : Stage) → sends ≡ false → brakes sends s ≡ true → brakes false s ≡ true
still_brakes true s e h = absurd (cc)
still_brakes false s e h = h

answered_brakes : (routes : List Route) (t : Table) (last : Option Order) (ok : Bool) (m n : ℕ) → (n ≡ m) ⊎ (n ≢ m)
    → Fits routes t → t.waiting ≡ Some m → PendsAt t last m → AllBrake t → nat_lt 0 (delay_at t.delays n) ≡ true
    → brakes false (stage_at (slice_set t.stages m (stage_replied t m ok)) n) ≡ true
answered_brakes routes t last ok m n (inl same) fits waits pends all h =
    let within : m < length t.stages =
    omega (arith, slice_get_within t.routes m pends.route pends.is, fits.stages, ap length fits.plan) in
    let before : brakes (sends_at t.waiting m) (stage_at t.stages m) ≡ true =
    all m (ap (λ (i : ℕ). nat_lt 0 (delay_at t.delays i)) (sym same) ∙ h) in
    ap (λ (i : ℕ). brakes false (stage_at (slice_set t.stages m (stage_replied t m ok)) i)) same
    ∙ ap (brakes false) (stage_at-set_same t.stages m (stage_replied t m ok) within
    ∙ ap (λ (x : Option Route). option_map_or (λ (a : Route). after_reply a (stage_at t.stages m) ok) x stage.Idle) pends.is)
    ∙ reply_brakes pends.route (stage_at t.stages m) pends.order ok (sends_at t.waiting m)
    (ap (λ (x : Option ℕ). sends_at x m) waits ∙ eq-eqb m m refl) pends.orders before
answered_brakes routes t last ok m n (inr differ) fits waits pends all h =
    ap (brakes false) (at-set_else t.stages m n (stage_replied t m ok) stage.Idle differ)
    ∙ still_brakes (sends_at t.waiting n) (stage_at t.stages n)
    (ap (λ (x : Option ℕ). sends_at x n) waits ∙ ne_eqb n m differ) (all n h)

answer_brakes : (routes : List Route) (t : Table) (last : Option Order) (ok : Bool) (x : Option ℕ) → t.waiting ≡ x
    → Fits routes t → Pends t last x → AllBrake t → AllBrake (option_map_or (answered t ok) x t)
answer_brakes routes t last ok None waits fits pends all = all
answer_brakes routes t last ok (Some m) waits fits pends all = λ n h.
    answered_brakes routes t last ok m n (cases_eq n m) fits waits pends all h

fewer : (k : ℕ) → nat_lt 0 (k - 1) ≡ true → nat_lt 0 k ≡ true
fewer zero h = absurd (cc)
fewer (suc k) h = lt-ltb 0 (suc k) (omega arith)

pub heard_brakes : (routes : List Route) (t : Table) (last : Option Order) (event : Event) → Fits routes t
    → Pends t last t.waiting → AllBrake t → AllBrake (heard t event)
heard_brakes routes t last (Ask m) fits pends all = all
heard_brakes routes t last (Give m) fits pends all = given_brakes t m all
heard_brakes routes t last (Told sensor now) fits pends all = all
heard_brakes routes t last Second fits pends all = λ n h.
    all n (fewer (delay_at t.delays n) (ap (λ (k : ℕ). nat_lt 0 k) (sym (less_at t.delays n)) ∙ h))
heard_brakes routes t last (Reply ok) fits pends all = answer_brakes routes t last ok t.waiting refl fits pends all
heard_brakes routes t last Lost fits pends all = λ n h.
    let none : nat_lt 0 (delay_at (replicate (length t.routes) 0) n) ≡ false =
    ap (λ (k : ℕ). nat_lt 0 k) (at-replicate (length t.routes) n 0) in absurd (cc)

-- the order of a route that keeps its locks is the stop of its signal
ready_brakes : (route : Route) (entered wanted free begins waiting kept : Bool) (s : Stage) (o : Order) → waiting ≡ false
    → kept ≡ true → brakes waiting s ≡ true → (is_hiding s && kept) ≡ false
    → order_of route (falls route entered (ready_stage route wanted free begins s)) ≡ Some o
    → is_stopping (falls route entered (ready_stage route wanted free begins s)) ≡ true
ready_brakes route true true free begins waiting kept stage.Stopping o w k h ends orders = refl
ready_brakes route true false free begins waiting kept stage.Stopping o w k h ends orders = refl
ready_brakes route false true free begins waiting kept stage.Stopping o w k h ends orders = refl
ready_brakes route false false free begins waiting kept stage.Stopping o w k h ends orders = refl
ready_brakes route true true free begins waiting kept stage.Stuck o w k h ends orders = absurd (cc)
ready_brakes route true false free begins waiting kept stage.Stuck o w k h ends orders = absurd (cc)
ready_brakes route false true free begins waiting kept stage.Stuck o w k h ends orders = absurd (cc)
ready_brakes route false false free begins waiting kept stage.Stuck o w k h ends orders = absurd (cc)
ready_brakes route entered wanted free begins waiting kept stage.Hiding o w k h ends orders =
    let no : kept ≡ false = ends in absurd (cc)
ready_brakes route entered wanted free begins waiting kept other o w k h ends orders = absurd (cc)

chosen : (short : Bool) (P : Type 0) (x y : ℕ) → nat_lt 0 (if short then x else y) ≡ true → (short ≡ true → P)
    → (nat_lt 0 y ≡ true → P) → P
chosen true P x y h one two = one refl
chosen false P x y h one two = two h

sent_stops : (t : Table) (m : ℕ) (sends : Sends t m) → t.waiting ≡ None → AllBrake t
    → nat_lt 0 (delay_sent t.routes t.sensors t.delays (ready_at t m) m) ≡ true → is_stopping (ready_at t m) ≡ true
sent_stops t m sends waits all h =
    let route : Route = sends.route in
    let ready : ready_at t m ≡ ready_in t m route =
    ap (λ (x : Option Route). option_map_or (ready_in t m) x stage.Idle) sends.is in
    let orders : order_of route (ready_in t m route) ≡ Some sends.order =
    subst (λ (z : Stage). order_of route z ≡ Some sends.order) ready sends.orders in
    chosen (stops_short route t.sensors (ready_at t m)) _ route.delay (delay_at t.delays m)
    (subst (λ (x : Option Route). nat_lt 0 (option_map_or (λ (a : Route). if stops_short a t.sensors (ready_at t m)
    then a.delay else delay_at t.delays m) x (delay_at t.delays m)) ≡ true) sends.is h)
    (λ short. (and_parts (is_stopping (ready_at t m)) (not (are_free t.sensors route.approach.items)) short).0)
    (λ kept. ap is_stopping ready ∙ ready_brakes route (has_entered (train_at t.trains m)) (wanted_at t.wanted m)
    (are_free t.sensors route.blocks.items) (may_begin t m (are_free t.sensors route.blocks.items))
    (sends_at t.waiting m) (nat_lt 0 (delay_at t.delays m)) (stage_at t.stages m) sends.order
    (ap (λ (x : Option ℕ). sends_at x m) waits) kept (all m kept) sends.ends orders)

stopping_brakes : (sends : Bool) (s : Stage) → is_stopping s ≡ true → brakes sends s ≡ true
stopping_brakes sends stage.Stopping h = refl
stopping_brakes sends other h = absurd (cc)

sent_brakes : (routes : List Route) (t : Table) (m n : ℕ) → (n ≡ m) ⊎ (n ≢ m) → Fits routes t → IsLong routes t
    → t.waiting ≡ None → Sends t m → AllBrake t
    → nat_lt 0 (delay_at (slice_set t.delays m (delay_sent t.routes t.sensors t.delays (ready_at t m) m)) n) ≡ true
    → brakes (sends_at (Some m) n) (stage_at (slice_set t.stages m (ready_at t m)) n) ≡ true
sent_brakes routes t m n (inl same) fits long waits sends all h =
    let within : m < length t.stages =
    omega (arith, slice_get_within t.routes m sends.route sends.is, fits.stages, ap length fits.plan) in
    let within' : m < length t.delays =
    omega (arith, slice_get_within t.routes m sends.route sends.is, long.delays, ap length fits.plan) in
    let delay : ℕ = delay_sent t.routes t.sensors t.delays (ready_at t m) m in
    let now : nat_lt 0 delay ≡ true =
    ap (λ (k : ℕ). nat_lt 0 k) (sym (at-set_same t.delays m delay 0 within'))
    ∙ ap (λ (i : ℕ). nat_lt 0 (delay_at (slice_set t.delays m delay) i)) (sym same) ∙ h in
    ap (λ (i : ℕ). brakes (sends_at (Some m) n) (stage_at (slice_set t.stages m (ready_at t m)) i)) same
    ∙ ap (brakes (sends_at (Some m) n)) (stage_at-set_same t.stages m (ready_at t m) within)
    ∙ stopping_brakes (sends_at (Some m) n) (ready_at t m) (sent_stops t m sends waits all now)
sent_brakes routes t m n (inr differ) fits long waits sends all h =
    let delay : ℕ = delay_sent t.routes t.sensors t.delays (ready_at t m) m in
    let before : brakes (sends_at t.waiting n) (stage_at t.stages n) ≡ true =
    all n (ap (λ (k : ℕ). nat_lt 0 k) (sym (at-set_else t.delays m n delay 0 differ)) ∙ h) in
    ap (λ (b : Bool). brakes b (stage_at (slice_set t.stages m (ready_at t m)) n)) (ne_eqb n m differ)
    ∙ ap (brakes false) (at-set_else t.stages m n (ready_at t m) stage.Idle differ)
    ∙ ap (λ (x : Option ℕ). brakes (sends_at x n) (stage_at t.stages n)) (sym waits) ∙ before

pub next_brakes : (routes : List Route) (t : Table) (x d : Option ℕ) → t.waiting ≡ x → due t ≡ d → Fits routes t
    → IsLong routes t → AllBrake t
    → AllBrake (if is_some x then record { table = t; order = None } else sent t d).table
next_brakes routes t (Some m) d waits is fits long all = all
next_brakes routes t None None waits is fits long all = all
next_brakes routes t None (Some m) waits is fits long all = λ n h.
    sent_brakes routes t m n (cases_eq n m) fits long waits (due_sends t m is) all h
