-- With each reply the routes have one order less to send, until none waits.
use Rattle.std.proofs.Common.{◌≡◌, ◌≢◌, ◌⊎◌, inl, inr, ℕ, ◌+◌, ◌<◌, ◌≤◌, Bool, true, false, ◌&&◌}
use Rattle.std.proofs.Common.{Option, Some, None, List, [], ◌∷◌, length, refl, sym, ◌∙◌, ap, arith, subst}
use Rattle.std.proofs.lemmas.Bool.{and_parts, cases_eq}
use Rattle.std.proofs.lemmas.Option.{slice_get_within}
use Rattle.std.specs.Option.{option_map_or}
use Rattle.std.specs.Prelude.{fold, if◌then◌else◌, is_some, map, slice_get, slice_set}
use Rattle.srcp_routes.specs.Conflicts.{are_free}
use Rattle.srcp_routes.specs.Laws.{RepliesSettle}
use Rattle.srcp_routes.specs.Plan.{Table, is_clear, stage_at, wanted_at}
use Rattle.srcp_routes.specs.Stages.{after_reply, count_of, is_idle, order_of}
use Rattle.srcp_routes.specs.Steps.{after, again_after, answered, course, due, heard, is_renewed, may_begin, ready_at, sent}
use Rattle.srcp_routes.specs.Steps.{ready_in, stage_replied, wanted_after}
use Rattle.srcp_routes.specs.declared.interlocking.Event.TheVariants.{Reply}
use Rattle.srcp_routes.specs.declared.route.Order.{Order}
use Rattle.srcp_routes.specs.declared.route.Route.{Route}
use Rattle.srcp_routes.specs.declared.stage.Stage.{Stage}
use Rattle.srcp_routes.specs.declared.stage.Stage.TheVariants as stage
use Rattle.srcp_routes.proofs.Again.{after_else, wanted_off}
use Rattle.srcp_routes.proofs.Apart.{stage_at-set, stage_at-set_same}
use Rattle.srcp_routes.proofs.Costs.{accepted_cost, cost, cost_at, extra, idle_cost, ready_cost, refused_cost, total_le}
use Rattle.srcp_routes.proofs.Costs.{total_less, work}
use Rattle.srcp_routes.proofs.Falls.{in_keeps}
use Rattle.srcp_routes.proofs.Pending.{Fits, Pends, PendsAt, heard_fits}
use Rattle.srcp_routes.proofs.Rest.{IsResting, after_resting, not_fresh}
use Rattle.srcp_routes.proofs.Sound.{IsSound, after_sound, course_sound}
use Rattle.srcp_routes.proofs.Well.{AllSent, AllWell, fresh, heard_sent, heard_well, well}

stage_else : (stages : List Stage) (k n : ℕ) (s : Stage) → n ≢ k → stage_at (slice_set stages k s) n ≡ stage_at stages n
stage_else stages k n s differ = elim (stage_at-set stages k s n) [ inl p ↦ absurd (differ p.0) | inr e ↦ e ]

-- the cost of a route by what is asked for and its stage
abbrev cost_by : Option Route → (wanted again : Bool) → Stage → ℕ
cost_by x wanted again s = option_map_or (λ (route : Route). cost (count_of route) wanted s + extra (count_of route) again) x 0

reply_cost_of : (t : Table) (route : Route) (o : Order) (ok renewed idle again : Bool) (n : ℕ)
    → order_of route (stage_at t.stages n) ≡ Some o → well route (stage_at t.stages n) ≡ true
    → is_idle (after_reply route (stage_at t.stages n) ok) ≡ idle → wanted_at t.again n ≡ again
    → (ok && (idle && again)) ≡ renewed
    → cost (count_of route) (wanted_at (if renewed then slice_set t.wanted n true
    else (if ok then t.wanted else slice_set t.wanted n false)) n) (after_reply route (stage_at t.stages n) ok)
    + extra (count_of route) (wanted_at (if renewed then slice_set t.again n false
    else (if ok then t.again else slice_set t.again n false)) n) + 1
    ≤ cost (count_of route) (wanted_at t.wanted n) (stage_at t.stages n) + extra (count_of route) (wanted_at t.again n)
reply_cost_of t route o true true true true n orders good is asks renews =
    let off : extra (count_of route) (wanted_at (slice_set t.again n false) n) ≡ 0 =
    ap (extra (count_of route)) (wanted_off t.again n) in
    let more : extra (count_of route) (wanted_at t.again n) ≡ extra (count_of route) true = ap (extra (count_of route)) asks in
    omega (
      arith,
      off,
      more,
      accepted_cost route (wanted_at t.wanted n) (stage_at t.stages n) o orders good,
      idle_cost (count_of route) (wanted_at (slice_set t.wanted n true) n) (after_reply route (stage_at t.stages n) true) is,
    )
reply_cost_of t route o true false idle again n orders good is asks renews =
    omega (arith, accepted_cost route (wanted_at t.wanted n) (stage_at t.stages n) o orders good)
reply_cost_of t route o false false idle again n orders good is asks renews =
    let off : extra (count_of route) (wanted_at (slice_set t.again n false) n) ≡ 0 =
    ap (extra (count_of route)) (wanted_off t.again n) in
    let less : cost (count_of route) (wanted_at (slice_set t.wanted n false) n) (after_reply route (stage_at t.stages n) false)
    + 1 ≤ cost (count_of route) (wanted_at t.wanted n) (stage_at t.stages n) =
    subst (λ (w : Bool). cost (count_of route) w (after_reply route (stage_at t.stages n) false) + 1
    ≤ cost (count_of route) (wanted_at t.wanted n) (stage_at t.stages n)) (sym (wanted_off t.wanted n))
    (refused_cost route (wanted_at t.wanted n) (stage_at t.stages n) o orders good) in
    omega (arith, off, less)
reply_cost_of t route o true true false again n orders good is asks renews = absurd (cc)
reply_cost_of t route o true true true false n orders good is asks renews = absurd (cc)
reply_cost_of t route o false true idle again n orders good is asks renews = absurd (cc)

reply_cost : (t : Table) (route : Route) (o : Order) (ok : Bool) (n : ℕ) → slice_get t.routes n ≡ Some route
    → order_of route (stage_at t.stages n) ≡ Some o → well route (stage_at t.stages n) ≡ true
    → cost (count_of route) (wanted_at (wanted_after t ok n) n) (after_reply route (stage_at t.stages n) ok)
    + extra (count_of route) (wanted_at (again_after t ok n) n) + 1
    ≤ cost (count_of route) (wanted_at t.wanted n) (stage_at t.stages n) + extra (count_of route) (wanted_at t.again n)
reply_cost t route o ok n is orders good = reply_cost_of t route o ok (is_renewed t ok n)
    (is_idle (after_reply route (stage_at t.stages n) ok)) (wanted_at t.again n) n orders good refl refl
    (ap (λ (x : Option Route). ok && (is_idle (option_map_or (λ (a : Route). after_reply a (stage_at t.stages n) ok) x
    stage.Idle) && wanted_at t.again n)) (sym is))

-- the route whose reply came has less to send
replied_less : (routes : List Route) (t : Table) (last : Option Order) (ok : Bool) (n : ℕ) → Fits routes t
    → AllWell t.routes t.stages → PendsAt t last n → cost_at (answered t ok n) n + 1 ≤ cost_at t n
replied_less routes t last ok n fits good pends =
    let within : n < length t.stages =
    omega (arith, slice_get_within t.routes n pends.route pends.is, fits.stages, ap length fits.plan) in
    let now : stage_at (slice_set t.stages n (stage_replied t n ok)) n ≡ after_reply pends.route (stage_at t.stages n) ok =
    stage_at-set_same t.stages n (stage_replied t n ok) within
    ∙ ap (λ (x : Option Route). option_map_or (λ (a : Route). after_reply a (stage_at t.stages n) ok) x stage.Idle) pends.is in
    let one : cost_at (answered t ok n) n
    ≡ cost (count_of pends.route) (wanted_at (wanted_after t ok n) n) (after_reply pends.route (stage_at t.stages n) ok)
    + extra (count_of pends.route) (wanted_at (again_after t ok n) n) =
    ap (λ (x : Option Route). cost_by x (wanted_at (wanted_after t ok n) n) (wanted_at (again_after t ok n) n)
    (stage_at (slice_set t.stages n (stage_replied t n ok)) n)) pends.is
    ∙ ap (λ (s : Stage). cost (count_of pends.route) (wanted_at (wanted_after t ok n) n) s
    + extra (count_of pends.route) (wanted_at (again_after t ok n) n)) now in
    let two : cost_at t n ≡ cost (count_of pends.route) (wanted_at t.wanted n) (stage_at t.stages n)
    + extra (count_of pends.route) (wanted_at t.again n) =
    ap (λ (x : Option Route). cost_by x (wanted_at t.wanted n) (wanted_at t.again n) (stage_at t.stages n)) pends.is in
    let less : cost (count_of pends.route) (wanted_at (wanted_after t ok n) n)
    (after_reply pends.route (stage_at t.stages n) ok)
    + extra (count_of pends.route) (wanted_at (again_after t ok n) n) + 1
    ≤ cost (count_of pends.route) (wanted_at t.wanted n) (stage_at t.stages n)
    + extra (count_of pends.route) (wanted_at t.again n) =
    reply_cost t pends.route pends.order ok n pends.is pends.orders (good n pends.route pends.is) in
    omega (arith, one, two, less)

same_cost : (x : Option Route) (w v a b : Bool) (s z : Stage) → w ≡ v → a ≡ b → s ≡ z → cost_by x w a s ≡ cost_by x v b z
same_cost x w v a b s z e c d =
    ap (λ (y : Bool). cost_by x y a s) e ∙ ap (λ (y : Bool). cost_by x v y s) c ∙ ap (cost_by x v b) d

replied_le_of : (t : Table) (ok : Bool) (k n : ℕ) → (n ≡ k) ⊎ (n ≢ k)
    → cost_at (answered t ok k) k + 1 ≤ cost_at t k → cost_at (answered t ok k) n ≤ cost_at t n
replied_le_of t ok k n (inl same) less =
    subst (λ (i : ℕ). cost_at (answered t ok k) i ≤ cost_at t i) (sym same) (omega (arith, less))
replied_le_of t ok k n (inr differ) less =
    let one : cost_at (answered t ok k) n ≡ cost_at t n =
    same_cost (slice_get t.routes n) (wanted_at (wanted_after t ok k) n) (wanted_at t.wanted n)
    (wanted_at (again_after t ok k) n) (wanted_at t.again n)
    (stage_at (slice_set t.stages k (stage_replied t k ok)) n) (stage_at t.stages n)
    (after_else t.wanted (is_renewed t ok k) ok true k n differ)
    (after_else t.again (is_renewed t ok k) ok false k n differ)
    (stage_else t.stages k n (stage_replied t k ok) differ) in
    omega (arith, one)

replied_work : (routes : List Route) (t : Table) (last : Option Order) (ok : Bool) (n : ℕ) → Fits routes t
    → AllWell t.routes t.stages → PendsAt t last n → work (answered t ok n) + 1 ≤ work t
replied_work routes t last ok n fits good pends =
    let less : cost_at (answered t ok n) n + 1 ≤ cost_at t n = replied_less routes t last ok n fits good pends in
    total_less (cost_at (answered t ok n)) (cost_at t) (length t.routes) n
    (slice_get_within t.routes n pends.route pends.is) less (λ m. replied_le_of t ok n m (cases_eq m n) less)

-- no route has more to send once the next order is sent
pub begins_wanted : (t : Table) (n : ℕ) (free : Bool) → may_begin t n free ≡ true → wanted_at t.wanted n ≡ true
begins_wanted t n free h =
    let one : (wanted_at t.wanted n && (free && is_clear t.routes t.stages n)) ≡ true =
    (and_parts (is_idle (stage_at t.stages n)) (wanted_at t.wanted n && (free && is_clear t.routes t.stages n)) h).1 in
    (and_parts (wanted_at t.wanted n) (free && is_clear t.routes t.stages n) one).0

sent_le_some : (t : Table) (n : ℕ) (route : Route) → AllWell t.routes t.stages → AllSent t.stages t.waiting
    → t.waiting ≡ None → slice_get t.routes n ≡ Some route
    → cost (count_of route) (wanted_at t.wanted n) (ready_at t n)
    ≤ cost (count_of route) (wanted_at t.wanted n) (stage_at t.stages n)
sent_le_some t n route good all waits is =
    let now : ready_at t n ≡ ready_in t n route =
    ap (λ (x : Option Route). option_map_or (ready_in t n) x stage.Idle) is in
    subst (λ (s : Stage). cost (count_of route) (wanted_at t.wanted n) s
    ≤ cost (count_of route) (wanted_at t.wanted n) (stage_at t.stages n)) (sym now)
    (in_keeps (λ s. cost (count_of route) (wanted_at t.wanted n) s
    ≤ cost (count_of route) (wanted_at t.wanted n) (stage_at t.stages n)) t n route (λ some le. le) (λ some le. le)
    (ready_cost route (wanted_at t.wanted n) (are_free t.sensors route.blocks.items)
    (may_begin t n (are_free t.sensors route.blocks.items)) (stage_at t.stages n)
    (begins_wanted t n (are_free t.sensors route.blocks.items))
    (not_fresh t.stages t.waiting n (fresh (stage_at t.stages n)) refl waits all) (good n route is)))

abbrev sent_table : Table → ℕ → Table
sent_table t k = (sent t (Some k)).table

sent_le_here : (routes : List Route) (t : Table) (n : ℕ) (x : Option Route) → Fits routes t → AllWell t.routes t.stages
    → AllSent t.stages t.waiting → t.waiting ≡ None → slice_get t.routes n ≡ x
    → cost_by x (wanted_at t.wanted n) (wanted_at t.again n) (stage_at (slice_set t.stages n (ready_at t n)) n)
    ≤ cost_by x (wanted_at t.wanted n) (wanted_at t.again n) (stage_at t.stages n)
sent_le_here routes t n None fits good all waits is = omega arith
sent_le_here routes t n (Some route) fits good all waits is =
    let within : n < length t.stages =
    omega (arith, slice_get_within t.routes n route is, fits.stages, ap length fits.plan) in
    let le : cost (count_of route) (wanted_at t.wanted n) (stage_at (slice_set t.stages n (ready_at t n)) n)
    ≤ cost (count_of route) (wanted_at t.wanted n) (stage_at t.stages n) =
    subst (λ (s : Stage). cost (count_of route) (wanted_at t.wanted n) s
    ≤ cost (count_of route) (wanted_at t.wanted n) (stage_at t.stages n))
    (sym (stage_at-set_same t.stages n (ready_at t n) within)) (sent_le_some t n route good all waits is) in
    omega (arith, le)

sent_le_of : (routes : List Route) (t : Table) (k n : ℕ) → (n ≡ k) ⊎ (n ≢ k) → Fits routes t → AllWell t.routes t.stages
    → AllSent t.stages t.waiting → t.waiting ≡ None → cost_at (sent_table t k) n ≤ cost_at t n
sent_le_of routes t k n (inl same) fits good all waits =
    subst (λ (i : ℕ). cost_at (sent_table t k) i ≤ cost_at t i) (sym same)
    (sent_le_here routes t k (slice_get t.routes k) fits good all waits refl)
sent_le_of routes t k n (inr differ) fits good all waits =
    let one : cost_at (sent_table t k) n ≡ cost_at t n =
    same_cost (slice_get t.routes n) (wanted_at t.wanted n) (wanted_at t.wanted n) (wanted_at t.again n)
    (wanted_at t.again n) (stage_at (slice_set t.stages k (ready_at t k)) n) (stage_at t.stages n) refl refl
    (stage_else t.stages k n (ready_at t k) differ) in
    omega (arith, one)

next_work : (routes : List Route) (t : Table) (x d : Option ℕ) → Fits routes t → AllWell t.routes t.stages
    → AllSent t.stages t.waiting → t.waiting ≡ x
    → work (if is_some x then record { table = t; order = None } else sent t d).table ≤ work t
next_work routes t (Some n) d fits good all waits = omega arith
next_work routes t None None fits good all waits = omega arith
next_work routes t None (Some k) fits good all waits =
    total_le (cost_at (sent_table t k)) (cost_at t) (length t.routes)
    (λ n. sent_le_of routes t k n (cases_eq n k) fits good all waits)

-- the table once the reply to the order of a route came
heard_is : (t : Table) (ok : Bool) (n : ℕ) → t.waiting ≡ Some n → heard t (Reply ok) ≡ answered t ok n
heard_is t ok n waits = ap (λ (x : Option ℕ). option_map_or (answered t ok) x t) waits

after_work : (routes : List Route) (t : Table) (ok : Bool) (n : ℕ) → IsSound routes t → t.waiting ≡ Some n
    → work (after t (Reply ok)) + 1 ≤ work t
after_work routes t ok n sound waits =
    let pends : PendsAt t sound.last n = subst (λ (x : Option ℕ). Pends t sound.last x) waits sound.pends in
    let is : heard t (Reply ok) ≡ answered t ok n = heard_is t ok n waits in
    let one : work (heard t (Reply ok)) ≡ work (answered t ok n) = ap work is in
    let two : work (answered t ok n) + 1 ≤ work t =
    replied_work routes t sound.last ok n sound.fits sound.well pends in
    let three : work (after t (Reply ok)) ≤ work (heard t (Reply ok)) =
    next_work routes (heard t (Reply ok)) (heard t (Reply ok)).waiting (due (heard t (Reply ok)))
    (heard_fits routes t (Reply ok) sound.fits) (heard_well t (Reply ok) sound.well)
    (heard_sent routes t sound.last (Reply ok) sound.fits sound.pends sound.sent) refl in
    omega (arith, one, two, three)

-- at rest a reply changes nothing
next_none : (t : Table) (x d : Option ℕ) → d ≡ None
    → (if is_some x then record { table = t; order = None } else sent t d).table ≡ t
next_none t (Some n) d none = refl
next_none t None None none = refl
next_none t None (Some n) none = absurd (cc)

rest_after : (routes : List Route) (t : Table) (ok : Bool) → IsResting routes t → after t (Reply ok) ≡ t
rest_after routes t ok resting =
    let is : heard t (Reply ok) ≡ t = ap (λ (x : Option ℕ). option_map_or (answered t ok) x t) resting.waits in
    next_none (heard t (Reply ok)) (heard t (Reply ok)).waiting (due (heard t (Reply ok))) (ap due is ∙ resting.due) ∙ is

rest_stays : (routes : List Route) (t : Table) (replies : List Bool) → IsResting routes t
    → (fold after t (map Reply replies)).waiting ≡ None
rest_stays routes t [] resting = resting.waits
rest_stays routes t (ok ∷ replies) resting =
    subst (λ (u : Table). (fold after u (map Reply replies)).waiting ≡ None) (sym (rest_after routes t ok resting))
    (rest_stays routes t replies resting)

-- a number of replies brings all routes to rest
settle : (routes : List Route) (t : Table) (replies : List Bool) (x : Option ℕ) → t.waiting ≡ x → IsSound routes t
    → (t.waiting ≡ None → IsResting routes t) → work t ≤ length replies
    → (fold after t (map Reply replies)).waiting ≡ None
settle routes t replies None waits sound rest le = rest_stays routes t replies (rest waits)
settle routes t [] (Some n) waits sound rest le =
    absurd (omega (arith, le, after_work routes t true n sound waits))
settle routes t (ok ∷ replies) (Some n) waits sound rest le =
    settle routes (after t (Reply ok)) replies (after t (Reply ok)).waiting refl (after_sound routes t (Reply ok) sound)
    (after_resting routes t (Reply ok) sound) (omega (arith, le, after_work routes t ok n sound waits))

pub replies_settle : RepliesSettle
replies_settle routes events event = record {
  within = work (after (course routes events) event);
  settled = λ replies le. settle routes (after (course routes events) event) replies
      (after (course routes events) event).waiting refl
      (after_sound routes (course routes events) event (course_sound routes events))
      (after_resting routes (course routes events) event (course_sound routes events)) le;
}
