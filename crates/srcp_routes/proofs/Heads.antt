-- The signal of a route falls behind the head of its train.
use Rattle.std.proofs.Common.{◌≡◌, ◌⊎◌, inl, inr, ℕ, Bool, true, false, ◌&&◌}
use Rattle.std.proofs.Common.{Option, Some, None, List, refl, sym, ◌∙◌, ap, subst}
use Rattle.std.proofs.lemmas.Bool.{and_parts}
use Rattle.std.specs.Option.{option_map, option_map_or}
use Rattle.std.specs.Prelude.{if◌then◌else◌, is_some, nat_lt, slice_get}
use Rattle.srcp_routes.specs.Conflicts.{are_free}
use Rattle.srcp_routes.specs.Laws.{EnteredAreDark, FallsBehind, has_come, is_entered, is_show}
use Rattle.srcp_routes.specs.Plan.{Table, delay_at, stage_at, train_at, wanted_at}
use Rattle.srcp_routes.specs.Runs.{Run, head_heard, let_go_heard, run, run_after, shown_heard, tail_heard}
use Rattle.srcp_routes.specs.Stages.{falls, is_hiding, order_of, ready_stage, stop_setting}
use Rattle.srcp_routes.specs.Steps.{due, heard, may_begin, ready_at, ready_in, sent}
use Rattle.srcp_routes.specs.Trains.{has_entered}
use Rattle.srcp_routes.specs.declared.interlocking.Event.{Event}
use Rattle.srcp_routes.specs.declared.route.Order.{Order}
use Rattle.srcp_routes.specs.declared.route.Order.TheVariants as order
use Rattle.srcp_routes.specs.declared.route.Route.{Route}
use Rattle.srcp_routes.specs.declared.route.Signal.{Signal}
use Rattle.srcp_routes.specs.declared.stage.Stage.{Stage}
use Rattle.srcp_routes.specs.declared.stage.Stage.TheVariants as stage
use Rattle.srcp_routes.specs.declared.train.Train.{Train}
use Rattle.srcp_routes.proofs.Behind.{Follows, after_follows, heard_routes, run_follows}
use Rattle.srcp_routes.proofs.Fallen.{not_both}
use Rattle.srcp_routes.proofs.Followed.{heard_followed, some_of, train_of}
use Rattle.srcp_routes.proofs.Holds.{Holds, after_holds, run_holds}
use Rattle.srcp_routes.proofs.Open.{IsOpen, heard_open, is_open}
use Rattle.srcp_routes.proofs.Pending.{Sends, due_sends}
use Rattle.srcp_routes.proofs.Rest.{IsResting, after_resting, mapped, none_at, not_fresh}
use Rattle.srcp_routes.proofs.Signals.{AllGo, GoesAt, heard_shown}
use Rattle.srcp_routes.proofs.Touched.{goes}
use Rattle.srcp_routes.proofs.Well.{AllSent, fresh, heard_sent}

-- ---- the stage of a route whose train has entered

-- what is known of the stage that a route may send next, if it is wanted and its train has entered
at_head : (t : Table) (n : ℕ) (route : Route) (Q : Stage → Type 0) → wanted_at t.wanted n ≡ true
    → has_entered (train_at t.trains n) ≡ true → Q (ready_in t n route)
    → Q (falls route true (ready_stage route true (are_free t.sensors route.blocks.items)
    (may_begin t n (are_free t.sensors route.blocks.items)) (stage_at t.stages n)))
at_head t n route Q wants comes h = subst (λ (w : Bool). Q (falls route true
    (ready_stage route w (are_free t.sensors route.blocks.items)
    (may_begin t n (are_free t.sensors route.blocks.items)) (stage_at t.stages n)))) wants
    (subst (λ (e : Bool). Q (falls route e (ready_stage route (wanted_at t.wanted n)
    (are_free t.sensors route.blocks.items) (may_begin t n (are_free t.sensors route.blocks.items))
    (stage_at t.stages n)))) comes h)

fell_order : (route : Route) (signal : Signal) (told : Bool) (s : Stage) (o : Order) → route.signal ≡ Some signal
    → order_of route (option_map_or (λ y. stage.Falling told) route.signal s) ≡ Some o
    → o ≡ order.Stop (stop_setting signal)
fell_order route signal told s o is e =
    let here : order_of route (stage.Falling told) ≡ Some o = subst (λ (x : Option Signal).
    order_of route (option_map_or (λ y. stage.Falling told) x s) ≡ Some o) is e in
    let stops : option_map (λ (y : Signal). order.Stop (stop_setting y)) (Some signal) ≡ Some o = subst
    (λ (x : Option Signal). option_map (λ (y : Signal). order.Stop (stop_setting y)) x ≡ Some o) is here in
    let same : order.Stop (stop_setting signal) ≡ o = cc in sym same

-- the order of such a route, by whether its signal shows "go"
head_order : (route : Route) (signal : Signal) (free begins : Bool) (s : Stage) (o : Order) (on : Bool)
    → route.signal ≡ Some signal → is_open s ≡ true → fresh s ≡ false → (on ≡ true → goes false s ≡ true)
    → order_of route (falls route true (ready_stage route true free begins s)) ≡ Some o
    → (o ≡ order.Stop (stop_setting signal)) ⊎ ((on ≡ false) × (is_show o ≡ false))
head_order route signal free begins stage.Reporting o on is opens old lit e =
    inl (fell_order route signal false stage.Reporting o is e)
head_order route signal free begins stage.Set o on is opens old lit e = inl (fell_order route signal true stage.Set o is e)
head_order route signal free begins (stage.Fallen false) o on is opens old lit e =
    let same : order.Report route.number true ≡ o = cc in inr (not_both on lit, ap is_show (sym same))
head_order route signal free begins (stage.Fallen true) o on is opens old lit e = absurd (cc)
head_order route signal free begins stage.Showing o on is opens old lit e = absurd (cc)
head_order route signal free begins (stage.Falling told) o on is opens old lit e = absurd (cc)
head_order route signal free begins other o on is opens old lit e = absurd (cc)

fell_sends : (route : Route) (told : Bool) (s : Stage) (x : Option Signal) → route.signal ≡ x → is_some x ≡ true
    → is_some (order_of route (option_map_or (λ y. stage.Falling told) x s)) ≡ true
fell_sends route told s None is some = absurd (cc)
fell_sends route told s (Some signal) is some = mapped _ route.signal (ap (λ (y : Option Signal). is_some y) is)

-- such a route has an order as long as its signal shows "go"
head_sends : (route : Route) (free begins : Bool) (s : Stage) → is_some route.signal ≡ true → is_open s ≡ true
    → fresh s ≡ false → goes false s ≡ true
    → is_some (order_of route (falls route true (ready_stage route true free begins s))) ≡ true
head_sends route free begins stage.Reporting some opens old lit =
    fell_sends route false stage.Reporting route.signal refl some
head_sends route free begins stage.Set some opens old lit = fell_sends route true stage.Set route.signal refl some
head_sends route free begins stage.Showing some opens old lit = absurd (cc)
head_sends route free begins (stage.Falling told) some opens old lit = absurd (cc)
head_sends route free begins (stage.Fallen told) some opens old lit = absurd (cc)
head_sends route free begins other some opens old lit = absurd (cc)

-- ---- the next order

-- what is known of a route whose train has entered
record IsEntered (t : Table) (n : ℕ) (on : Bool) : Type 0 where
  wanted : wanted_at t.wanted n ≡ true
  opens : is_open (stage_at t.stages n) ≡ true
  came : has_entered (train_at t.trains n) ≡ true
  lit : on ≡ true → goes false (stage_at t.stages n) ≡ true
  sent : AllSent t.stages t.waiting

came_of : (let_go : Bool) (head tail : ℕ) (x : Option Train) → x ≡ train_of let_go head tail
    → (let_go && nat_lt 0 head) ≡ true → has_entered x ≡ true
came_of true head tail x e h = ap has_entered e ∙ h
came_of false head tail x e h = absurd (cc)

heard_is_entered : (routes : List Route) (r : Run) (event : Event) (n : ℕ) (route : Route) → Follows routes r
    → Holds routes r → slice_get (heard r.table event).routes n ≡ Some route → is_entered r event n ≡ true
    → IsEntered (heard r.table event) n (shown_heard r event n)
heard_is_entered routes r event n route follows holds is h =
    let before : slice_get r.table.routes n ≡ Some route =
    ap (λ (l : List Route). slice_get l n) (sym (heard_routes r.table event)) ∙ is in
    let train : train_at (heard r.table event).trains n
    ≡ train_of (let_go_heard r event n) (head_heard r event n) (tail_heard r event n) =
    heard_followed r event n route follows.known follows.taken follows.opens before (follows.trains n route before) in
    let go : let_go_heard r event n ≡ true = (and_parts (let_go_heard r event n) (nat_lt 0 (head_heard r event n)) h).0 in
    let opened : IsOpen (heard r.table event) n = heard_open r.table r.order event follows.pends follows.opens n
    (some_of (let_go_heard r event n) (head_heard r event n) (tail_heard r event n)
    (train_at (heard r.table event).trains n) train go) in
    let shown : AllGo false (heard r.table event).routes (heard r.table event).stages (shown_heard r event) =
    heard_shown r event holds.pends holds.shown in
    record {
      wanted = opened.wanted;
      opens = opened.opens;
      came = came_of (let_go_heard r event n) (head_heard r event n) (tail_heard r event n)
          (train_at (heard r.table event).trains n) train h;
      lit = λ on. (shown n route is on).goes;
      sent = heard_sent routes r.table r.order event follows.sound.fits follows.pends follows.sound.sent;
    }

next_order : (t : Table) (n : ℕ) (route : Route) (signal : Signal) (o : Order) (on : Bool) → t.waiting ≡ None
    → route.signal ≡ Some signal → IsEntered t n on → order_of route (ready_in t n route) ≡ Some o
    → (o ≡ order.Stop (stop_setting signal)) ⊎ ((on ≡ false) × (is_show o ≡ false))
next_order t n route signal o on waits has entered e =
    head_order route signal (are_free t.sensors route.blocks.items)
    (may_begin t n (are_free t.sensors route.blocks.items)) (stage_at t.stages n) o on has entered.opens
    (not_fresh t.stages t.waiting n (fresh (stage_at t.stages n)) refl waits entered.sent) entered.lit
    (at_head t n route (λ s. order_of route s ≡ Some o) entered.wanted entered.came e)

step_order : (t : Table) (n : ℕ) (route : Route) (signal : Signal) (o : Order) (on : Bool) (x d : Option ℕ)
    → t.waiting ≡ x → due t ≡ d → slice_get t.routes n ≡ Some route → route.signal ≡ Some signal → IsEntered t n on
    → (if is_some x then record { table = t; order = None } else sent t d).table.waiting ≡ Some n
    → (if is_some x then record { table = t; order = None } else sent t d).order ≡ Some o
    → (o ≡ order.Stop (stop_setting signal)) ⊎ ((on ≡ false) × (is_show o ≡ false))
step_order t n route signal o on (Some m) d waits is at has entered now e = absurd (cc)
step_order t n route signal o on None None waits is at has entered now e = absurd (cc)
step_order t n route signal o on None (Some m) waits is at has entered now e =
    let same : m ≡ n = cc in
    let sends : Sends t n = due_sends t n (is ∙ now) in
    let one : Some sends.order ≡ Some o =
    sym sends.sent ∙ subst (λ (i : ℕ). (sent t (Some i)).order ≡ Some o) same e in
    let two : Some sends.route ≡ Some route = sym sends.is ∙ at in
    let here : sends.route ≡ route = cc in
    let orders : order_of route (ready_at t n) ≡ Some o =
    subst (λ (a : Route). order_of a (ready_at t n) ≡ Some o) here (sends.orders ∙ one) in
    next_order t n route signal o on waits has entered
    (subst (λ (y : Option Route). order_of route (option_map_or (ready_in t n) y stage.Idle) ≡ Some o) at orders)

pub falls_behind : FallsBehind
falls_behind routes events event n route signal next is has comes now e =
    let r : Run = run routes events in
    let follows : Follows routes r = run_follows routes events in
    let at : slice_get (heard r.table event).routes n ≡ Some route =
    ap (λ (l : List Route). slice_get l n) (heard_routes r.table event ∙ follows.sound.fits.plan) ∙ is in
    step_order (heard r.table event) n route signal next (shown_heard r event n) (heard r.table event).waiting
    (due (heard r.table event)) refl refl at has
    (heard_is_entered routes r event n route follows (run_holds routes events) at comes) now e

-- ---- once no order waits

open_shown : (s : Stage) → is_open s ≡ true → is_hiding s ≡ false
open_shown stage.Hiding h = absurd (cc)
open_shown other h = refl

dark_at : (routes : List Route) (r : Run) (n : ℕ) (route : Route) → Follows routes r → Holds routes r
    → IsResting routes r.table → slice_get r.table.routes n ≡ Some route → r.let_go n ≡ true → has_come r n ≡ true
    → r.shown n ≡ true → false ≡ true
dark_at routes r n route follows holds resting is go comes on =
    let train : train_at r.table.trains n ≡ train_of (r.let_go n) (r.head n) (r.tail n) = follows.trains n route is in
    let opened : IsOpen r.table n =
    follows.opens n (some_of (r.let_go n) (r.head n) (r.tail n) (train_at r.table.trains n) train go) in
    let came : has_entered (train_at r.table.trains n) ≡ true =
    came_of (r.let_go n) (r.head n) (r.tail n) (train_at r.table.trains n) train
    (ap (λ (b : Bool). b && nat_lt 0 (r.head n)) go ∙ comes) in
    let lit : GoesAt false route (stage_at r.table.stages n) = holds.shown n route is on in
    let none : is_some (order_of route (falls route true (ready_stage route true
    (are_free r.table.sensors route.blocks.items) (may_begin r.table n (are_free r.table.sensors route.blocks.items))
    (stage_at r.table.stages n)))) ≡ false =
    at_head r.table n route (λ s. is_some (order_of route s) ≡ false) opened.wanted came
    (subst (λ (b : Bool). is_some (if b && nat_lt 0 (delay_at r.table.delays n) then None
    else order_of route (ready_in r.table n route)) ≡ false) (open_shown (stage_at r.table.stages n) opened.opens)
    (none_at routes r.table n route resting is)) in
    sym none ∙ head_sends route (are_free r.table.sensors route.blocks.items)
    (may_begin r.table n (are_free r.table.sensors route.blocks.items)) (stage_at r.table.stages n) lit.signal opened.opens
    (not_fresh r.table.stages r.table.waiting n (fresh (stage_at r.table.stages n)) refl resting.waits resting.sent)
    lit.goes

pub entered_are_dark : EnteredAreDark
entered_are_dark routes events event n route is none go comes =
    let r : Run = run_after (run routes events) event in
    let follows : Follows routes r = after_follows routes (run routes events) event (run_follows routes events) in
    let resting : IsResting routes r.table =
    after_resting routes (run routes events).table event (run_follows routes events).sound none in
    not_both (r.shown n) (dark_at routes r n route follows
    (after_holds routes (run routes events) event (run_holds routes events)) resting
    (ap (λ (l : List Route). slice_get l n) resting.fits.plan ∙ is) go comes)
