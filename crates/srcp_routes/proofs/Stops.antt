-- As a route stops its signal since it was given back, events alone say so too.
use Rattle.std.proofs.Common.{◌≡◌, inl, inr, ℕ, ◌==◌, Bool, true, false, not, ◌&&◌}
use Rattle.std.proofs.Common.{Option, Some, None, List, [], ◌∷◌, refl, sym, ◌∙◌, ap, subst}
use Rattle.std.proofs.lemmas.Bool.{or_left, or_right}
use Rattle.std.specs.List.{list_all, list_any}
use Rattle.std.specs.Option.{option_map, option_map_or}
use Rattle.std.specs.Prelude.{if◌then◌else◌, slice_get}
use Rattle.srcp_routes.specs.Conflicts.{are_free, is_free, is_same, is_vacant}
use Rattle.srcp_routes.specs.Plan.{Table, stage_at, train_at, wanted_at}
use Rattle.srcp_routes.specs.Runs.{is_approach_free, is_stop}
use Rattle.srcp_routes.specs.Stages.{falls, is_stopping, order_of, ready_stage}
use Rattle.srcp_routes.specs.Stages.{show_setting, stop_setting, turnout_at}
use Rattle.srcp_routes.specs.Steps.{may_begin, ready_in}
use Rattle.srcp_routes.specs.Trains.{has_entered}
use Rattle.srcp_routes.specs.declared.route.Device.{Device}
use Rattle.srcp_routes.specs.declared.route.Order.{Order}
use Rattle.srcp_routes.specs.declared.route.Order.TheVariants as order
use Rattle.srcp_routes.specs.declared.route.Route.{Route}
use Rattle.srcp_routes.specs.declared.route.Setting.{Setting}
use Rattle.srcp_routes.specs.declared.route.Signal.{Signal}
use Rattle.srcp_routes.specs.declared.stage.Stage.{Stage}
use Rattle.srcp_routes.specs.declared.stage.Stage.TheVariants as stage
use Rattle.srcp_routes.proofs.Falls.{in_keeps}
use Rattle.srcp_routes.proofs.Followed.{both_true, own_same, some_of, train_of}
use Rattle.srcp_routes.proofs.Free.{IsKnownRightly}
use Rattle.srcp_routes.proofs.Known.{AllNear}
use Rattle.srcp_routes.proofs.Open.{AllOpen, IsOpen, is_open, kept_open}
use Rattle.srcp_routes.proofs.Pending.{Fits}
use Rattle.srcp_routes.proofs.Rest.{not_fresh}
use Rattle.srcp_routes.proofs.Shines.{AllShine, in_shines, shines}
use Rattle.srcp_routes.proofs.Signals.{AllGo, GoesAt, ready_goes}
use Rattle.srcp_routes.proofs.Touched.{goes}
use Rattle.srcp_routes.proofs.Well.{AllSent, fresh}

-- ---- what is known of an approach

-- two words on each sensor say the same of all
all_say : (f g : Device → Bool) (sensors : List Device)
    → ((x : Device) → list_any (λ sensor. is_same sensor x) sensors ≡ true → f x ≡ g x)
    → list_all f sensors ≡ list_all g sensors
all_say f g [] same = refl
all_say f g (x ∷ xs) same =
    ap (λ (b : Bool). b && list_all f xs) (same x (or_left (is_same x x) (list_any (λ sensor. is_same sensor x) xs) (own_same x)))
    ∙ ap (λ (b : Bool). g x && b) (all_say f g xs
    (λ y h. same y (or_right (is_same x y) (list_any (λ sensor. is_same sensor y) xs) h)))

-- an approach is free in the table if it is so by events alone
pub approach_is : (t : Table) (free : Device → Bool) (n : ℕ) (route : Route) → slice_get t.routes n ≡ Some route
    → AllNear t.routes t.sensors free → IsKnownRightly is_vacant t.sensors free
    → is_approach_free t.routes free n ≡ are_free t.sensors route.approach.items
approach_is t free n route is near known =
    ap (λ (x : Option Route). option_map_or (λ (a : Route). list_all free a.approach.items) x true) is
    ∙ all_say free (is_free t.sensors) route.approach.items (λ x h.
    both_true (free x) (is_free t.sensors x) (near n x (ap (λ (y : Option Route).
    option_map_or (λ (a : Route). list_any (λ sensor. is_same sensor x) a.approach.items) y false) is ∙ h)).known (known x))

-- ---- the order that stops a signal

stop_yes : (x : Option Signal) (o : Order) → option_map (λ signal. order.Stop (stop_setting signal)) x ≡ Some o
    → is_stop (Some o) ≡ true
stop_yes None o e = absurd (cc)
stop_yes (Some signal) o e = ap is_stop (sym e)

stop_no : {X : Type 0} (f : X → Order) (x : Option X) (o : Order) → ((y : X) → is_stop (Some (f y)) ≡ false)
    → option_map f x ≡ Some o → is_stop (Some o) ≡ false
stop_no f None o each e = absurd (cc)
stop_no f (Some y) o each e = ap is_stop (sym e) ∙ each y

-- a signal is stopped that was never shown in this session, or behind the head of a train
abbrev is_clearing : Stage → Bool
is_clearing stage.Clearing = true
is_clearing other = false

abbrev is_falling : Stage → Bool
is_falling (stage.Falling told) = true
is_falling other = false

given_on : (a b c d : Bool) → a ≡ true → b ≡ true → c ≡ false → (a && (b && (not c && d))) ≡ d
given_on true true false d one two three = refl
given_on false b c d one two three = absurd (cc)
given_on a false c d one two three = absurd (cc)
given_on a b true d one two three = absurd (cc)

unshown_off : (a b c : Bool) → b ≡ false → (a && (b && c)) ≡ false
unshown_off true b c e = ap (λ (x : Bool). x && c) e
unshown_off false b c e = refl

gone_off : (a b c d : Bool) → c ≡ true → (a && (b && (not c && d))) ≡ false
gone_off true true true d e = refl
gone_off true false true d e = refl
gone_off false b c d e = refl
gone_off a b false d e = absurd (cc)

no_stop : (a b : Bool) → a ≡ false → (a && b) ≡ false
no_stop true b e = absurd (cc)
no_stop false b e = refl

-- a route that was given back stops its signal, by its stage as by events
pub braked_is : (route : Route) (s : Stage) (o : Order) (shown go free : Bool) → order_of route s ≡ Some o
    → (is_stopping s ≡ true → shown ≡ true) → (is_stopping s ≡ true → go ≡ false)
    → (is_clearing s ≡ true → shown ≡ false) → (is_falling s ≡ true → go ≡ true)
    → (is_stop (Some o) && (shown && (not go && not free))) ≡ (is_stopping s && not free)
braked_is route stage.Stopping o shown go free e one two three four =
    given_on (is_stop (Some o)) shown go (not free) (stop_yes route.signal o e) (one refl) (two refl)
braked_is route stage.Clearing o shown go free e one two three four =
    unshown_off (is_stop (Some o)) shown (not go && not free) (three refl)
braked_is route (stage.Falling told) o shown go free e one two three four =
    gone_off (is_stop (Some o)) shown go (not free) (four refl)
braked_is route (stage.Locking done) o shown go free e one two three four =
    no_stop (is_stop (Some o)) (shown && (not go && not free))
    (stop_no (λ (x : Setting). order.Lock x.device) (turnout_at route done) o (λ y. refl) e)
braked_is route (stage.Throwing done) o shown go free e one two three four =
    no_stop (is_stop (Some o)) (shown && (not go && not free))
    (stop_no order.Throw (turnout_at route done) o (λ y. refl) e)
braked_is route (stage.Unlocking left) o shown go free e one two three four =
    no_stop (is_stop (Some o)) (shown && (not go && not free))
    (stop_no (λ (x : Setting). order.Unlock x.device) (turnout_at route left) o (λ y. refl) e)
braked_is route stage.Showing o shown go free e one two three four =
    no_stop (is_stop (Some o)) (shown && (not go && not free))
    (stop_no (λ signal. order.Show (show_setting signal)) route.signal o (λ y. refl) e)
braked_is route stage.Reporting o shown go free e one two three four =
    no_stop (is_stop (Some o)) (shown && (not go && not free)) (ap is_stop (sym e))
braked_is route (stage.Fallen false) o shown go free e one two three four =
    no_stop (is_stop (Some o)) (shown && (not go && not free)) (ap is_stop (sym e))
braked_is route stage.Closing o shown go free e one two three four =
    no_stop (is_stop (Some o)) (shown && (not go && not free)) (ap is_stop (sym e))
braked_is route stage.Hiding o shown go free e one two three four =
    no_stop (is_stop (Some o)) (shown && (not go && not free)) (ap is_stop (sym e))
braked_is route other o shown go free e one two three four = absurd (cc)

-- ---- the stage of the route that sends its order

-- what is known of a table as it sends an order
pub record Stands (routes : List Route) (t : Table) (shown go : ℕ → Bool) (head tail : ℕ → ℕ) : Type 0 where
  pub fits : Fits routes t
  pub sent : AllSent t.stages t.waiting
  pub opens : AllOpen t
  pub trains : (n : ℕ) (route : Route) → slice_get t.routes n ≡ Some route
      → train_at t.trains n ≡ train_of (go n) (head n) (tail n)
  pub goes : AllGo false t.routes t.stages shown
  pub shines : AllShine t.routes t.stages shown

stopping_shines : (route : Route) (s : Stage) → is_stopping s ≡ true → shines route s ≡ true
stopping_shines route stage.Stopping h = refl
stopping_shines route other h = absurd (cc)

stopping_not : (s : Stage) (P : Type 0) → s ≡ stage.Showing → is_stopping s ≡ true → P
stopping_not stage.Stopping P e h = absurd (cc)
stopping_not other P e h = absurd (cc)

pub stopping_shown : (routes : List Route) (t : Table) (shown go : ℕ → Bool) (head tail : ℕ → ℕ) (n : ℕ) (route : Route)
    → Stands routes t shown go head tail → slice_get t.routes n ≡ Some route
    → is_stopping (ready_in t n route) ≡ true → shown n ≡ true
stopping_shown routes t shown go head tail n route stands is h =
    elim (in_shines t n route (stopping_shines route (ready_in t n route) h)) [
      | inl shone ↦ stands.shines n route is shone
      | inr shows ↦ stopping_not (ready_in t n route) _ shows h
    ]

open_not : (s : Stage) (P : Type 0) → is_open s ≡ true → is_stopping s ≡ true → P
open_not stage.Stopping P opens h = absurd (cc)
open_not other P opens h = absurd (cc)

-- a route that has let a train go does not stop its signal since it was given back
pub let_go_not : (routes : List Route) (t : Table) (shown go : ℕ → Bool) (head tail : ℕ → ℕ) (n : ℕ) (route : Route) (b : Bool)
    → Stands routes t shown go head tail → t.waiting ≡ None → slice_get t.routes n ≡ Some route
    → go n ≡ b → is_stopping (ready_in t n route) ≡ true → b ≡ false
let_go_not routes t shown go head tail n route true stands waits is e h =
    let opened : IsOpen t n = stands.opens n
    (some_of (go n) (head n) (tail n) (train_at t.trains n) (stands.trains n route is) e) in
    let ready : is_open (ready_in t n route) ≡ true =
    in_keeps (λ s. is_open s ≡ true) t n route (λ some g. refl) (λ some g. refl)
    (subst (λ (w : Bool). is_open (ready_stage route w (are_free t.sensors route.blocks.items)
    (may_begin t n (are_free t.sensors route.blocks.items)) (stage_at t.stages n)) ≡ true) (sym opened.wanted)
    (kept_open route (are_free t.sensors route.blocks.items) (may_begin t n (are_free t.sensors route.blocks.items))
    (stage_at t.stages n) opened.opens
    (not_fresh t.stages t.waiting n (fresh (stage_at t.stages n)) refl waits stands.sent))) in
    open_not (ready_in t n route) _ ready h
let_go_not routes t shown go head tail n route false stands waits is e h = refl

clearing_dark : (s : Stage) (P : Type 0) → goes false s ≡ true → is_clearing s ≡ true → P
clearing_dark stage.Clearing P lit h = absurd (cc)
clearing_dark other P lit h = absurd (cc)

-- a signal that is stopped as a session begins was not shown in this session
pub clearing_not : (routes : List Route) (t : Table) (shown go : ℕ → Bool) (head tail : ℕ → ℕ) (n : ℕ) (route : Route) (b : Bool)
    → Stands routes t shown go head tail → slice_get t.routes n ≡ Some route
    → shown n ≡ b → is_clearing (ready_in t n route) ≡ true → b ≡ false
clearing_not routes t shown go head tail n route true stands is e h =
    let at : GoesAt false route (stage_at t.stages n) = stands.goes n route is e in
    clearing_dark (ready_in t n route) _ (in_keeps (λ s. goes false s ≡ true) t n route (λ some g. refl) (λ some g. refl)
    (ready_goes false route (wanted_at t.wanted n) (are_free t.sensors route.blocks.items)
    (may_begin t n (are_free t.sensors route.blocks.items)) (stage_at t.stages n) at)) h
clearing_not routes t shown go head tail n route false stands is e h = refl

left_still : (left : ℕ) (P : Type 0) (none : Bool)
    → is_falling (if none then stage.Idle else stage.Unlocking left) ≡ true → P
left_still left P true h = absurd (cc)
left_still left P false h = absurd (cc)

leaving_still : (P : Type 0) (x : Option Signal)
    → is_falling (option_map_or (λ signal. stage.Stopping) x stage.Hiding) ≡ true → P
leaving_still P None h = absurd (cc)
leaving_still P (Some signal) h = absurd (cc)

first_still : (P : Type 0) (none : Bool) (x : Option Signal)
    → is_falling (if none then option_map_or (λ signal. stage.Showing) x stage.Reporting else stage.Locking 0) ≡ true → P
first_still P true None h = absurd (cc)
first_still P true (Some signal) h = absurd (cc)
first_still P false x h = absurd (cc)

ready_still : (route : Route) (wanted free begins : Bool) (s : Stage) (P : Type 0) → fresh s ≡ false
    → is_falling (ready_stage route wanted free begins s) ≡ true → P
ready_still route wanted free true stage.Idle P old h = first_still P _ route.signal h
ready_still route wanted free false stage.Idle P old h = absurd (cc)
ready_still route wanted free begins stage.Showing P old h = absurd (cc)
ready_still route true true begins stage.Ready P old h = absurd (cc)
ready_still route true false begins stage.Ready P old h = absurd (cc)
ready_still route wanted free begins (stage.Falling told) P old h = absurd (cc)
ready_still route true free begins other P old h = absurd (cc)
ready_still route false free begins (stage.Locking done) P old h = left_still _ P (done == 0) h
ready_still route false free begins stage.Reporting P old h = leaving_still P route.signal h
ready_still route false free begins stage.Set P old h = leaving_still P route.signal h
ready_still route false free begins other P old h = absurd (cc)

falls_entered : (route : Route) (entered : Bool) (s : Stage) → (is_falling s ≡ true → entered ≡ true)
    → is_falling (falls route entered s) ≡ true → entered ≡ true
falls_entered route true s was h = refl
falls_entered route false s was h = was h

go_of : (b : Bool) (head tail : ℕ) → has_entered (train_of b head tail) ≡ true → b ≡ true
go_of true head tail h = refl
go_of false head tail h = absurd (cc)

-- a signal that falls does so behind the head of the train that the route has let go
pub falling_go : (routes : List Route) (t : Table) (shown go : ℕ → Bool) (head tail : ℕ → ℕ) (n : ℕ) (route : Route)
    → Stands routes t shown go head tail → t.waiting ≡ None → slice_get t.routes n ≡ Some route
    → is_falling (ready_in t n route) ≡ true → go n ≡ true
falling_go routes t shown go head tail n route stands waits is h =
    let entered : has_entered (train_at t.trains n) ≡ true =
    falls_entered route (has_entered (train_at t.trains n))
    (ready_stage route (wanted_at t.wanted n) (are_free t.sensors route.blocks.items)
    (may_begin t n (are_free t.sensors route.blocks.items)) (stage_at t.stages n))
    (ready_still route (wanted_at t.wanted n) (are_free t.sensors route.blocks.items)
    (may_begin t n (are_free t.sensors route.blocks.items)) (stage_at t.stages n) _
    (not_fresh t.stages t.waiting n (fresh (stage_at t.stages n)) refl waits stands.sent)) h in
    go_of (go n) (head n) (tail n) (ap has_entered (sym (stands.trains n route is)) ∙ entered)
