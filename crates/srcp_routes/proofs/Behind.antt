-- A route that has let a train go keeps its locks until the route was given back.
use Rattle.std.proofs.Common.{◌≡◌, ◌≢◌, ◌⊎◌, inl, inr, ℕ, ◌==◌, ◌<◌, Bool, true, false, ◌&&◌, ◌||◌}
use Rattle.std.proofs.Common.{Option, Some, None, List, [], ◌∷◌, length, refl, sym, ◌∙◌, ap, arith, subst}
use Rattle.std.proofs.lemmas.Bool.{cases_eq, eq-eqb, ne_eqb}
use Rattle.std.proofs.lemmas.Option.{slice_get_within}
use Rattle.std.specs.Option.{option_map, option_map_or}
use Rattle.std.specs.Prelude.{fold, if◌then◌else◌, is_some, slice_get, slice_set}
use Rattle.srcp_routes.specs.Conflicts.{is_taken}
use Rattle.srcp_routes.specs.Laws.{FreedBehind, ends}
use Rattle.srcp_routes.specs.Plan.{Table, stage_at, train_at}
use Rattle.srcp_routes.specs.Runs.{Run, goes_now, head_heard, is_go, let_go_heard, run, run_after, run_start}
use Rattle.srcp_routes.specs.Runs.{tail_heard}
use Rattle.srcp_routes.specs.Stages.{order_of, show_setting, stop_setting}
use Rattle.srcp_routes.specs.Steps.{due, heard, ready_at, sent, step}
use Rattle.srcp_routes.specs.Trains.{at_start, lets_go}
use Rattle.srcp_routes.specs.declared.interlocking.Event.{Event}
use Rattle.srcp_routes.specs.declared.interlocking.Event.TheVariants.{Ask, Give, Told, Second, Reply, Lost}
use Rattle.srcp_routes.specs.declared.route.Order.{Order}
use Rattle.srcp_routes.specs.declared.route.Order.TheVariants as order
use Rattle.srcp_routes.specs.declared.route.Route.{Route}
use Rattle.srcp_routes.specs.declared.stage.Stage.{Stage}
use Rattle.srcp_routes.specs.declared.stage.Stage.TheVariants as stage
use Rattle.srcp_routes.specs.declared.train.Train.{Train}
use Rattle.srcp_routes.proofs.Entered.{AllEntered, and_off, go_is, heard_entered, next_entered, sent_head, start_entered}
use Rattle.srcp_routes.proofs.Entered.{well_at}
use Rattle.srcp_routes.proofs.Followed.{AllFollowed, heard_followed, train_of}
use Rattle.srcp_routes.proofs.Free.{IsKnownRightly, after_free, start_free}
use Rattle.srcp_routes.proofs.Known.{AllKnown, after_known, answer_routes, start_known}
use Rattle.srcp_routes.proofs.Long.{IsLong, after_long_of, heard_long, next_train, start_long}
use Rattle.srcp_routes.proofs.Open.{AllOpen, heard_open, is_open, next_open}
use Rattle.srcp_routes.proofs.Pending.{Fits, Pends, PendsAt, Sends, due_sends, heard_fits, step_pends}
use Rattle.srcp_routes.proofs.Places.{at-replicate, at-set_else, at-set_same}
use Rattle.srcp_routes.proofs.Sound.{IsSound, after_sound, start_sound}
use Rattle.srcp_routes.proofs.Well.{AllWell, heard_sent, heard_well}

-- ---- the next order

and_here : (a b c : Bool) → a ≡ c → b ≡ true → (a && b) ≡ c
and_here true b c e h = h ∙ e
and_here false b c e h = e

started : (goes let_go : Bool) (head tail : ℕ) (old : Option Train) → old ≡ train_of let_go head tail
    → (if goes then Some at_start else old)
    ≡ train_of (goes || let_go) (if goes then 0 else head) (if goes then 0 else tail)
started true let_go head tail old e = refl
started false let_go head tail old e = e

-- the train once an order is sent
abbrev sent_train : List Route → Option Order → Option ℕ → ℕ → Bool → ℕ → ℕ → Option Train
sent_train routes o w n let_go head tail = train_of (goes_now routes o w n || let_go)
    (if goes_now routes o w n then 0 else head) (if goes_now routes o w n then 0 else tail)

sent_followed : (routes : List Route) (t : Table) (n m : ℕ) (let_go : Bool) (head tail : ℕ) → (m ≡ n) ⊎ (m ≢ n)
    → Fits routes t → AllWell t.routes t.stages → IsLong routes t → (sends : Sends t n) → train_at t.trains m ≡ train_of let_go head tail
    → train_at (slice_set t.trains n (next_train t n)) m
    ≡ sent_train t.routes (Some sends.order) (Some n) m let_go head tail
sent_followed routes t n m let_go head tail (inl same) fits good long sends train =
    let within : n < length t.trains =
    omega (arith, slice_get_within t.routes n sends.route sends.is, long.trains, ap length fits.plan) in
    let goes : goes_now t.routes (Some sends.order) (Some n) m ≡ lets_go sends.route (ready_at t n) =
    and_here (is_go t.routes m (Some sends.order)) (m == n) (lets_go sends.route (ready_at t n))
    (ap (λ (i : ℕ). is_go t.routes i (Some sends.order)) same
    ∙ go_is t.routes n sends.route (ready_at t n) sends.order sends.is (well_at routes t n fits good sends) sends.orders)
    (eq-eqb m n same) in
    ap (λ (i : ℕ). train_at (slice_set t.trains n (next_train t n)) i) same
    ∙ at-set_same t.trains n (next_train t n) None within
    ∙ ap (λ (x : Option Route). if option_map_or (λ (a : Route). lets_go a (ready_at t n)) x false then Some at_start
    else train_at t.trains n) sends.is
    ∙ started (lets_go sends.route (ready_at t n)) let_go head tail (train_at t.trains n)
    (ap (train_at t.trains) (sym same) ∙ train)
    ∙ ap (λ (g : Bool). train_of (g || let_go) (if g then 0 else head) (if g then 0 else tail)) (sym goes)
sent_followed routes t n m let_go head tail (inr differ) fits good long sends train =
    let none : goes_now t.routes (Some sends.order) (Some n) m ≡ false =
    and_off (is_go t.routes m (Some sends.order)) (m == n) (ne_eqb m n differ) in
    at-set_else t.trains n m (next_train t n) None differ ∙ train
    ∙ ap (λ (g : Bool). train_of (g || let_go) (if g then 0 else head) (if g then 0 else tail)) (sym none)

next_followed : (routes : List Route) (t : Table) (waits : Bool) (d : Option ℕ) (m : ℕ) (let_go : Bool) (head tail : ℕ)
    → due t ≡ d → Fits routes t → AllWell t.routes t.stages → IsLong routes t → train_at t.trains m ≡ train_of let_go head tail
    → train_at (if waits then record { table = t; order = None } else sent t d).table.trains m
    ≡ sent_train t.routes (if waits then record { table = t; order = None } else sent t d).order
    (if waits then record { table = t; order = None } else sent t d).table.waiting m let_go head tail
next_followed routes t true d m let_go head tail is fits good long train = train
next_followed routes t false None m let_go head tail is fits good long train = train
next_followed routes t false (Some n) m let_go head tail is fits good long train =
    let sends : Sends t n = due_sends t n is in
    subst (λ (x : Option Order). train_at (slice_set t.trains n (next_train t n)) m
    ≡ sent_train t.routes x (Some n) m let_go head tail) (sym sends.sent)
    (sent_followed routes t n m let_go head tail (cases_eq m n) fits good long sends train)

-- ---- what holds of each run

pub record Follows (routes : List Route) (r : Run) : Type 0 where
  pub sound : IsSound routes r.table
  pub pends : Pends r.table r.order r.table.waiting
  pub known : AllKnown r.table.routes r.table.sensors r.occupied
  pub taken : IsKnownRightly is_taken r.table.sensors r.occupied
  pub long : IsLong routes r.table
  pub opens : AllOpen r.table
  pub trains : AllFollowed r.table r.let_go r.head r.tail
  pub entered : AllEntered r.table.routes r.table.stages r.head

pub heard_routes : (t : Table) (event : Event) → (heard t event).routes ≡ t.routes
heard_routes t (Ask n) = refl
heard_routes t (Give n) = refl
heard_routes t (Told sensor now) = refl
heard_routes t (Reply ok) = answer_routes t ok t.waiting
heard_routes t Second = refl
heard_routes t Lost = refl

pub next_routes : (t : Table) (waits : Bool) (d : Option ℕ)
    → (if waits then record { table = t; order = None } else sent t d).table.routes ≡ t.routes
next_routes t true d = refl
next_routes t false None = refl
next_routes t false (Some n) = refl

pub after_follows : (routes : List Route) (r : Run) (event : Event) → Follows routes r → Follows routes (run_after r event)
after_follows routes r event follows =
    let fits : Fits routes (heard r.table event) = heard_fits routes r.table event follows.sound.fits in
    let same : (heard r.table event).routes ≡ r.table.routes = heard_routes r.table event in
    let trains : AllFollowed (heard r.table event) (let_go_heard r event) (head_heard r event) (tail_heard r event) =
    λ n route is.
    let before : slice_get r.table.routes n ≡ Some route = ap (λ (l : List Route). slice_get l n) (sym same) ∙ is in
    heard_followed r event n route follows.known follows.taken follows.opens before (follows.trains n route before) in
    record {
      sound = after_sound routes r.table event follows.sound;
      pends = step_pends routes r.table r.order event follows.sound.fits follows.pends;
      known = after_known r.table event r.occupied follows.known;
      taken = after_free is_taken r.table event r.occupied follows.taken;
      long = after_long_of routes r.table event follows.sound.fits follows.long;
      opens = next_open routes (heard r.table event) (heard r.table event).waiting (due (heard r.table event)) refl refl fits
          (heard_sent routes r.table r.order event follows.sound.fits follows.pends follows.sound.sent)
          (heard_open r.table r.order event follows.pends follows.opens);
      trains = λ n route is.
          let before : slice_get r.table.routes n ≡ Some route =
          ap (λ (l : List Route). slice_get l n) (sym (next_routes (heard r.table event)
          (is_some (heard r.table event).waiting) (due (heard r.table event)) ∙ heard_routes r.table event)) ∙ is in
          subst (λ (l : List Route). train_at (run_after r event).table.trains n
          ≡ sent_train l (step r.table event).order (run_after r event).table.waiting n (let_go_heard r event n)
          (head_heard r event n) (tail_heard r event n)) (heard_routes r.table event)
          (next_followed routes (heard r.table event) (is_some (heard r.table event).waiting) (due (heard r.table event)) n
          (let_go_heard r event n) (head_heard r event n) (tail_heard r event n) refl fits
          (heard_well r.table event follows.sound.well) (heard_long routes r.table event follows.sound.fits follows.long)
          (heard_followed r event n route follows.known follows.taken follows.opens before
          (follows.trains n route before)));
      entered = subst (λ (l : List Route). AllEntered (step r.table event).table.routes (step r.table event).table.stages
          (sent_head l (step r.table event).order (step r.table event).table.waiting (head_heard r event))) same
          (next_entered routes (heard r.table event) (let_go_heard r event) (head_heard r event) (tail_heard r event)
          (is_some (heard r.table event).waiting) (due (heard r.table event)) refl fits
          (heard_well r.table event follows.sound.well) trains
          (heard_entered routes r event follows.sound.fits follows.entered));
    }

pub start_follows : (routes : List Route) → Follows routes (run_start routes)
start_follows routes = record {
  sound = start_sound routes;
  pends = refl;
  known = start_known routes;
  taken = start_free is_taken routes refl;
  long = start_long routes;
  opens = λ n h.
      let none : train_at (run_start routes).table.trains n ≡ None = at-replicate (length routes) n None in
      let both : false ≡ true = ap (λ (x : Option Train). is_some x) (sym none) ∙ h in absurd (cc);
  trains = λ n route is. at-replicate (length routes) n None;
  entered = start_entered routes (λ m. 0);
}

fold_follows : (routes : List Route) (r : Run) (events : List Event) → Follows routes r
    → Follows routes (fold run_after r events)
fold_follows routes r [] follows = follows
fold_follows routes r (event ∷ events) follows =
    fold_follows routes (run_after r event) events (after_follows routes r event follows)

pub run_follows : (routes : List Route) (events : List Event) → Follows routes (run routes events)
run_follows routes events = fold_follows routes (run_start routes) events (start_follows routes)

-- ---- the order of such a route

no_end : {X : Type 0} (f : X → Order) (x : Option X) (o : Order) → ((y : X) → ends (f y) ≡ false)
    → option_map f x ≡ Some o → ends o ≡ false
no_end f None o each e = absurd (cc)
no_end f (Some y) o each e = let is : f y ≡ o = cc in ap ends (sym is) ∙ each y

open_ends : (route : Route) (s : Stage) (o : Order) → is_open s ≡ true → order_of route s ≡ Some o → ends o ≡ false
open_ends route stage.Showing o h e =
    no_end (λ signal. order.Show (show_setting signal)) route.signal o (λ y. refl) e
open_ends route stage.Reporting o h e = let is : order.Report route.number true ≡ o = cc in ap ends (sym is)
open_ends route (stage.Falling told) o h e =
    no_end (λ signal. order.Stop (stop_setting signal)) route.signal o (λ y. refl) e
open_ends route (stage.Fallen false) o h e =
    let is : order.Report route.number true ≡ o = cc in ap ends (sym is)
open_ends route other o h e = absurd (cc)

order_ends : (r : Run) (n : ℕ) (last : Option Order) (o : Order) → PendsAt r.table last n → last ≡ Some o
    → is_open (stage_at r.table.stages n) ≡ true → ends o ≡ false
order_ends r n last o pends e opens =
    let both : Some pends.order ≡ Some o = sym pends.waits ∙ e in
    let is : pends.order ≡ o = cc in
    ap ends (sym is) ∙ open_ends pends.route (stage_at r.table.stages n) pends.order opens pends.orders

behind_at : (routes : List Route) (r : Run) (n : ℕ) (o : Order) → Follows routes r → r.table.waiting ≡ Some n
    → r.order ≡ Some o → r.let_go n ≡ true → ends o ≡ false
behind_at routes r n o follows waits orders go =
    let pends : PendsAt r.table r.order n = subst (λ (x : Option ℕ). Pends r.table r.order x) waits follows.pends in
    let train : is_some (train_at r.table.trains n) ≡ true =
    ap (λ (x : Option Train). is_some x) (follows.trains n pends.route pends.is)
    ∙ ap (λ (b : Bool). is_some (train_of b (r.head n) (r.tail n))) go in
    order_ends r n r.order o pends orders (follows.opens n train).opens

pub freed_behind : FreedBehind
freed_behind routes events n last waits orders go =
    behind_at routes (run routes events) n last (run_follows routes events) waits orders go
