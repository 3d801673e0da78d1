-- What signals stand over, and what is left alone until they are stopped.
use Rattle.std.proofs.Common.{◌≡◌, ◌≢◌, ◌⊎◌, inl, inr, ℕ, zero, suc, ◌==◌, Bool, true, false, ◌&&◌}
use Rattle.std.proofs.Common.{Option, Some, None, List, [], ◌∷◌, refl, sym, ◌∙◌, ap, subst}
use Rattle.std.proofs.lemmas.Bool.{and_parts, cases_eq}
use Rattle.std.specs.Option.{option_map_or}
use Rattle.std.specs.Prelude.{if◌then◌else◌, is_some, slice_get}
use Rattle.srcp_routes.specs.Conflicts.{are_free, is_free, is_same, is_vacant}
use Rattle.srcp_routes.specs.Laws.{IsShownRightly, IsThrownAndLocked, IsToldRightly, SetIsTold, ShownAreKept, ShownStand}
use Rattle.srcp_routes.specs.Laws.{ShowsAreFree, has_come, touched}
use Rattle.srcp_routes.specs.Plan.{Table, is_clear, stage_at, wanted_at}
use Rattle.srcp_routes.specs.Runs.{Run, run, run_after}
use Rattle.srcp_routes.specs.Stages.{is_idle, ready_stage, turnout_at}
use Rattle.srcp_routes.specs.Steps.{due, heard, may_begin, ready_at, ready_in, sent}
use Rattle.srcp_routes.specs.declared.interlocking.Event.{Event}
use Rattle.srcp_routes.specs.declared.route.Device.{Device}
use Rattle.srcp_routes.specs.declared.route.Order.{Order}
use Rattle.srcp_routes.specs.declared.route.Order.TheVariants as order
use Rattle.srcp_routes.specs.declared.route.Route.{Route}
use Rattle.srcp_routes.specs.declared.route.Setting.{Setting}
use Rattle.srcp_routes.specs.declared.route.Signal.{Signal}
use Rattle.srcp_routes.specs.declared.stage.Stage.{Stage}
use Rattle.srcp_routes.specs.declared.stage.Stage.TheVariants as stage
use Rattle.srcp_routes.proofs.Behind.{Follows, run_follows}
use Rattle.srcp_routes.proofs.Crossings.{tells}
use Rattle.srcp_routes.proofs.Falls.{has_fallen, in_keeps}
use Rattle.srcp_routes.proofs.Free.{heard_free}
use Rattle.srcp_routes.proofs.Holds.{Holds, run_holds}
use Rattle.srcp_routes.proofs.Locks.{has_lock}
use Rattle.srcp_routes.proofs.Pending.{Fits, Pends, PendsAt, Sends, due_sends, heard_fits}
use Rattle.srcp_routes.proofs.Signals.{GoesAt, Shows, shows}
use Rattle.srcp_routes.proofs.Thrown.{has_thrown}
use Rattle.srcp_routes.proofs.Told.{is_told}
use Rattle.srcp_routes.proofs.Touched.{Touches, goes, touch_other, touches}

-- a route whose signal was shown has locked and thrown all its turnouts
goes_locked : (s : Stage) (k : ℕ) → goes false s ≡ true → has_lock s k ≡ true
goes_locked stage.Showing k h = refl
goes_locked stage.Reporting k h = refl
goes_locked stage.Set k h = refl
goes_locked stage.Stopping k h = refl
goes_locked stage.Stuck k h = refl
goes_locked (stage.Falling told) k h = refl
goes_locked other k h = absurd (cc)

goes_thrown : (s : Stage) (k : ℕ) → goes false s ≡ true → has_thrown s k ≡ true
goes_thrown stage.Showing k h = refl
goes_thrown stage.Reporting k h = refl
goes_thrown stage.Set k h = refl
goes_thrown stage.Stopping k h = refl
goes_thrown stage.Stuck k h = refl
goes_thrown (stage.Falling told) k h = refl
goes_thrown other k h = absurd (cc)

pub in_plan : (routes : List Route) (t : Table) (n : ℕ) (route : Route) → Fits routes t → slice_get routes n ≡ Some route
    → slice_get t.routes n ≡ Some route
in_plan routes t n route fits is = ap (λ (x : List Route). slice_get x n) fits.plan ∙ is

stands : (routes : List Route) (r : Run) (n : ℕ) (route : Route) (place : ℕ) (turnout : Setting) → Holds routes r
    → r.shown n ≡ true → slice_get routes n ≡ Some route → turnout_at route place ≡ Some turnout → IsThrownAndLocked r n turnout
stands routes r n route place turnout holds h is at =
    let here : slice_get r.table.routes n ≡ Some route = in_plan routes r.table n route holds.fits is in
    let may : GoesAt false route (stage_at r.table.stages n) = holds.shown n route here h in
    record {
      locked = holds.locked n route place turnout here at (goes_locked (stage_at r.table.stages n) place may.goes);
      thrown = holds.thrown n route place turnout here at (goes_thrown (stage_at r.table.stages n) place may.goes);
    }

-- a route is told to be set at one of these stages
abbrev Tells : Stage → Type 0
Tells s = (s ≡ stage.Reporting) ⊎ (s ≡ stage.Fallen false)

tells_lock : (s : Stage) (k : ℕ) → Tells s → has_lock s k ≡ true
tells_lock s k (inl e) = ap (λ (z : Stage). has_lock z k) e
tells_lock s k (inr e) = ap (λ (z : Stage). has_lock z k) e

tells_thrown : (s : Stage) (k : ℕ) → Tells s → has_thrown s k ≡ true
tells_thrown s k (inl e) = ap (λ (z : Stage). has_thrown z k) e
tells_thrown s k (inr e) = ap (λ (z : Stage). has_thrown z k) e

-- then its signal shows "go", unless its train has entered
tells_lit : (s : Stage) (come lit : Bool) → Tells s → (is_told s ≡ true → lit ≡ true)
    → (has_fallen s ≡ true → come ≡ true) → come ≡ false → lit ≡ true
tells_lit s come lit (inl e) told came none = told (ap is_told e)
tells_lit s come lit (inr e) told came none =
    let both : false ≡ true = sym none ∙ came (ap has_fallen e) in absurd (cc)

told_rightly : (routes : List Route) (r : Run) (number n : ℕ) → Holds routes r → Follows routes r
    → r.table.waiting ≡ Some n → (pends : PendsAt r.table r.order n)
    → Tells (stage_at r.table.stages n) × (pends.route.number ≡ number) → IsToldRightly routes r number
told_rightly routes r number n holds follows waits pends at = record {
  teller = n;
  route = pends.route;
  tells = waits;
  is = ap (λ (x : List Route). slice_get x n) (sym holds.fits.plan) ∙ pends.is;
  named = at.1;
  stand = λ place turnout turns. record {
    locked = holds.locked n pends.route place turnout pends.is turns (tells_lock (stage_at r.table.stages n) place at.0);
    thrown = holds.thrown n pends.route place turnout pends.is turns (tells_thrown (stage_at r.table.stages n) place at.0);
  };
  lit = λ some. tells_lit (stage_at r.table.stages n) (has_come r n) (r.lit n) at.0
      (holds.lit n pends.route pends.is some) (follows.entered n pends.route pends.is);
}

told_by : (routes : List Route) (r : Run) (number : ℕ) (x : Option ℕ) → Holds routes r → Follows routes r
    → r.table.waiting ≡ x
    → Pends r.table r.order x → r.order ≡ Some (order.Report number true) → IsToldRightly routes r number
told_by routes r number None holds follows waits pends e = absurd (cc)
told_by routes r number (Some n) holds follows waits pends e =
    let same : Some pends.order ≡ Some (order.Report number true) = sym pends.waits ∙ e in
    told_rightly routes r number n holds follows waits pends
    (tells pends.route (stage_at r.table.stages n) number (pends.orders ∙ same))

pub set_is_told : SetIsTold
set_is_told routes events number e = told_by routes (run routes events) number (run routes events).table.waiting
    (run_holds routes events) (run_follows routes events) refl (run_holds routes events).pends e

pub shown_stand : ShownStand
shown_stand routes events n route place turnout h is at =
    stands routes (run routes events) n route place turnout (run_holds routes events) h is at

-- no turnout is touched of a route whose signal may show "go"
goes_busy : (s : Stage) → goes true s ≡ true → is_idle s ≡ false
goes_busy stage.Idle h = absurd (cc)
goes_busy other h = refl

kept_of : (routes : List Route) (r : Run) (m n : ℕ) (a route : Route) (place : ℕ) (turnout : Setting) (device : Device)
    → (m ≡ n) ⊎ (m ≢ n) → Holds routes r → Touches a (stage_at r.table.stages m) device
    → slice_get r.table.routes m ≡ Some a → GoesAt true route (stage_at r.table.stages n)
    → slice_get r.table.routes n ≡ Some route → turnout_at route place ≡ Some turnout
    → is_same turnout.device device ≡ false
kept_of routes r m n a route place turnout device (inl e) holds touch is may is' at =
    let no : goes true (stage_at r.table.stages n) ≡ false =
    subst (λ (i : ℕ). goes true (stage_at r.table.stages i) ≡ false) e touch.quiet in
    let yes : goes true (stage_at r.table.stages n) ≡ true = may.goes in
    absurd (cc)
kept_of routes r m n a route place turnout device (inr differ) holds touch is may is' at =
    touch_other r.table.routes r.table.stages m n a route device place turnout differ holds.apart touch is is' at
    (goes_busy (stage_at r.table.stages n) may.goes)

kept_at : (routes : List Route) (r : Run) (n : ℕ) (route : Route) (place : ℕ) (turnout : Setting) (last : Order)
    (device : Device) (x : Option ℕ) → Holds routes r → Pends r.table r.order x → r.may_go n ≡ true
    → slice_get routes n ≡ Some route → turnout_at route place ≡ Some turnout → r.order ≡ Some last
    → touched last ≡ Some device → is_same turnout.device device ≡ false
kept_at routes r n route place turnout last device None holds pends h is at orders e = absurd (cc)
kept_at routes r n route place turnout last device (Some m) holds pends h is at orders e =
    let here : slice_get r.table.routes n ≡ Some route = in_plan routes r.table n route holds.fits is in
    let same : Some pends.order ≡ Some last = sym pends.waits ∙ orders in
    kept_of routes r m n pends.route route place turnout device (cases_eq m n) holds
    (touches pends.route (stage_at r.table.stages m) last device (pends.orders ∙ same) e) pends.is
    (holds.may_go n route here h) here at

pub shown_are_kept : ShownAreKept
shown_are_kept routes events n route place turnout last device h is at orders e =
    kept_at routes (run routes events) n route place turnout last device (run routes events).table.waiting
    (run_holds routes events) (run_holds routes events).pends h is at orders e

-- a route shows "go" over free blocks
left_not : (left : ℕ) (P : Type 0) (none : Bool) → (if none then stage.Idle else stage.Unlocking left) ≡ stage.Showing → P
left_not left P true e = absurd (cc)
left_not left P false e = absurd (cc)

leaving_not : (x : Option Signal) (P : Type 0) → option_map_or (λ signal. stage.Stopping) x stage.Hiding ≡ stage.Showing → P
leaving_not None P e = absurd (cc)
leaving_not (Some signal) P e = absurd (cc)

begins_free : (t : Table) (n : ℕ) (free : Bool) → may_begin t n free ≡ true → free ≡ true
begins_free t n free h =
    let one : (wanted_at t.wanted n && (free && is_clear t.routes t.stages n)) ≡ true =
    (and_parts (is_idle (stage_at t.stages n)) (wanted_at t.wanted n && (free && is_clear t.routes t.stages n)) h).1 in
    let two : (free && is_clear t.routes t.stages n) ≡ true =
    (and_parts (wanted_at t.wanted n) (free && is_clear t.routes t.stages n) one).1 in
    (and_parts free (is_clear t.routes t.stages n) two).0

showing_free : (t : Table) (n : ℕ) (route : Route) (wanted free begins : Bool) (s : Stage) → may_begin t n free ≡ begins
    → ready_stage route wanted free begins s ≡ stage.Showing → free ≡ true
showing_free t n route wanted free true stage.Idle may e = begins_free t n free may
showing_free t n route wanted free false stage.Idle may e = absurd (cc)
showing_free t n route wanted free begins stage.Showing may e = absurd (cc)
showing_free t n route wanted true begins stage.Ready may e = refl
showing_free t n route true false begins stage.Ready may e = absurd (cc)
showing_free t n route false false begins stage.Ready may e = absurd (cc)
showing_free t n route false free begins (stage.Locking done) may e = left_not _ _ (done == 0) e
showing_free t n route false free begins stage.Reporting may e = leaving_not route.signal _ e
showing_free t n route false free begins stage.Set may e = leaving_not route.signal _ e
showing_free t n route true free begins other may e = absurd (cc)
showing_free t n route false free begins other may e = absurd (cc)

all_free : (sensors : List _) (blocks : List Device) (k : ℕ) (block : Device) → are_free sensors blocks ≡ true
    → slice_get blocks k ≡ Some block → is_free sensors block ≡ true
all_free sensors [] k block h at = absurd (cc)
all_free sensors (first ∷ blocks) zero block h at =
    let same : first ≡ block = cc in
    ap (is_free sensors) (sym same) ∙ (and_parts (is_free sensors first) (are_free sensors blocks) h).0
all_free sensors (first ∷ blocks) (suc k) block h at =
    all_free sensors blocks k block (and_parts (is_free sensors first) (are_free sensors blocks) h).1 at

ready_free : (t : Table) (n : ℕ) (route : Route) → slice_get t.routes n ≡ Some route → ready_at t n ≡ stage.Showing
    → are_free t.sensors route.blocks.items ≡ true
ready_free t n route is e = in_keeps (λ s. s ≡ stage.Showing → are_free t.sensors route.blocks.items ≡ true) t n route
    (λ some f g. absurd (cc)) (λ some f g. absurd (cc))
    (showing_free t n route (wanted_at t.wanted n) (are_free t.sensors route.blocks.items)
    (may_begin t n (are_free t.sensors route.blocks.items)) (stage_at t.stages n) refl)
    (subst (λ (x : Option Route). option_map_or (ready_in t n) x stage.Idle
    ≡ stage.Showing) is e)

shown_by : (routes : List Route) (r : Run) (event : Event) (setting : Setting) (n : ℕ) → Holds routes r
    → (run_after r event).table.waiting ≡ Some n → (sends : Sends (heard r.table event) n)
    → Shows sends.route (ready_at (heard r.table event) n) setting → IsShownRightly routes (run_after r event) setting
shown_by routes r event setting n holds waits sends show = record {
  shower = n;
  route = sends.route;
  signal = show.signal;
  shows = waits;
  is = ap (λ (x : List Route). slice_get x n) (sym (heard_fits routes r.table event holds.fits).plan) ∙ sends.is;
  has = show.has;
  go = show.go;
  free = λ k block at. heard_free is_vacant r.table event r.free holds.free block
      (all_free (heard r.table event).sensors sends.route.blocks.items k block
      (ready_free (heard r.table event) n sends.route sends.is show.now) at);
}

step_shows : (routes : List Route) (r : Run) (event : Event) (setting : Setting) (x d : Option ℕ) → Holds routes r
    → (heard r.table event).waiting ≡ x → due (heard r.table event) ≡ d
    → ((n : ℕ) → x ≡ None → d ≡ Some n → (run_after r event).table.waiting ≡ Some n)
    → (if is_some x then record { table = heard r.table event; order = None } else sent (heard r.table event) d).order
    ≡ Some (order.Show setting)
    → IsShownRightly routes (run_after r event) setting
step_shows routes r event setting (Some m) d holds waits is sends e = absurd (cc)
step_shows routes r event setting None None holds waits is sends e = absurd (cc)
step_shows routes r event setting None (Some n) holds waits is sends e =
    let what : Sends (heard r.table event) n = due_sends (heard r.table event) n is in
    let same : Some what.order ≡ Some (order.Show setting) = sym what.sent ∙ e in
    shown_by routes r event setting n holds (sends n refl refl) what
    (shows what.route (ready_at (heard r.table event) n) setting (what.orders ∙ same))

next_waits : (t : Table) (n : ℕ) (x d : Option ℕ) → x ≡ None → d ≡ Some n
    → (if is_some x then record { table = t; order = None } else sent t d).table.waiting ≡ Some n
next_waits t n (Some m) d none is = absurd (cc)
next_waits t n None None none is = absurd (cc)
next_waits t n None (Some m) none is = is

pub shows_are_free : ShowsAreFree
shows_are_free routes events event setting e =
    step_shows routes (run routes events) event setting (heard (run routes events).table event).waiting
    (due (heard (run routes events).table event)) (run_holds routes events) refl refl
    (λ n none is. next_waits (heard (run routes events).table event) n (heard (run routes events).table event).waiting
    (due (heard (run routes events).table event)) none is) e
