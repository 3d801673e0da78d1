-- While a route is held, each other that conflicts with it stays idle.
use Rattle.std.proofs.Common.{◌≡◌, ◌≢◌, ◌⊎◌, inl, inr, ℕ, zero, suc, ◌<◌, Bool, true, false, not, ◌&&◌, ◌||◌}
use Rattle.std.proofs.Common.{Option, Some, None, List, [], ◌∷◌, length, refl, sym, ◌∙◌, subst}
use Rattle.std.proofs.lemmas.Option.{slice_get_within}
use Rattle.std.specs.Option.{option_map_or}
use Rattle.std.specs.Prelude.{fold, if◌then◌else◌, is_some, map, slice_get, slice_set}
use Rattle.srcp_routes.specs.Conflicts.{are_free, conflicts, meets}
use Rattle.srcp_routes.specs.Laws.{AreApart, HeldStandAlone}
use Rattle.srcp_routes.specs.Plan.{Table, conflict_at, is_clear, lets, stage_at, start, train_at, wanted_at}
use Rattle.srcp_routes.specs.Stages.{after_reply, falls, is_held, is_idle, lost_stage, ready_stage, retried_stage}
use Rattle.srcp_routes.specs.Steps.{after, answered, due, heard, may_begin, ready_in, sent, stage_replied}
use Rattle.srcp_routes.specs.Trains.{has_entered}
use Rattle.srcp_routes.specs.declared.interlocking.Event.{Event}
use Rattle.srcp_routes.specs.declared.interlocking.Event.TheVariants.{Ask, Give, Told, Second, Reply, Lost}
use Rattle.srcp_routes.specs.declared.route.Route.{Route}
use Rattle.srcp_routes.specs.declared.route.Signal.{Signal}
use Rattle.srcp_routes.specs.declared.stage.Stage.{Stage}
use Rattle.srcp_routes.specs.declared.stage.Stage.TheVariants as stage
use Rattle.srcp_routes.proofs.Falls.{falls_keeps}
use Rattle.srcp_routes.proofs.Loops.{all_at}
use Rattle.srcp_routes.proofs.Places.{at-set, at-set_same}

-- a stage that was written is that of its place, and every other is as it was
pub stage_at-set : (stages : List Stage) (k : ℕ) (s : Stage) (n : ℕ)
    → ((n ≡ k) × (stage_at (slice_set stages k s) n ≡ s)) ⊎ (stage_at (slice_set stages k s) n ≡ stage_at stages n)
stage_at-set stages k s n = at-set stages k s stage.Idle n

-- no route is held as a session begins
lost_not_held : (signal : Option Signal) → is_held (option_map_or (λ x. stage.Clearing) signal stage.Closing) ≡ false
lost_not_held None = refl
lost_not_held (Some signal) = refl

pub stage_at-start : (routes : List Route) (n : ℕ) → is_held (stage_at (map lost_stage routes) n) ≡ false
stage_at-start [] n = refl
stage_at-start (route ∷ routes) zero = lost_not_held route.signal
stage_at-start (route ∷ routes) (suc n) = stage_at-start routes n

pub stage_at-set_same : (stages : List Stage) (k : ℕ) (s : Stage) → k < length stages → stage_at (slice_set stages k s) k ≡ s
stage_at-set_same stages k s lt = at-set_same stages k s stage.Idle lt

-- routes conflict both ways
or_comm : (a b : Bool) → (a || b) ≡ (b || a)
or_comm true true = refl
or_comm true false = refl
or_comm false true = refl
or_comm false false = refl

both_of : (x y : Option Route) → option_map_or (λ a. option_map_or (conflicts a) y false) x false
    ≡ option_map_or (λ b. option_map_or (conflicts b) x false) y false
both_of None None = refl
both_of None (Some b) = refl
both_of (Some a) None = refl
both_of (Some a) (Some b) = or_comm (meets a b) (meets b a)

pub both_ways : (routes : List Route) (n m : ℕ) → conflict_at routes n m ≡ conflict_at routes m n
both_ways routes n m = both_of (slice_get routes n) (slice_get routes m)

-- what conflicts is in the plan
within_of : (routes : List Route) (m : ℕ) (x y : Option Route) → slice_get routes m ≡ y
    → option_map_or (λ a. option_map_or (conflicts a) y false) x false ≡ true → m < length routes
within_of routes m None y e clash = absurd (cc)
within_of routes m (Some a) None e clash = absurd (cc)
within_of routes m (Some a) (Some b) e clash = slice_get_within routes m b e

pub within : (routes : List Route) (n m : ℕ) → conflict_at routes n m ≡ true → m < length routes
within routes n m clash = within_of routes m (slice_get routes n) (slice_get routes m) refl clash

pub and_right : (a b : Bool) → (a && b) ≡ true → b ≡ true
and_right true b h = h
and_right false b h = absurd (cc)

let_idle : (c i : Bool) → c ≡ true → (not c || i) ≡ true → i ≡ true
let_idle true i h lets = lets
let_idle false i h lets = absurd (cc)

-- of the routes that conflict with one that is clear, each is idle
pub clear_idle : (routes : List Route) (stages : List Stage) (k m : ℕ) → is_clear routes stages k ≡ true
    → conflict_at routes k m ≡ true → is_idle (stage_at stages m) ≡ true
clear_idle routes stages k m clear clash = let_idle (conflict_at routes k m) (is_idle (stage_at stages m)) clash
    (all_at (lets routes stages k) (length routes) m (within routes k m clash) clear)

-- while a route is held, each that conflicts with it is idle
abbrev pub Apart : List Route → List Stage → Type 0
Apart routes stages = (n m : ℕ) → n ≢ m → conflict_at routes n m ≡ true → is_held (stage_at stages n) ≡ true
    → is_idle (stage_at stages m) ≡ true

-- a route that was held before it changed
held_before : (stages : List Stage) (k n : ℕ) (s x : Stage) → (is_held s ≡ true → is_held (stage_at stages k) ≡ true)
    → ((n ≡ k) × (x ≡ s)) ⊎ (x ≡ stage_at stages n) → is_held x ≡ true → is_held (stage_at stages n) ≡ true
held_before stages k n s x held (inl p) h =
    subst (λ (i : ℕ). is_held (stage_at stages i) ≡ true) (sym p.0) (held (subst (λ (y : Stage). is_held y ≡ true) p.1 h))
held_before stages k n s x held (inr e) h = subst (λ (y : Stage). is_held y ≡ true) e h

-- a route that stays idle
idle_after : (stages : List Stage) (k n : ℕ) (s x : Stage) → (is_idle (stage_at stages k) ≡ true → is_idle s ≡ true)
    → ((n ≡ k) × (x ≡ s)) ⊎ (x ≡ stage_at stages n) → is_idle (stage_at stages n) ≡ true → is_idle x ≡ true
idle_after stages k n s x idle (inl p) h =
    subst (λ (y : Stage). is_idle y ≡ true) (sym p.1) (idle (subst (λ (i : ℕ). is_idle (stage_at stages i) ≡ true) p.0 h))
idle_after stages k n s x idle (inr e) h = subst (λ (y : Stage). is_idle y ≡ true) (sym e) h

-- a route that is held only if it was, and idle if it was, changes nothing for the others
pub kept : (routes : List Route) (stages : List Stage) (k : ℕ) (s : Stage)
    → (is_held s ≡ true → is_held (stage_at stages k) ≡ true) → (is_idle (stage_at stages k) ≡ true → is_idle s ≡ true)
    → Apart routes stages → Apart routes (slice_set stages k s)
kept routes stages k s held idle apart n m differ clash h =
    idle_after stages k m s (stage_at (slice_set stages k s) m) idle (stage_at-set stages k s m)
    (apart n m differ clash (held_before stages k n s (stage_at (slice_set stages k s) n) held (stage_at-set stages k s n) h))

pub idle_not_held : (s : Stage) → is_idle s ≡ true → is_held s ≡ false
idle_not_held stage.Idle h = refl
idle_not_held other h = absurd (cc)

begun_of : (routes : List Route) (stages : List Stage) (k n m : ℕ) (s x y : Stage) → is_clear routes stages k ≡ true
    → Apart routes stages → n ≢ m → conflict_at routes n m ≡ true
    → ((n ≡ k) × (x ≡ s)) ⊎ (x ≡ stage_at stages n) → ((m ≡ k) × (y ≡ s)) ⊎ (y ≡ stage_at stages m)
    → is_held x ≡ true → is_idle y ≡ true
begun_of routes stages k n m s x y clear apart differ clash (inl p) (inl q) h = absurd (differ (p.0 ∙ sym q.0))
begun_of routes stages k n m s x y clear apart differ clash (inl p) (inr e) h =
    subst (λ (z : Stage). is_idle z ≡ true) (sym e)
    (clear_idle routes stages k m clear (subst (λ (i : ℕ). conflict_at routes i m ≡ true) p.0 clash))
begun_of routes stages k n m s x y clear apart differ clash (inr e) (inl q) h =
    let was : is_held (stage_at stages n) ≡ true = subst (λ (z : Stage). is_held z ≡ true) e h in
    let back : conflict_at routes k n ≡ true =
    both_ways routes k n ∙ subst (λ (i : ℕ). conflict_at routes n i ≡ true) q.0 clash in
    let not : is_held (stage_at stages n) ≡ false =
    idle_not_held (stage_at stages n) (clear_idle routes stages k n clear back) in
    absurd (cc)
begun_of routes stages k n m s x y clear apart differ clash (inr e) (inr d) h =
    subst (λ (z : Stage). is_idle z ≡ true) (sym d)
    (apart n m differ clash (subst (λ (z : Stage). is_held z ≡ true) e h))

-- a route that is clear of others may begin
pub begun : (routes : List Route) (stages : List Stage) (k : ℕ) (s : Stage) → is_clear routes stages k ≡ true
    → Apart routes stages → Apart routes (slice_set stages k s)
begun routes stages k s clear apart n m differ clash h =
    begun_of routes stages k n m s (stage_at (slice_set stages k s) n) (stage_at (slice_set stages k s) m) clear apart differ clash
    (stage_at-set stages k s n) (stage_at-set stages k s m) h

-- a stage that may follow another: it is held only if that was, and idle if that was
pub record Follows (before later : Stage) : Type 0 where
  pub held : is_held later ≡ true → is_held before ≡ true
  pub idle : is_idle before ≡ true → is_idle later ≡ true

follows : (routes : List Route) (stages : List Stage) (k : ℕ) (s : Stage) → Follows (stage_at stages k) s
    → Apart routes stages → Apart routes (slice_set stages k s)
follows routes stages k s follow apart = kept routes stages k s follow.held follow.idle apart

reply_follows : (route : Route) (s : Stage) (ok : Bool) → Follows s (after_reply route s ok)
reply_follows route stage.Idle true = record { held = λ h. h; idle = λ h. h }
reply_follows route stage.Idle false = record { held = λ h. h; idle = λ h. h }
reply_follows route stage.Clearing true = record { held = λ h. h; idle = λ h. absurd (cc) }
reply_follows route stage.Clearing false = record { held = λ h. h; idle = λ h. absurd (cc) }
reply_follows route stage.Blocked true = record { held = λ h. h; idle = λ h. h }
reply_follows route stage.Blocked false = record { held = λ h. h; idle = λ h. h }
reply_follows route stage.Closing true = record { held = λ h. h; idle = λ h. refl }
reply_follows route stage.Closing false = record { held = λ h. h; idle = λ h. refl }
reply_follows route other ok = record { held = λ h. refl; idle = λ h. absurd (cc) }

retry_follows : (s : Stage) → Follows s (retried_stage s)
retry_follows stage.Blocked = record { held = λ h. h; idle = λ h. absurd (cc) }
retry_follows stage.Stuck = record { held = λ h. refl; idle = λ h. absurd (cc) }
retry_follows other = record { held = λ h. h; idle = λ h. h }

ready_follows : (route : Route) (wanted free : Bool) (s : Stage) → Follows s (ready_stage route wanted free false s)
ready_follows route wanted free stage.Idle = record { held = λ h. h; idle = λ h. h }
ready_follows route true free stage.Clearing = record { held = λ h. h; idle = λ h. h }
ready_follows route false free stage.Clearing = record { held = λ h. h; idle = λ h. h }
ready_follows route true free stage.Blocked = record { held = λ h. h; idle = λ h. h }
ready_follows route false free stage.Blocked = record { held = λ h. h; idle = λ h. h }
ready_follows route true free stage.Closing = record { held = λ h. h; idle = λ h. h }
ready_follows route false free stage.Closing = record { held = λ h. h; idle = λ h. h }
ready_follows route wanted free other = record { held = λ h. refl; idle = λ h. absurd (cc) }

falls_follows : (route : Route) (entered : Bool) (s z : Stage) → Follows s z → Follows s (falls route entered z)
falls_follows route entered s z follow = falls_keeps (λ x. Follows s x) route entered z
    (λ some f. record { held = f.held; idle = f.idle }) (λ some f. record { held = f.held; idle = f.idle }) follow

-- only an idle route may begin, and one that is clear
ready_apart : (t : Table) (n : ℕ) (route : Route) (wanted free begins entered : Bool) → may_begin t n free ≡ begins
    → AreApart t → Apart t.routes
    (slice_set t.stages n (falls route entered (ready_stage route wanted free begins (stage_at t.stages n))))
ready_apart t n route wanted free true entered may apart =
    begun t.routes t.stages n (falls route entered (ready_stage route wanted free true (stage_at t.stages n)))
    (and_right free (is_clear t.routes t.stages n) (and_right (wanted_at t.wanted n) (free && is_clear t.routes t.stages n)
    (and_right (is_idle (stage_at t.stages n)) (wanted_at t.wanted n && (free && is_clear t.routes t.stages n)) may))) apart
ready_apart t n route wanted free false entered may apart =
    follows t.routes t.stages n (falls route entered (ready_stage route wanted free false (stage_at t.stages n)))
    (falls_follows route entered (stage_at t.stages n) (ready_stage route wanted free false (stage_at t.stages n))
    (ready_follows route wanted free (stage_at t.stages n))) apart

none_follows : (s : Stage) → Follows s stage.Idle
none_follows s = record { held = λ h. absurd (cc); idle = λ h. refl }

sent_of : (t : Table) (n : ℕ) (x : Option Route) → AreApart t
    → Apart t.routes (slice_set t.stages n (option_map_or (ready_in t n) x stage.Idle))
sent_of t n None apart = follows t.routes t.stages n stage.Idle (none_follows (stage_at t.stages n)) apart
sent_of t n (Some route) apart = ready_apart t n route (wanted_at t.wanted n) (are_free t.sensors route.blocks.items)
    (may_begin t n (are_free t.sensors route.blocks.items)) (has_entered (train_at t.trains n)) refl apart

next_of : (t : Table) (waits : Bool) (d : Option ℕ) → AreApart t
    → AreApart (if waits then record { table = t; order = None } else sent t d).table
next_of t true d apart = apart
next_of t false None apart = apart
next_of t false (Some n) apart = sent_of t n (slice_get t.routes n) apart

replied_stage : (t : Table) (ok : Bool) (n : ℕ) (x : Option Route) → Follows (stage_at t.stages n)
    (option_map_or (λ (route : Route). after_reply route (stage_at t.stages n) ok) x stage.Idle)
replied_stage t ok n None = none_follows (stage_at t.stages n)
replied_stage t ok n (Some route) = reply_follows route (stage_at t.stages n) ok

replied_of : (t : Table) (ok : Bool) (x : Option ℕ) → AreApart t → AreApart (option_map_or (answered t ok) x t)
replied_of t ok None apart = apart
replied_of t ok (Some n) apart =
    follows t.routes t.stages n (stage_replied t n ok) (replied_stage t ok n (slice_get t.routes n)) apart

heard_apart : (t : Table) (event : Event) → AreApart t → AreApart (heard t event)
heard_apart t (Ask n) apart = apart
heard_apart t (Give n) apart =
    follows t.routes t.stages n (retried_stage (stage_at t.stages n)) (retry_follows (stage_at t.stages n)) apart
heard_apart t (Told sensor on) apart = apart
heard_apart t (Reply ok) apart = replied_of t ok t.waiting apart
heard_apart t Second apart = apart
heard_apart t Lost apart = λ n m differ clash h.
    let not : is_held (stage_at (map lost_stage t.routes) n) ≡ false = stage_at-start t.routes n in absurd (cc)

pub after_apart : (t : Table) (event : Event) → AreApart t → AreApart (after t event)
after_apart t event apart =
    next_of (heard t event) (is_some (heard t event).waiting) (due (heard t event)) (heard_apart t event apart)

course_apart : (t : Table) (events : List Event) → AreApart t → AreApart (fold after t events)
course_apart t [] apart = apart
course_apart t (event ∷ events) apart = course_apart (after t event) events (after_apart t event apart)

pub start_apart : (routes : List Route) → AreApart (start routes)
start_apart routes n m differ clash h =
    let not : is_held (stage_at (map lost_stage routes) n) ≡ false = stage_at-start routes n in absurd (cc)

pub held_stand_alone : HeldStandAlone
held_stand_alone routes events = course_apart (start routes) events (start_apart routes)
