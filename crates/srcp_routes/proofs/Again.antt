-- A route that is asked for again before it ended has not ended.
use Rattle.std.proofs.Common.{◌≡◌, ◌≢◌, ◌⊎◌, inl, inr, ℕ, Bool, true, false}
use Rattle.std.proofs.Common.{Option, Some, None, List, length, refl, sym, ◌∙◌, ap, subst}
use Rattle.std.proofs.lemmas.Bool.{cases_eq}
use Rattle.std.specs.Option.{option_map_or}
use Rattle.std.specs.Prelude.{◌&&◌, ◌||◌, if◌then◌else◌, replicate, slice_set}
use Rattle.srcp_routes.specs.Plan.{Table, stage_at, wanted_at}
use Rattle.srcp_routes.specs.Stages.{is_idle, order_of, retried_stage}
use Rattle.srcp_routes.specs.Steps.{answered, due, heard, is_renewed, ready_at, sent, stage_replied}
use Rattle.srcp_routes.specs.declared.interlocking.Event.{Event}
use Rattle.srcp_routes.specs.declared.interlocking.Event.TheVariants.{Ask, Give, Told, Second, Reply, Lost}
use Rattle.srcp_routes.specs.declared.route.Order.{Order}
use Rattle.srcp_routes.specs.declared.route.Route.{Route}
use Rattle.srcp_routes.specs.declared.stage.Stage.{Stage}
use Rattle.srcp_routes.specs.declared.stage.Stage.TheVariants as stage
use Rattle.srcp_routes.proofs.Apart.{stage_at-set}
use Rattle.srcp_routes.proofs.Pending.{Sends, due_sends}
use Rattle.srcp_routes.proofs.Places.{at-replicate, at-set_else, at-set_off}

-- what is marked after one route is not
pub wanted_off : (wanted : List Bool) (k : ℕ) → wanted_at (slice_set wanted k false) k ≡ false
wanted_off wanted k = at-set_off wanted k false

pub wanted_else : (wanted : List Bool) (k n : ℕ) (b : Bool) → n ≢ k → wanted_at (slice_set wanted k b) n ≡ wanted_at wanted n
wanted_else wanted k n b differ = at-set_else wanted k n b false differ

pub after_else : (l : List Bool) (renewed ok b : Bool) (k n : ℕ) → n ≢ k
    → wanted_at (if renewed then slice_set l k b else (if ok then l else slice_set l k false)) n ≡ wanted_at l n
after_else l true ok b k n differ = wanted_else l k n b differ
after_else l false true b k n differ = refl
after_else l false false b k n differ = wanted_else l k n false differ

off_before : (again : List Bool) (k n : ℕ) → (n ≡ k) ⊎ (n ≢ k) → wanted_at (slice_set again k false) n ≡ true
    → (n ≢ k) × (wanted_at again n ≡ true)
off_before again k n (inl same) h =
    let here : wanted_at (slice_set again k false) k ≡ true =
    subst (λ (i : ℕ). wanted_at (slice_set again k false) i ≡ true) same h in
    let off : wanted_at (slice_set again k false) k ≡ false = wanted_off again k in
    absurd (cc)
off_before again k n (inr differ) h = (differ, sym (wanted_else again k n false differ) ∙ h)

pub none_wanted : (count k : ℕ) → wanted_at (replicate count false) k ≡ false
none_wanted count k = at-replicate count k false

-- a route that is asked for again has not ended
abbrev pub AllBusy : List Stage → List Bool → Type 0
AllBusy stages again = (n : ℕ) → wanted_at again n ≡ true → is_idle (stage_at stages n) ≡ false

retried_busy : (s : Stage) → is_idle s ≡ false → is_idle (retried_stage s) ≡ false
retried_busy stage.Blocked h = refl
retried_busy stage.Stuck h = refl
retried_busy other h = h

order_busy : (route : Route) (s : Stage) (o : Order) → order_of route s ≡ Some o → is_idle s ≡ false
order_busy route stage.Idle o e = absurd (cc)
order_busy route other o e = refl

-- the stage at one place changes, and no mark is new
set_busy : (stages : List Stage) (k : ℕ) (s : Stage) (again later : List Bool)
    → ((n : ℕ) → wanted_at later n ≡ true → wanted_at again n ≡ true)
    → (wanted_at later k ≡ true → is_idle s ≡ false) → AllBusy stages again → AllBusy (slice_set stages k s) later
set_busy stages k s again later fewer here all n h = elim (stage_at-set stages k s n) [
  | inl p ↦ ap is_idle p.1 ∙ here (subst (λ (m : ℕ). wanted_at later m ≡ true) p.0 h)
  | inr e ↦ ap is_idle e ∙ all n (fewer n h)
]

off_fewer : (again : List Bool) (k n : ℕ) → wanted_at (slice_set again k false) n ≡ true → wanted_at again n ≡ true
off_fewer again k n h = (off_before again k n (cases_eq n k) h).1

off_here : (again : List Bool) (k : ℕ) (P : Type 0) → wanted_at (slice_set again k false) k ≡ true → P
off_here again k P h = let off : wanted_at (slice_set again k false) k ≡ false = wanted_off again k in absurd (cc)

ask_busy : (stages : List Stage) (again : List Bool) (n : ℕ) (idle wanted : Bool) → is_idle (stage_at stages n) ≡ idle
    → AllBusy stages again → AllBusy stages (if idle || wanted then again else slice_set again n true)
ask_busy stages again n true wanted is all = all
ask_busy stages again n false true is all = all
ask_busy stages again n false false is all = λ m h. elim (cases_eq m n) [
  | inl same ↦ ap (λ (i : ℕ). is_idle (stage_at stages i)) same ∙ is
  | inr differ ↦ all m (sym (wanted_else again n m true differ) ∙ h)
]

answered_busy : (t : Table) (ok renewed idle : Bool) (n : ℕ) → is_idle (stage_replied t n ok) ≡ idle
    → (ok && (idle && wanted_at t.again n)) ≡ renewed → AllBusy t.stages t.again
    → AllBusy (slice_set t.stages n (stage_replied t n ok))
    (if renewed then slice_set t.again n false else (if ok then t.again else slice_set t.again n false))
answered_busy t ok true idle n is renews all = set_busy t.stages n (stage_replied t n ok) t.again (slice_set t.again n false)
    (off_fewer t.again n) (off_here t.again n _) all
answered_busy t false false idle n is renews all =
    set_busy t.stages n (stage_replied t n false) t.again (slice_set t.again n false)
    (off_fewer t.again n) (off_here t.again n _) all
answered_busy t true false true n is renews all =
    set_busy t.stages n (stage_replied t n true) t.again t.again (λ m h. h) (λ h. absurd (cc)) all
answered_busy t true false false n is renews all =
    set_busy t.stages n (stage_replied t n true) t.again t.again (λ m h. h) (λ h. is) all

answer_busy : (t : Table) (ok : Bool) (x : Option ℕ) → AllBusy t.stages t.again
    → AllBusy (option_map_or (answered t ok) x t).stages (option_map_or (answered t ok) x t).again
answer_busy t ok None all = all
answer_busy t ok (Some n) all =
    answered_busy t ok (is_renewed t ok n) (is_idle (stage_replied t n ok)) n refl refl all

pub heard_busy : (t : Table) (event : Event) → AllBusy t.stages t.again → AllBusy (heard t event).stages (heard t event).again
heard_busy t (Ask n) all =
    ask_busy t.stages t.again n (is_idle (stage_at t.stages n)) (wanted_at t.wanted n) refl all
heard_busy t (Give n) all = set_busy t.stages n (retried_stage (stage_at t.stages n)) t.again (slice_set t.again n false)
    (off_fewer t.again n) (off_here t.again n _) all
heard_busy t (Told sensor now) all = all
heard_busy t (Reply ok) all = answer_busy t ok t.waiting all
heard_busy t Second all = all
heard_busy t Lost all = λ n h.
    let none : wanted_at (replicate (length t.routes) false) n ≡ false = none_wanted (length t.routes) n in absurd (cc)

pub next_busy : (t : Table) (waits : Bool) (d : Option ℕ) → due t ≡ d → AllBusy t.stages t.again
    → AllBusy (if waits then record { table = t; order = None } else sent t d).table.stages
    (if waits then record { table = t; order = None } else sent t d).table.again
next_busy t true d is all = all
next_busy t false None is all = all
next_busy t false (Some n) is all =
    let sends : Sends t n = due_sends t n is in
    set_busy t.stages n (ready_at t n) t.again t.again (λ m h. h)
    (λ h. order_busy sends.route (ready_at t n) sends.order sends.orders) all
