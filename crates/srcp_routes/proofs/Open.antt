-- A route that has let a train go is wanted, and at a stage at which its signal shows "go" or it is told to be set.
use Rattle.std.proofs.Common.{◌≡◌, ◌≢◌, ◌⊎◌, inl, inr, ℕ, ◌==◌, ◌<◌, Bool, true, false}
use Rattle.std.proofs.Common.{Option, Some, None, List, length, refl, sym, ◌∙◌, ap, arith, subst}
use Rattle.std.proofs.lemmas.Bool.{cases_eq}
use Rattle.std.proofs.lemmas.Option.{slice_get_within}
use Rattle.std.specs.Option.{option_and_then, option_map, option_map_or}
use Rattle.std.specs.Prelude.{if◌then◌else◌, is_some, slice_get, slice_set}
use Rattle.srcp_routes.specs.Conflicts.{are_free}
use Rattle.srcp_routes.specs.Plan.{Table, stage_at, train_at, train_behind, train_told, trains_behind, wanted_at}
use Rattle.srcp_routes.specs.Plan.{wanted_behind}
use Rattle.srcp_routes.specs.Stages.{after_reply, is_held, ready_stage, retried_stage}
use Rattle.srcp_routes.specs.Steps.{answered, due, heard, is_renewed, is_taken_up, may_begin, ready_at, sent}
use Rattle.srcp_routes.specs.Steps.{ready_in, stage_replied, told}
use Rattle.srcp_routes.specs.Trains.{at_start, lets_go, moved}
use Rattle.srcp_routes.specs.declared.conflict.Sensed.{Sensed}
use Rattle.srcp_routes.specs.declared.interlocking.Event.{Event}
use Rattle.srcp_routes.specs.declared.interlocking.Event.TheVariants.{Ask, Give, Told, Second, Reply, Lost}
use Rattle.srcp_routes.specs.declared.route.Order.{Order}
use Rattle.srcp_routes.specs.declared.route.Route.{Route}
use Rattle.srcp_routes.specs.declared.route.Signal.{Signal}
use Rattle.srcp_routes.specs.declared.stage.Stage.{Stage}
use Rattle.srcp_routes.specs.declared.stage.Stage.TheVariants as stage
use Rattle.srcp_routes.specs.declared.train.Train.{Train}
use Rattle.srcp_routes.proofs.Again.{after_else, wanted_else}
use Rattle.srcp_routes.proofs.Apart.{stage_at-set, stage_at-set_same}
use Rattle.srcp_routes.proofs.Falls.{in_keeps}
use Rattle.srcp_routes.proofs.Long.{next_train}
use Rattle.srcp_routes.proofs.Pending.{Fits, Pends, PendsAt, Sends, due_sends}
use Rattle.srcp_routes.proofs.Places.{at-places_or, at-replicate, at-set, at-set_else, at-set_off}
use Rattle.srcp_routes.proofs.Rest.{not_fresh}
use Rattle.srcp_routes.proofs.Settling.{begins_wanted}
use Rattle.srcp_routes.proofs.Well.{AllSent, fresh}

-- at this stage a route has let a train go, or is about to
abbrev pub is_open : Stage → Bool
is_open stage.Showing = true
is_open stage.Reporting = true
is_open stage.Set = true
is_open (stage.Falling told) = true
is_open (stage.Fallen told) = true
is_open other = false

pub record IsOpen (t : Table) (n : ℕ) : Type 0 where
  pub wanted : wanted_at t.wanted n ≡ true
  pub opens : is_open (stage_at t.stages n) ≡ true

abbrev pub AllOpen : Table → Type 0
AllOpen t = (n : ℕ) → is_some (train_at t.trains n) ≡ true → IsOpen t n

pub open_held : (s : Stage) → is_open s ≡ true → is_held s ≡ true
open_held stage.Showing h = refl
open_held stage.Reporting h = refl
open_held stage.Set h = refl
open_held (stage.Falling told) h = refl
open_held (stage.Fallen told) h = refl
open_held other h = absurd (cc)

some_none : (x : Option Train) (P : Type 0) → x ≡ None → is_some x ≡ true → P
some_none None P e h = absurd (cc)
some_none (Some train) P e h = absurd (cc)

some_as : (x y : Option Train) → x ≡ y → is_some x ≡ true → is_some y ≡ true
some_as x y e h = ap (λ (z : Option Train). is_some z) (sym e) ∙ h

-- the same route has a train, is wanted, and stands at the same stage
same_open : (t u : Table) (n : ℕ) → train_at u.trains n ≡ train_at t.trains n → wanted_at u.wanted n ≡ wanted_at t.wanted n
    → stage_at u.stages n ≡ stage_at t.stages n → AllOpen t → is_some (train_at u.trains n) ≡ true → IsOpen u n
same_open t u n trains wanted stages all h =
    let old : IsOpen t n = all n (some_as (train_at u.trains n) (train_at t.trains n) trains h) in
    record { wanted = wanted ∙ old.wanted; opens = ap is_open stages ∙ old.opens }

stage_else : (stages : List Stage) (k n : ℕ) (s : Stage) → n ≢ k → stage_at (slice_set stages k s) n ≡ stage_at stages n
stage_else stages k n s differ = at-set_else stages k n s stage.Idle differ

-- ---- an event

still_wanted_on : (wanted : List Bool) (m n : ℕ) (up : Bool) → wanted_at wanted n ≡ true
    → wanted_at (if up then slice_set wanted m true else wanted) n ≡ true
still_wanted_on wanted m n true h = elim (at-set wanted m true false n) [ inl p ↦ p.1 | inr e ↦ e ∙ h ]
still_wanted_on wanted m n false h = h

kept_some : (wanted : Bool) (x : Option Train) → is_some (if wanted then x else None) ≡ true
    → (wanted ≡ true) × (is_some x ≡ true)
kept_some true x h = (refl, h)
kept_some false x h = absurd (cc)

moved_some : (route : Route) (sensors : List Sensed) (now : Sensed) (x : Option Train)
    → is_some (option_map (moved route sensors now) x) ≡ true → is_some x ≡ true
moved_some route sensors now None h = absurd (cc)
moved_some route sensors now (Some train) h = refl

told_some : (x : Option Route) (sensors : List Sensed) (now : Sensed) (train : Option Train)
    → is_some (option_and_then (λ route. option_map (moved route sensors now) train) x) ≡ true → is_some train ≡ true
told_some None sensors now train h = absurd (cc)
told_some (Some route) sensors now train h = moved_some route sensors now train h

followed_open : (t u : Table) (now : Sensed) → u.stages ≡ t.stages → u.trains ≡ t.trains → u.routes ≡ t.routes → AllOpen t
    → (n : ℕ) → is_some (train_at (trains_behind u (wanted_behind u now) now) n) ≡ true
    → (wanted_at (wanted_behind u now) n ≡ true) × (is_open (stage_at u.stages n) ≡ true)
followed_open t u now stages trains routes all n h =
    elim (at-places_or (train_behind u.routes u.sensors (wanted_behind u now) u.trains now) None (length u.routes) n) [
      | inl e ↦
          let both : (wanted_at (wanted_behind u now) n ≡ true)
          × (is_some (train_told u.routes u.sensors u.trains now n) ≡ true) =
          kept_some (wanted_at (wanted_behind u now) n) (train_told u.routes u.sensors u.trains now n)
          (some_as _ _ e h) in
          let old : is_some (train_at u.trains n) ≡ true =
          told_some (slice_get u.routes n) u.sensors now (train_at u.trains n) both.1 in (
            both.0,
            ap (λ (l : List Stage). is_open (stage_at l n)) stages
                ∙ (all n (subst (λ (l : List (Option Train)). is_some (train_at l n) ≡ true) trains old)).opens,
          )
      | inr e ↦ some_none _ _ e h
    ]

reply_open : (route : Route) (s : Stage) → is_open s ≡ true → is_open (after_reply route s true) ≡ true
reply_open route stage.Showing h = refl
reply_open route stage.Reporting h = refl
reply_open route stage.Set h = refl
reply_open route (stage.Falling told) h = refl
reply_open route (stage.Fallen false) h = refl
reply_open route (stage.Fallen true) h = refl
reply_open route other h = absurd (cc)

accepted_open : (t : Table) (last : Option Order) (m n : ℕ) → PendsAt t last m → AllOpen t
    → is_some (train_at t.trains n) ≡ true → IsOpen (answered t true m) n
accepted_open t last m n pends all h = record {
  wanted = still_wanted_on t.wanted m n (is_renewed t true m) (all n h).wanted;
  opens = elim (stage_at-set t.stages m (stage_replied t m true) n) [
    | inl p ↦ ap is_open p.1
        ∙ ap (λ (x : Option Route).
        is_open (option_map_or (λ (a : Route). after_reply a (stage_at t.stages m) true) x stage.Idle)) pends.is
        ∙ reply_open pends.route (stage_at t.stages m)
        (ap (λ (i : ℕ). is_open (stage_at t.stages i)) (sym p.0) ∙ (all n h).opens)
    | inr e ↦ ap is_open e ∙ (all n h).opens
  ];
}

refused_open : (t : Table) (m n : ℕ) → (n ≡ m) ⊎ (n ≢ m) → AllOpen t
    → is_some (train_at (slice_set t.trains m None) n) ≡ true → IsOpen (answered t false m) n
refused_open t m n (inl same) all h = some_none _ _
    (ap (λ (i : ℕ). train_at (slice_set t.trains m None) i) same ∙ at-set_off t.trains m None) h
refused_open t m n (inr differ) all h = same_open t (answered t false m) n
    (at-set_else t.trains m n None None differ) (after_else t.wanted (is_renewed t false m) false true m n differ)
    (stage_else t.stages m n (stage_replied t m false) differ) all h

replied_open : (t : Table) (last : Option Order) (ok : Bool) (x : Option ℕ) → Pends t last x → AllOpen t
    → AllOpen (option_map_or (answered t ok) x t)
replied_open t last ok None pends all = all
replied_open t last true (Some m) pends all = λ n h. accepted_open t last m n pends all h
replied_open t last false (Some m) pends all = λ n h. refused_open t m n (cases_eq n m) all h

given_open : (t : Table) (m n : ℕ) → (n ≡ m) ⊎ (n ≢ m) → AllOpen t
    → is_some (train_at (slice_set t.trains m None) n) ≡ true → IsOpen (heard t (Give m)) n
given_open t m n (inl same) all h = some_none _ _
    (ap (λ (i : ℕ). train_at (slice_set t.trains m None) i) same ∙ at-set_off t.trains m None) h
given_open t m n (inr differ) all h = same_open t (heard t (Give m)) n (at-set_else t.trains m n None None differ)
    (wanted_else t.wanted m n false differ) (stage_else t.stages m n (retried_stage (stage_at t.stages m)) differ) all h

pub heard_open : (t : Table) (last : Option Order) (event : Event) → Pends t last t.waiting → AllOpen t
    → AllOpen (heard t event)
heard_open t last (Ask m) pends all = λ n h. record {
  wanted = still_wanted_on t.wanted m n (is_taken_up t m) (all n h).wanted;
  opens = (all n h).opens;
}
heard_open t last (Give m) pends all = λ n h. given_open t m n (cases_eq n m) all h
heard_open t last (Told sensor now) pends all = λ n h.
    let both : (wanted_at (wanted_behind (told t sensor now) (record { sensor = sensor; occupancy = now })) n ≡ true)
    × (is_open (stage_at t.stages n) ≡ true) =
    followed_open t (told t sensor now) (record { sensor = sensor; occupancy = now }) refl refl refl all n h in
    record { wanted = both.0; opens = both.1 }
heard_open t last (Reply ok) pends all = replied_open t last ok t.waiting pends all
heard_open t last Second pends all = λ n h. record { wanted = (all n h).wanted; opens = (all n h).opens }
heard_open t last Lost pends all = λ n h. some_none _ _ (at-replicate (length t.routes) n None) h

-- ---- the next order

pub kept_open : (route : Route) (free begins : Bool) (s : Stage) → is_open s ≡ true → fresh s ≡ false
    → is_open (ready_stage route true free begins s) ≡ true
kept_open route free begins stage.Showing h old = absurd (cc)
kept_open route free begins stage.Reporting h old = refl
kept_open route free begins stage.Set h old = refl
kept_open route free begins (stage.Fallen told) h old = refl
kept_open route free begins other h old = absurd (cc)

go_open : (route : Route) (s : Stage) → lets_go route s ≡ true → is_open s ≡ true
go_open route stage.Showing h = refl
go_open route stage.Reporting h = refl
go_open route other h = absurd (cc)

left_not : (route : Route) (left : ℕ) (P : Type 0) (none : Bool)
    → lets_go route (if none then stage.Idle else stage.Unlocking left) ≡ true → P
left_not route left P true h = absurd (cc)
left_not route left P false h = absurd (cc)

leaving_not : (route : Route) (P : Type 0) (x : Option Signal)
    → lets_go route (option_map_or (λ signal. stage.Stopping) x stage.Hiding) ≡ true → P
leaving_not route P None h = absurd (cc)
leaving_not route P (Some signal) h = absurd (cc)

go_wanted : (route : Route) (wanted free begins : Bool) (s : Stage) → (begins ≡ true → wanted ≡ true)
    → lets_go route (ready_stage route wanted free begins s) ≡ true → wanted ≡ true
go_wanted route wanted free true stage.Idle may h = may refl
go_wanted route wanted free false stage.Idle may h = absurd (cc)
go_wanted route wanted free begins stage.Showing may h = absurd (cc)
go_wanted route true free begins other may h = refl
go_wanted route false free begins (stage.Locking done) may h = left_not route _ _ (done == 0) h
go_wanted route false free begins stage.Reporting may h = leaving_not route _ route.signal h
go_wanted route false free begins stage.Set may h = leaving_not route _ route.signal h
go_wanted route false free begins other may h = absurd (cc)

-- the stage of the route that sends its order
ready_is : (t : Table) (n : ℕ) (route : Route) → slice_get t.routes n ≡ Some route
    → ready_at t n ≡ ready_in t n route
ready_is t n route is = ap (λ (x : Option Route). option_map_or (ready_in t n) x stage.Idle) is

sent_open_here : (t : Table) (n : ℕ) (route : Route) (goes : Bool) → slice_get t.routes n ≡ Some route
    → lets_go route (ready_at t n) ≡ goes → fresh (stage_at t.stages n) ≡ false → AllOpen t
    → is_some (if goes then Some at_start else train_at t.trains n) ≡ true
    → (wanted_at t.wanted n ≡ true) × (is_open (ready_at t n) ≡ true)
sent_open_here t n route true is go old all h = (
  in_keeps (λ s. lets_go route s ≡ true → wanted_at t.wanted n ≡ true) t n route (λ some f h. absurd (cc))
      (λ some f h. absurd (cc)) (go_wanted route (wanted_at t.wanted n) (are_free t.sensors route.blocks.items)
      (may_begin t n (are_free t.sensors route.blocks.items)) (stage_at t.stages n)
      (begins_wanted t n (are_free t.sensors route.blocks.items)))
      (ap (lets_go route) (sym (ready_is t n route is)) ∙ go),
  go_open route (ready_at t n) go,
)
sent_open_here t n route false is go old all h = (
  (all n h).wanted,
  ap is_open (ready_is t n route is)
      ∙ in_keeps (λ s. is_open s ≡ true) t n route (λ some g. refl) (λ some g. refl)
      (subst (λ (w : Bool). is_open (ready_stage route w (are_free t.sensors route.blocks.items)
      (may_begin t n (are_free t.sensors route.blocks.items)) (stage_at t.stages n)) ≡ true) (sym (all n h).wanted)
      (kept_open route (are_free t.sensors route.blocks.items) (may_begin t n (are_free t.sensors route.blocks.items))
      (stage_at t.stages n) (all n h).opens old)),
)

old_some : (x : Option Train) (goes : Bool) → is_some x ≡ true → is_some (if goes then Some at_start else x) ≡ true
old_some x true h = refl
old_some x false h = h

sent_some : (t : Table) (n : ℕ) (sends : Sends t n) → is_some (train_at (slice_set t.trains n (next_train t n)) n) ≡ true
    → is_some (if lets_go sends.route (ready_at t n) then Some at_start else train_at t.trains n) ≡ true
sent_some t n sends h = elim (at-set t.trains n (next_train t n) None n) [
  | inl p ↦ ap (λ (x : Option Route). is_some (if option_map_or (λ (a : Route). lets_go a (ready_at t n)) x false
      then Some at_start else train_at t.trains n)) (sym sends.is) ∙ some_as _ _ p.1 h
  | inr e ↦ old_some (train_at t.trains n) (lets_go sends.route (ready_at t n)) (some_as _ _ e h)
]

sent_open : (routes : List Route) (t : Table) (n m : ℕ) → (m ≡ n) ⊎ (m ≢ n) → Fits routes t → Sends t n
    → fresh (stage_at t.stages n) ≡ false → AllOpen t
    → is_some (train_at (slice_set t.trains n (next_train t n)) m) ≡ true → IsOpen (sent t (Some n)).table m
sent_open routes t n m (inl same) fits sends old all h =
    let within : n < length t.stages =
    omega (arith, slice_get_within t.routes n sends.route sends.is, fits.stages, ap length fits.plan) in
    let both : (wanted_at t.wanted n ≡ true) × (is_open (ready_at t n) ≡ true) =
    sent_open_here t n sends.route (lets_go sends.route (ready_at t n)) sends.is refl old all
    (sent_some t n sends (ap (λ (i : ℕ). is_some (train_at (slice_set t.trains n (next_train t n)) i)) (sym same) ∙ h)) in
    record {
      wanted = ap (wanted_at t.wanted) same ∙ both.0;
      opens = ap (λ (i : ℕ). is_open (stage_at (slice_set t.stages n (ready_at t n)) i)) same
          ∙ ap is_open (stage_at-set_same t.stages n (ready_at t n) within) ∙ both.1;
    }
sent_open routes t n m (inr differ) fits sends old all h = same_open t (sent t (Some n)).table m
    (at-set_else t.trains n m (next_train t n) None differ) refl (stage_else t.stages n m (ready_at t n) differ) all h

pub next_open : (routes : List Route) (t : Table) (x d : Option ℕ) → t.waiting ≡ x → due t ≡ d → Fits routes t
    → AllSent t.stages t.waiting → AllOpen t
    → AllOpen (if is_some x then record { table = t; order = None } else sent t d).table
next_open routes t (Some k) d waits is fits fresh_sent all = all
next_open routes t None None waits is fits fresh_sent all = all
next_open routes t None (Some n) waits is fits fresh_sent all = λ m h.
    sent_open routes t n m (cases_eq m n) fits (due_sends t n is)
    (not_fresh t.stages t.waiting n (fresh (stage_at t.stages n)) refl waits fresh_sent) all h
