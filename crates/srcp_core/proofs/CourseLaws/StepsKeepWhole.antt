-- Steps of a whole registry, one after another: each leaves it whole, tells only what can be told, and adds no row.
use Rattle.srcp_core.proofs.Names.{◌≡◌, ℕ, zero, suc, ◌<◌, Bool, true, false, cond, List, [], ◌∷◌, ◌++◌, map, take, length, refl, ap, sym}
use Rattle.srcp_core.proofs.Names.{◌∙◌, subst, arith, AllByRecursion, ◌||◌, Option, Some, None, is_some, owns, IsWellFormed, Change, Put}
use Rattle.srcp_core.proofs.Names.{Row, Device, Key, Bus, IsLayout, State, Update, IsWhole, row_at, has_row, shown_rows, updated_all}
use Rattle.srcp_core.proofs.Names.{opening, same_key, same_key-true, row_at-put_other, opening_whole, Step, updates_of, state_after}
use Rattle.srcp_core.proofs.Names.{history_from, has_key, CanBeTold, cases_Bool, ⊎_elim}
use Rattle.srcp_info.specs.Key.{device_of}
use Rattle.srcp_info.specs.declared.change.Change.TheVariants.{Gone}
use Rattle.srcp_grammar.specs.Devices.{key_at}
use Rattle.srcp_rules.specs.State.{AddsNoRow, updated_by}
use Rattle.srcp_rules.specs.Steps.{stepped, IsStepOf, IsTimely}
use Rattle.srcp_rules.proofs.EachStepLaws.{step_whole, step_adds, step_told}
use Rattle.srcp_rules.proofs.KeyLaws.{same_key-itself}
use Rattle.srcp_info.proofs.KeyLaws.{device_from_owns}
use Rattle.srcp_rules.proofs.StateLaws.{row_at-without}
use Rattle.srcp_core.specs.Laws.{is_there as has_device}

-- ---- steps of a layout

-- a step that a whole registry can take
abbrev pub Fits : List Bus → State → Step → Type 0
Fits buses state step = IsStepOf buses step × IsTimely state step

abbrev pub AreSteps : List Bus → State → List Step → Type 0
AreSteps buses state [] = Unit {0}
AreSteps buses state (step ∷ steps) = Fits buses state step × AreSteps buses (stepped state step) steps

pub are_steps_push : (buses : List Bus) (state : State) (steps : List Step) (step : Step) → AreSteps buses state steps
    → Fits buses (state_after state steps) step → AreSteps buses state (steps ++ step ∷ [])
are_steps_push buses state [] step a h = (h, tt)
are_steps_push buses state (other ∷ steps) step a h = (a.0, are_steps_push buses (stepped state other) steps step a.1 h)

-- the registry as it begins
pub whole_opening : (buses : List Bus) → IsLayout buses → IsWhole buses (opening buses 0)
whole_opening buses layout = opening_whole buses layout 0 (omega arith)

module _ (buses : List Bus) where
  pub steps_whole : (state : State) (steps : List Step) → IsWhole buses state → AreSteps buses state steps
      → IsWhole buses (state_after state steps)
  steps_whole state [] whole a = whole
  steps_whole state (step ∷ steps) whole a = steps_whole (stepped state step) steps (step_whole buses state step whole a.0.0 a.0.1) a.1

  -- and so is each state on the way
  pub prefix_whole : (k : ℕ) (state : State) (steps : List Step) → IsWhole buses state → AreSteps buses state steps
      → IsWhole buses (state_after state (take k steps))
  prefix_whole zero state steps whole a = whole
  prefix_whole (suc k) state [] whole a = whole
  prefix_whole (suc k) state (step ∷ steps) whole a = prefix_whole k _ steps (step_whole buses state step whole a.0.0 a.0.1) a.1

  -- ---- what is told

  told_changes : (updates : List Update) → CanBeTold updates → AllByRecursion IsWellFormed (map (λ update. update.change) updates)
  told_changes [] a = tt
  told_changes (update ∷ updates) a = (a.0, told_changes updates a.1)

  -- each change of each step can be told
  pub history_told : (state : State) (steps : List Step) → IsWhole buses state → AreSteps buses state steps
      → AllByRecursion (AllByRecursion IsWellFormed) (history_from state steps)
  history_told state [] whole a = tt
  history_told state (step ∷ steps) whole a = (
    told_changes (updates_of state step) (step_told buses state step whole a.0.0 a.0.1),
    history_told (stepped state step) steps (step_whole buses state step whole a.0.0 a.0.1) a.1,
  )

-- ---- no new rows

-- the device has a row
pub record HasSome (device : Device) (state : State) : Type 0 where
  pub port : ℕ
  pub here : has_row (key_at device port) state ≡ true

-- changes that add no row to a device that was there give it no key that it had not
module _ (state : State) (device : Device) (some : HasSome device state) (key : Key) (own : owns device key ≡ true) where
  one_adds : (now : State) → (has_row key now ≡ true → has_row key state ≡ true) → (change : Change) (due : Option ℕ)
      → AddsNoRow state change → has_row key (updated_by change due now) ≡ true → has_row key state ≡ true
  one_adds now f (Put shown) due adds h =
      ⊎_elim
      (λ e.
      let same : shown.key ≡ key = same_key-true _ key e in
      let mine : device ≡ device_of shown.key = cc (device_from_owns device key own) in
      ap (λ k. has_row k state) (sym same) ∙ adds _ (subst (λ d. has_row (key_at d some.port) state ≡ true) mine some.here))
      (λ e. f (cc (row_at-put_other key (record { shown = shown; due = due }) now e))) (cases_Bool (same_key shown.key key))
  one_adds now f (Gone stamp other) due adds h =
      f (was _ _ (ap is_some (sym (row_at-without key other now)) ∙ h))
    where
      was : (t : Bool) (o : Option Row) → is_some (cond t None o) ≡ true → is_some o ≡ true
      was true o e = let bad : false ≡ true = e in cc
      was false o e = e

  pub all_add : (updates : List Update) (now : State) → AllByRecursion (λ update. AddsNoRow state update.change) updates
      → (has_row key now ≡ true → has_row key state ≡ true) → has_row key (updated_all updates now) ≡ true → has_row key state ≡ true
  all_add [] now a f h = f h
  all_add (update ∷ updates) now a f h = all_add updates _ a.1 (λ k. one_adds now f _ _ a.0 k) h

-- ---- shown rows and the registry's

pub has_key_row : (key : Key) (state : State) → has_key key (shown_rows state) ≡ has_row key state
has_key_row key [] = refl
has_key_row key (row ∷ state) = by _ (has_key_row key state)
  where
    by : (t : Bool) → has_key key (shown_rows state) ≡ has_row key state
        → t || has_key key (shown_rows state) ≡ is_some (cond t (Some row) (row_at key state))
    by true ih = refl
    by false ih = ih

pub has_some : (device : Device) (state : State) → has_device device (shown_rows state) ≡ true → HasSome device state
has_some device [] h = let bad : false ≡ true = h in cc
has_some device (row ∷ state) h =
    ⊎_elim
    (λ e.
    let mine : device_of row.shown.key ≡ device = device_from_owns device row.shown.key e in
    let itself : row.shown.key ≡ key_at device row.shown.key.port = cc in
    record {
      port = row.shown.key.port;
      here =
          subst (λ k. has_row k (row ∷ state) ≡ true) itself
          (first (same_key row.shown.key row.shown.key) _ (same_key-itself row.shown.key));
    })
    (λ e.
    let rest = has_some device state (rw e at h) in
    record { port = rest.port; here = later (same_key row.shown.key (key_at device rest.port)) _ rest.here })
    (cases_Bool (owns device row.shown.key))
  where
    first : (t : Bool) (o : Option Row) → t ≡ true → is_some (cond t (Some row) o) ≡ true
    first true o e = refl
    first false o e = cc

    later : (t : Bool) (o : Option Row) → is_some o ≡ true → is_some (cond t (Some row) o) ≡ true
    later true o e = refl
    later false o e = e

module _ (buses : List Bus) where
  pub step_keys : (state : State) (step : Step) → IsWhole buses state → IsStepOf buses step → (device : Device) (key : Key)
      → has_device device (shown_rows state) ≡ true → owns device key ≡ true
      → has_key key (shown_rows (stepped state step)) ≡ true → has_key key (shown_rows state) ≡ true
  step_keys state step whole h device key there own e =
      has_key_row key state
      ∙ all_add state device (has_some device state there) key own (updates_of state step) state (step_adds buses state step whole h)
      (λ k. k) (sym (has_key_row key (stepped state step)) ∙ e)

  pub keys_kept : (k : ℕ) (state : State) (steps : List Step) → IsWhole buses state → AreSteps buses state steps → k < length steps
      → (device : Device) (key : Key) → has_device device (shown_rows (state_after state (take k steps))) ≡ true → owns device key ≡ true
      → has_key key (shown_rows (state_after state (take (suc k) steps))) ≡ true
      → has_key key (shown_rows (state_after state (take k steps))) ≡ true
  keys_kept k state [] whole a low device key there own e = absurd (omega arith)
  keys_kept zero state (step ∷ steps) whole a low device key there own e = step_keys state step whole a.0.0 device key there own e
  keys_kept (suc k) state (step ∷ steps) whole a low device key there own e =
      keys_kept k (stepped state step) steps (step_whole buses state step whole a.0.0 a.0.1) a.1 (omega arith) device key there own e
