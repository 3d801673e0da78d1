-- Each step leaves a whole registry whole, brings only changes with lines, and gives no device a further row.
use Rattle.srcp_rules.specs.Laws.{CanBeTold, RefusalsNeedNoMemory, StepsAddNoRow, StepsCanBeTold, StepsKeepWhole}
use Rattle.srcp_rules.specs.Effect.{adds_rows, effect as effect_of}
use Rattle.srcp_rules.specs.Steps.{Order, Obeyed, Began, Moment, Ended, effect, is_accepted}
use Rattle.srcp_rules.proofs.Names
use Names.{◌≡◌, ◌≤◌, ℕ, Bool, true, false, not, ◌&&◌, if◌then◌else◌, List, ap, refl, arith, first_key, AllByRecursion}
use Names.{Bus, IsKeyOf, session_device, Effect, refused, State, IsWhole, AddsNoRow, updated_all}
use Rattle.std.proofs.lemmas.Bool.{cond_both}
use Rattle.std.specs.Prelude.{◌||◌}
use Rattle.srcp_info.specs.Limits.{greatest_id}
use Rattle.srcp_info.specs.declared.change.Code.TheVariants.{C500}
use Rattle.srcp_rules.proofs.AddingLaws.{session_rows}
use Rattle.srcp_rules.proofs.AddsNoRowLaws.{effect-adds_no_row, due-adds_no_row, freed_adds, began-adds_no_row}
use Rattle.srcp_rules.proofs.DueLaws.{began_kept, due_kept, freed_kept}
use Rattle.srcp_rules.proofs.EffectLaws.{effect_kept}
use Rattle.srcp_rules.proofs.ToldLaws.{effect_told, due_told, freed_told}

-- what holds of the command's effect and of a refusal holds of what the order does
pub effect_law : (P : Effect → Type 0) (state : State) (session moment : ℕ) (order : Order)
    → P (effect_of state session moment order.command) → P (refused C500) → P (effect state session moment order)
effect_law P state session moment order e r = cond_both _ _ _ P (λ _. e) (λ _. r)

-- a command that another rule refuses has that refusal
pub refusals_stand : RefusalsNeedNoMemory
refusals_stand state session moment order code e =
    by order.granted (adds_rows state order.command) (is_accepted (effect_of state session moment order.command).reply) (ap is_accepted e)
  where
    by : (granted adds accepted : Bool) → accepted ≡ false
        → (if granted || not (adds && accepted) then effect_of state session moment order.command else refused C500)
        ≡ effect_of state session moment order.command
    by true adds accepted h = refl
    by false false accepted h = refl
    by false true true h = cc
    by false true false h = refl

-- the layout has the row of each session
session_key : (buses : List Bus) (session : ℕ) → 1 ≤ session → session ≤ greatest_id → IsKeyOf buses (first_key (session_device session))
session_key buses session low high = let count = session_rows buses session low high in omega (arith, count)

pub step_whole : StepsKeepWhole
step_whole buses state (Obeyed session moment order) whole of now =
    effect_law (λ e. IsWhole buses (updated_all e.updates state)) state session moment order
    (effect_kept buses state whole session moment now.0 now.1 order.command of) whole
step_whole buses state (Began session moment mode) whole of now =
    began_kept buses moment now session mode state (session_key buses session of.0 of.1) whole
step_whole buses state (Moment moment) whole of now = due_kept buses moment now state whole
step_whole buses state (Ended session moment) whole of now = freed_kept buses moment state whole session

pub step_adds : StepsAddNoRow
step_adds buses state (Obeyed session moment order) whole of =
    effect_law (λ e. AllByRecursion (λ update. AddsNoRow state update.change) e.updates) state session moment order
    (effect-adds_no_row buses state session moment order.command whole of) tt
step_adds buses state (Began session moment mode) whole of =
    (began-adds_no_row buses state session moment mode whole (session_key buses session of.0 of.1), tt)
step_adds buses state (Moment moment) whole of = due-adds_no_row buses state moment whole
step_adds buses state (Ended session moment) whole of = freed_adds state session moment

pub step_told : StepsCanBeTold
step_told buses state (Obeyed session moment order) whole of now =
    effect_law (λ e. CanBeTold e.updates) state session moment order
    (effect_told buses state whole session moment now.0 now.1 order.command of) tt
step_told buses state (Began session moment mode) whole of now =
    (record { moment = now; address = (refl, of); value = (refl, refl) }, tt)
step_told buses state (Moment moment) whole of now = due_told buses state whole moment now
step_told buses state (Ended session moment) whole of now = freed_told buses state whole moment now session
