-- The steps of a registry: a command with the answer of memory, a moment, and a session's beginning and end.
use Rattle.std.specs.Prelude.{ℕ, ◌≤◌, ⊤, Bool, true, false, not, ◌&&◌, ◌||◌, if◌then◌else◌, IsTrue}
use Rattle.std.specs.Prelude.{List, [], ◌∷◌}
use Rattle.srcp_info.specs.declared.change.Code.TheVariants.{C500}
use Rattle.srcp_info.specs.declared.change.Reply.{Reply}
use Rattle.srcp_info.specs.declared.change.Reply.TheVariants.{Accepted}
use Rattle.srcp_info.specs.declared.value.Mode.{Mode}
use Rattle.srcp_info.specs.Limits.{greatest_id}
use Rattle.srcp_info.specs.WellFormed.{IsMoment}
use Rattle.srcp_grammar.specs.declared.command.Command.{Command}
use Rattle.srcp_grammar.specs.declared.layout.Bus.{Bus}
use Rattle.srcp_grammar.specs.Command.{IsCommandOf}
use Rattle.srcp_grammar.specs.Devices.{session_device}
use Rattle.srcp_rules.specs.Due.{began, due, freed}
use Rattle.srcp_rules.specs.Effect.{Effect, effect as effect_of, adds_rows, refused}
use Rattle.srcp_rules.specs.State.{State, Update, is_there, updated_all}

-- a command, and the answer of memory
pub record Order : Type 0 where
  pub command : Command
  pub granted : Bool

-- the reply accepts the command
abbrev pub is_accepted : Reply → Bool
is_accepted Accepted = true
is_accepted _ = false

-- the command wants memory: the command adds rows, and no rule refuses the command
abbrev pub wants_memory : State → (session moment : ℕ) → Command → Bool
wants_memory state session moment command =
    adds_rows state command && is_accepted (effect_of state session moment command).reply

-- the effect of the command, or its refusal if the command wants memory and memory is refused
abbrev pub effect : State → (session moment : ℕ) → Order → Effect
effect state session moment order =
    if order.granted || not (wants_memory state session moment order.command)
    then effect_of state session moment order.command else refused C500

-- a step of a registry
pub data Step : Type 0 where
  Obeyed : (session moment : ℕ) (order : Order) → Step
  Began : (session moment : ℕ) (mode : Mode) → Step
  Moment : (moment : ℕ) → Step
  Ended : (session moment : ℕ) → Step

-- the changes of a step, for the registry before the step
abbrev pub updates_of : State → Step → List Update
updates_of state (Obeyed session moment order) = (effect state session moment order).updates
updates_of _ (Began session moment mode) = began session moment mode ∷ []
updates_of state (Moment moment) = due state moment
updates_of state (Ended session moment) = freed state session moment

-- the registry after the step
abbrev pub stepped : State → Step → State
stepped state step = updated_all (updates_of state step) state

-- the layout has the step's command, or the session that the step begins
abbrev pub IsStepOf : List Bus → Step → Type 0
IsStepOf buses (Obeyed session moment order) = IsCommandOf buses order.command
IsStepOf buses (Began session moment mode) = (1 ≤ session) × (session ≤ greatest_id)
IsStepOf buses other = ⊤

-- the step comes at a moment, and a command from a begun session
abbrev pub IsTimely : State → Step → Type 0
IsTimely state (Obeyed session moment order) = IsTrue (is_there (session_device session) state) × IsMoment moment
IsTimely state (Began session moment mode) = IsMoment moment
IsTimely state (Moment moment) = IsMoment moment
IsTimely state (Ended session moment) = IsMoment moment
