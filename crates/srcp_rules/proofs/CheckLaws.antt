-- The effect of a refusal, and the answer of a CHECK.
use Rattle.srcp_rules.proofs.Names
use Names.{arith, ◌≡◌, ℕ, false, List, [], refl, ap, Code, Command, CheckGl, CheckGa, CheckLock, Bool, State, Update, Effect, effect}
use Names.{refused, refusals, unless_refused}
use Names.devices
use Rattle.srcp_info.specs.declared.change.Reply.TheVariants.{Refused}
use Rattle.srcp_grammar.specs.declared.command.Command.TheVariants.{CheckPower, CheckFb}
use Rattle.srcp_rules.specs.Effect.{gl_refusals}
use Rattle.srcp_rules.specs.Laws.{ChecksAnswerAsSets}
use Rattle.srcp_rules.proofs.CommandLaws.{of_effect}

-- a refusal does no more
abbrev RefusesAlone : Effect → Type 0
RefusesAlone did = (code : Code) → did.reply ≡ Refused code → did ≡ refused code

pub refusal_alone : (state : State) (session moment : ℕ) (command : Command) → RefusesAlone (effect state session moment command)
refusal_alone state session moment command =
    of_effect state session moment RefusesAlone (λ why code e. cc) (λ code e. cc) (λ code e. cc)
    (λ key row found code e. cc) command (λ none code e. cc)

-- so it changes nothing
pub refusal_keeps : (state : State) (session moment : ℕ) (command : Command) (code : Code)
    → (effect state session moment command).reply ≡ Refused code → record { updates : (effect state session moment command).updates ≡ [] }
refusal_keeps state session moment command code e =
    record { updates = ap (λ did. did.updates) (refusal_alone state session moment command code e) }

-- what is checked is answered as what is done
checked_as_done : (refusals : List (Bool × Code)) (updates : List Update)
    → unless_refused refusals [] ≡ record (unless_refused refusals updates) { updates = []; ends = false }
checked_as_done refusals updates = grind arith

pub check_as_set : ChecksAnswerAsSets
check_as_set state session moment (CheckPower power) = refl
check_as_set state session moment (CheckGl drive) = checked_as_done (gl_refusals state session drive) _
check_as_set state session moment (CheckGa switch) = checked_as_done (refusals state session devices.Ga switch.bus switch.address) _
check_as_set state session moment (CheckFb sensor) = refl
check_as_set state session moment (CheckLock lock) =
    checked_as_done (refusals state session lock.target.group lock.target.bus lock.target.address) _
check_as_set state session moment other = tt
