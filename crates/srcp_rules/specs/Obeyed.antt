-- The outcome of a command, against the effect of the command.
use Rattle.std.specs.Prelude.{◌≡◌, ℕ, Bool, IsTrue, ◌⊎◌, List, map}
use Rattle.srcp_info.specs.declared.change.Code.TheVariants.{C500}
use Rattle.srcp_info.specs.declared.change.Reply.TheVariants.{Accepted}
use Rattle.srcp_rules.specs.declared.obeyed.Obeyed.{Obeyed}
use Rattle.srcp_grammar.specs.declared.command.Command.{Command}
use Rattle.srcp_grammar.specs.declared.layout.Bus.{Bus}
use Rattle.srcp_grammar.specs.Command.{IsCommandOf}
use Rattle.srcp_grammar.specs.Devices.{session_device}
use Rattle.srcp_rules.specs.State.{State, IsWhole, is_there, updated_all}
use Rattle.srcp_rules.specs.Effect.{Effect, effect, adds_rows, refused}

-- the outcome has the reply and the changes of the effect, and says whether the session ends
pub record IsTold (did : Effect) (obeyed : Obeyed) : Type 0 where
  pub reply : obeyed.reply ≡ did.reply
  pub changes : obeyed.changes.items ≡ map (λ update. update.change) did.updates
  pub ends : obeyed.ends ≡ did.ends

module _ (did : Effect) (before after : State) (obeyed : Obeyed) where
  -- the effect took place: the outcome tells the effect, and the rows have the changes
  pub record Took : Type 0 where
    pub told : IsTold did obeyed
    pub rows : after ≡ updated_all did.updates before

  -- memory was refused to a command that no rule refuses, and no row has changed
  pub record WantsMemory : Type 0 where
    pub accepts : did.reply ≡ Accepted
    pub told : IsTold (refused C500) obeyed
    pub rows : after ≡ before

  -- the effect took place, or rows are added and memory was refused
  abbrev pub TookUnless : (adds : Bool) → Type 0
  TookUnless adds = Took ⊎ (IsTrue adds × WantsMemory)

-- the effect of the command took place, or the command adds rows and memory was refused
abbrev pub IsObeyed : (before after : State) → (session moment : ℕ) → Command → Obeyed → Type 0
IsObeyed before after session moment command obeyed =
    TookUnless (effect before session moment command) before after obeyed (adds_rows before command)

-- a command may be obeyed: the registry is whole, the session has begun, the layout has the command
pub record MayObey (buses : List Bus) (state : State) (session : ℕ) (command : Command) : Type 0 where
  pub whole : IsWhole buses state
  pub begun : IsTrue (is_there (session_device session) state)
  pub of : IsCommandOf buses command
