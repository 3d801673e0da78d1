-- To be believed: what a line asks for, and the acts that answer it.
use Rattle.std.specs.Prelude.{ℕ, ◌+◌, Bool, false, ◌&&◌, ◌||◌, ◌==◌, if◌then◌else◌, List, [], ◌∷◌, nat_lt, Result}
use Rattle.std.specs.Prelude.{Ok, Err}
use Rattle.srcp_info.specs.Limits.{greatest_id}
use Rattle.srcp_info.specs.declared.change.Code.{Code}
use Rattle.srcp_info.specs.declared.change.Code.TheVariants.{C418, C500}
use Rattle.srcp_info.specs.declared.change.Reply.{Reply}
use Rattle.srcp_info.specs.declared.change.Reply.TheVariants.{Protocol, Mode as ModeReply, Go, Refused}
use Rattle.srcp_info.specs.declared.value.Mode.{Mode}
use Rattle.srcp_grammar.specs.declared.layout.Bus.{Bus}
use Rattle.srcp_grammar.specs.declared.command.Command.{Command}
use Rattle.srcp_grammar.specs.Grammar.{reads}
use Rattle.srcp_rules.specs.Effect.{Effect}
use Rattle.srcp_rules.specs.State.{State}
use Rattle.srcp_rules.specs.Steps.{Order, effect, wants_memory}
use Rattle.srcp_text.specs.Marks.{Mark, Line, TooLong}
use Rattle.srcp_core.specs.Handshake.{Speaks, Chooses, Goes, Refuses, greets}
use Rattle.srcp_core.specs.declared.line.Request.{Request}
use Rattle.srcp_core.specs.declared.line.Request.TheVariants.{Dropped, Greets, Commands}

-- what a line of a session reads as
abbrev pub command_of : List Bus → Mark → Result Command Code
command_of _ TooLong = Err C418
command_of buses (Line text) = reads buses text

-- what a line asks for, by how its connection stands; what comes to an information session or after the end is dropped
abbrev pub request_as : List Bus → (info ended : Bool) → (session : ℕ) → Mode → Mark → Request
request_as buses info ended session mode mark =
    if info || ended then Dropped
    else (if session == 0 then Greets mode (greets mark) else Commands session (command_of buses mark))

-- one thing that the answer to a line does
pub data Act : Type 0 where
  Says : (reply : Reply) → Act  -- the connection is sent the reply
  Sets : (mode : Mode) → Act  -- the session to come is to have the mode
  Begins : (id : ℕ) (mode : Mode) → Act  -- the session of the connection begins
  Obeys : (session : ℕ) (order : Order) → Act  -- the command is carried out, if memory is given to it
  Ends : (session : ℕ) → Act  -- the session ends by its own command

-- all that the answer does, in turn, by whether memory is given to the line
abbrev pub acts : State → (last_id moment : ℕ) → (granted : Bool) → Request → List Act
acts _ _ _ _ Dropped = []
acts _ _ _ _ (Greets _ Speaks) = Says Protocol ∷ []
acts _ _ _ _ (Greets _ (Chooses mode)) = Sets mode ∷ Says ModeReply ∷ []
acts _ last_id _ granted (Greets mode Goes) =
    if granted && nat_lt last_id greatest_id
    then Begins (last_id + 1) mode ∷ Says (Go (last_id + 1)) ∷ [] else Says (Refused C500) ∷ []
acts _ _ _ _ (Greets _ (Refuses code)) = Says (Refused code) ∷ []
acts _ _ _ _ (Commands _ (Err code)) = Says (Refused code) ∷ []
acts state _ moment granted (Commands session (Ok command)) =
    let order : Order = record { command = command; granted = granted } in
    let result : Effect = effect state session moment order in
    Obeys session order ∷ Says result.reply ∷ (if result.ends then Ends session ∷ [] else [])

-- whether the line wants memory: it is GO and an id is left, or it is a command that does
abbrev pub wants : State → (last_id moment : ℕ) → Request → Bool
wants _ last_id _ (Greets _ Goes) = nat_lt last_id greatest_id
wants state _ moment (Commands session (Ok command)) = wants_memory state session moment command
wants _ _ _ _ = false
