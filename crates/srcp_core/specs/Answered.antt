-- To be believed: the answer to a line, for each thing that a line asks for. A law says it of the acts.
use Rattle.std.specs.Prelude.{◌≡◌, ℕ, ◌+◌, ◌==◌, Bool, true, false, not, ◌&&◌, ◌||◌, if◌then◌else◌, List, [], ◌∷◌}
use Rattle.std.specs.Prelude.{fold, nat_lt, Ok, Err, Some, None}
use Rattle.srcp_info.specs.Limits.{greatest_id}
use Rattle.srcp_info.specs.declared.change.Code.{Code}
use Rattle.srcp_info.specs.declared.change.Code.TheVariants.{C500}
use Rattle.srcp_info.specs.declared.change.Reply.TheVariants.{Protocol, Mode as ModeReply, Go, Refused}
use Rattle.srcp_info.specs.declared.value.Mode.{Mode}
use Rattle.srcp_grammar.specs.declared.command.Command.{Command}
use Rattle.srcp_grammar.specs.declared.layout.Bus.{Bus}
use Rattle.srcp_rules.specs.Effect.{Effect, effect as effect_of}
use Rattle.srcp_rules.specs.Steps.{Order, Obeyed, Began, Ended, effect, wants_memory}
use Rattle.srcp_text.specs.Marks.{Mark}
use Rattle.srcp_core.specs.Acts.{acts, command_of, wants}
use Rattle.srcp_core.specs.Connection.{Connection}
use Rattle.srcp_core.specs.Course.{World, act, answered_as, asked, at_connection, did, entered, replied, state}
use Rattle.srcp_core.specs.Handshake.{Speaks, Chooses, Goes, Refuses, greets}
use Rattle.srcp_core.specs.Held.{Held}
use Rattle.srcp_core.specs.Machine.{answered, carried, changed_at, freed_of, one_denied, session_begun, steps_answered}
use Rattle.srcp_core.specs.Machine.{replied as reply_held}
use Rattle.srcp_core.specs.declared.line.Request.{Request}
use Rattle.srcp_core.specs.declared.line.Request.TheVariants.{Commands, Dropped, Greets}
use Rattle.srcp_core.specs.declared.record.Step.TheVariants as recorded

-- what the answer makes of the course
module _ (buses : List Bus) (n : ℕ) (w : World) (granted : Bool) where
  abbrev pub answered_in : Request → World
  answered_in request = fold (act buses n) w (acts (state buses w) w.last_id w.moment granted request)

  pub record AnswersInCourse : Type 0 where
    pub dropped : answered_in Dropped ≡ w
    pub speaks : (mode : Mode) → answered_in (Greets mode Speaks) ≡ replied n Protocol w
    pub chooses : (mode chosen : Mode) → answered_in (Greets mode (Chooses chosen))
        ≡ replied n ModeReply (at_connection n (λ conn. record conn { mode = chosen }) w)
    pub goes : (mode : Mode) → let id = w.last_id + 1 in answered_in (Greets mode Goes)
        ≡ (if granted && nat_lt w.last_id greatest_id
        then replied n (Go id) (entered buses n id (did (Began id w.moment mode) (record w { last_id = id })))
        else replied n (Refused C500) w)
    pub refuses : (mode : Mode) (code : Code) → answered_in (Greets mode (Refuses code)) ≡ replied n (Refused code) w
    pub errs : (session : ℕ) (code : Code) → answered_in (Commands session (Err code)) ≡ replied n (Refused code) w
    pub obeys : (session : ℕ) (command : Command)
        → let order : Order = record { command = command; granted = granted } in
        let result : Effect = effect (state buses w) session w.moment order in
        let after : World = replied n result.reply (did (Obeyed session w.moment order) w) in
        answered_in (Commands session (Ok command))
        ≡ (if result.ends
        then did (Ended session w.moment) (at_connection n (λ conn. record conn { ended = true }) after) else after)

  -- the same by how the connection stands; what comes to an information session or after the end is dropped
  pub record AnswersByConnection (mark : Mark) : Type 0 where
    pub none : answered_as buses n None (record { mark = mark; granted = granted }) w ≡ w
    pub some : (conn : Connection) → answered_as buses n (Some conn) (record { mark = mark; granted = granted }) w
        ≡ (if conn.info || conn.ended then w
        else (if conn.session == 0 then answered_in (Greets conn.mode (greets mark))
        else answered_in (Commands conn.session (command_of buses mark))))

-- whether a line wants memory
module _ (buses : List Bus) (w : World) where
  abbrev pub wants_in : Request → Bool
  wants_in = wants (state buses w) w.last_id w.moment

  pub record WantsByRequest : Type 0 where
    pub dropped : wants_in Dropped ≡ false
    pub speaks : (mode : Mode) → wants_in (Greets mode Speaks) ≡ false
    pub chooses : (mode chosen : Mode) → wants_in (Greets mode (Chooses chosen)) ≡ false
    pub goes : (mode : Mode) → wants_in (Greets mode Goes) ≡ nat_lt w.last_id greatest_id
    pub refuses : (mode : Mode) (code : Code) → wants_in (Greets mode (Refuses code)) ≡ false
    pub errs : (session : ℕ) (code : Code) → wants_in (Commands session (Err code)) ≡ false
    pub obeys : (session : ℕ) (command : Command) → wants_in (Commands session (Ok command))
        ≡ wants_memory (state buses w) session w.moment command
    pub none : (mark : Mark) → wants_in (asked buses None mark) ≡ false
    pub some : (conn : Connection) (mark : Mark) → wants_in (asked buses (Some conn) mark)
        ≡ (if conn.info || conn.ended then false
        else (if conn.session == 0 then wants_in (Greets conn.mode (greets mark))
        else wants_in (Commands conn.session (command_of buses mark))))

-- what it makes of what is held, and the steps that a run records of it
module _ (held : Held) (granted : Bool) where
  -- the command is carried out: it wants no memory, or memory is given to it
  abbrev pub is_obeyed : ℕ → Command → Bool
  is_obeyed session command = granted || not (wants_memory held.rows session held.moment command)

  pub record AnswersHeld (key : ℕ) : Type 0 where
    pub dropped : answered granted key Dropped held ≡ held
    pub speaks : (mode : Mode) → answered granted key (Greets mode Speaks) held ≡ reply_held key Protocol held
    pub chooses : (mode chosen : Mode) → answered granted key (Greets mode (Chooses chosen)) held
        ≡ reply_held key ModeReply (changed_at key (λ p. record p { mode = chosen }) held)
    pub goes : (mode : Mode) → let id = held.last_id + 1 in answered granted key (Greets mode Goes) held
        ≡ (if nat_lt held.last_id greatest_id
        then (if granted then reply_held key (Go id) (session_begun key id mode held)
        else reply_held key (Refused C500) (one_denied held))
        else reply_held key (Refused C500) held)
    pub refuses : (mode : Mode) (code : Code) → answered granted key (Greets mode (Refuses code)) held
        ≡ reply_held key (Refused code) held
    pub errs : (session : ℕ) (code : Code) → answered granted key (Commands session (Err code)) held
        ≡ reply_held key (Refused code) held
    pub obeys : (session : ℕ) (command : Command)
        → let result : Effect = effect_of held.rows session held.moment command in
        let after : Held = reply_held key result.reply (carried result.updates held) in
        answered granted key (Commands session (Ok command)) held
        ≡ (if is_obeyed session command
        then (if result.ends then freed_of session (changed_at key (λ p. record p { ended = true }) after) else after)
        else reply_held key (Refused C500) (one_denied held))

  pub record AreStepsOfAnswers : Type 0 where
    pub dropped : steps_answered granted Dropped held ≡ []
    pub speaks : (mode : Mode) → steps_answered granted (Greets mode Speaks) held ≡ []
    pub chooses : (mode chosen : Mode) → steps_answered granted (Greets mode (Chooses chosen)) held ≡ []
    pub goes : (mode : Mode) → steps_answered granted (Greets mode Goes) held
        ≡ (if nat_lt held.last_id greatest_id && granted
        then recorded.Began (held.last_id + 1) held.moment mode ∷ [] else [])
    pub refuses : (mode : Mode) (code : Code) → steps_answered granted (Greets mode (Refuses code)) held ≡ []
    pub errs : (session : ℕ) (code : Code) → steps_answered granted (Commands session (Err code)) held ≡ []
    pub obeys : (session : ℕ) (command : Command) → steps_answered granted (Commands session (Ok command)) held
        ≡ recorded.Obeyed session held.moment command
        ∷ (if is_obeyed session command && (effect_of held.rows session held.moment command).ends
        then recorded.Ended session held.moment ∷ [] else [])
