-- What a line is answered and whether it wants memory, for each thing that it asks for.
use Rattle.srcp_core.proofs.Names.{◌≡◌, ℕ, ◌==◌, Bool, true, false, not, ◌&&◌, ◌||◌, List, if◌then◌else◌, refl, nat_lt, ⊎_elim, cases_Bool}
use Rattle.srcp_core.proofs.Names.{ap, asked, Bus, C500, Command, Commands, Connection, Dropped, Effect, Greets, Held, Mark, Order, Refused}
use Rattle.srcp_core.proofs.Names.{Request, Some, World, command_of, effect, greets, one_denied, refused, state, wants_memory}
use Rattle.srcp_info.specs.Limits.{greatest_id}
use Rattle.srcp_rules.specs.Steps.{effect as effect_of_order}
use Rattle.srcp_core.specs.Answered.{AnswersByConnection, AnswersHeld, AnswersInCourse, AreStepsOfAnswers, WantsByRequest}
use Rattle.srcp_core.specs.Answered.{answered_in, wants_in}
use Rattle.srcp_core.specs.Machine.{carried, changed_at, freed_of, replied}

pub answers_in_course : (buses : List Bus) (n : ℕ) (w : World) (granted : Bool) → AnswersInCourse buses n w granted
answers_in_course buses n w granted = record {
  dropped = refl;
  speaks = λ mode. refl;
  chooses = λ mode chosen. refl;
  goes = λ mode. ⊎_elim (λ e. rw e refl) (λ e. rw e refl) (cases_Bool (granted && nat_lt w.last_id greatest_id));
  refuses = λ mode code. refl;
  errs = λ session code. refl;
  obeys =
      λ session command.
      let order : Order = record { command = command; granted = granted } in
      ⊎_elim (λ e. rw e refl) (λ e. rw e refl) (cases_Bool (effect_of_order (state buses w) session w.moment order).ends);
}

-- what is made of what a line asks for is made of one of three requests
asked_by_connection : {X : Type 0} (buses : List Bus) (conn : Connection) (mark : Mark) (f : Request → X)
    → f (asked buses (Some conn) mark)
    ≡ (if conn.info || conn.ended then f Dropped
    else (if conn.session == 0 then f (Greets conn.mode (greets mark)) else f (Commands conn.session (command_of buses mark))))
asked_by_connection buses conn mark f =
    ⊎_elim (λ e. rw e refl) (λ e. rw e (⊎_elim (λ t. rw t refl) (λ t. rw t refl) (cases_Bool (conn.session == 0))))
    (cases_Bool (conn.info || conn.ended))

pub answers_by_connection : (buses : List Bus) (n : ℕ) (w : World) (granted : Bool) (mark : Mark)
    → AnswersByConnection buses n w granted mark
answers_by_connection buses n w granted mark = record {
  none = refl;
  some = λ conn. asked_by_connection buses conn mark (answered_in buses n w granted);
}

pub wants_by_request : (buses : List Bus) (w : World) → WantsByRequest buses w
wants_by_request buses w = record {
  dropped = refl;
  speaks = λ mode. refl;
  chooses = λ mode chosen. refl;
  goes = λ mode. refl;
  refuses = λ mode code. refl;
  errs = λ session code. refl;
  obeys = λ session command. refl;
  none = λ mark. refl;
  some = λ conn mark. asked_by_connection buses conn mark (wants_in buses w);
}

module _ (held : Held) where
  effect_is : (session : ℕ) (command : Command) (t : Bool) → wants_memory held.rows session held.moment command ≡ t
      → effect_of_order held.rows session held.moment (record { command = command; granted = false })
      ≡ (if not t then effect held.rows session held.moment command else refused C500)
  effect_is session command t e =
      ap (λ wants. if false || not wants then effect held.rows session held.moment command else refused C500) e

  pub answers_held : (granted : Bool) (key : ℕ) → AnswersHeld held granted key
  answers_held true key = record {
    dropped = refl;
    speaks = λ mode. refl;
    chooses = λ mode chosen. refl;
    goes = λ mode. ⊎_elim (λ e. rw e refl) (λ e. rw e refl) (cases_Bool (nat_lt held.last_id greatest_id));
    refuses = λ mode code. refl;
    errs = λ session code. refl;
    obeys =
        λ session command.
        ⊎_elim (λ e. rw e refl) (λ e. rw e refl) (cases_Bool (effect held.rows session held.moment command).ends);
  }
  answers_held false key = record {
    dropped = refl;
    speaks = λ mode. refl;
    chooses = λ mode chosen. refl;
    goes = λ mode. ⊎_elim (λ e. rw e refl) (λ e. rw e refl) (cases_Bool (nat_lt held.last_id greatest_id));
    refuses = λ mode code. refl;
    errs = λ session code. refl;
    obeys =
        λ session command.
        let after : Effect → Effect → Held = λ told result. replied key told.reply (carried result.updates held) in
        ⊎_elim
        (λ e.
        rw e
        (ap (λ (r : Effect). replied key (Refused C500) (carried r.updates (one_denied held)))
        (effect_is session command true e)))
        (λ e.
        rw e
        (⊎_elim
        (λ f.
        rw f
        (ap
        (λ r. freed_of session
        (changed_at key (λ p. record p { ended = true }) (after (effect held.rows session held.moment command) r)))
        (effect_is session command false e)))
        (λ f. rw f (ap (after (effect held.rows session held.moment command)) (effect_is session command false e)))
        (cases_Bool (effect held.rows session held.moment command).ends)))
        (cases_Bool (wants_memory held.rows session held.moment command));
  }

  pub steps_of_answers : (granted : Bool) → AreStepsOfAnswers held granted
  steps_of_answers true = record {
    dropped = refl;
    speaks = λ mode. refl;
    chooses = λ mode chosen. refl;
    goes = λ mode. ⊎_elim (λ e. rw e refl) (λ e. rw e refl) (cases_Bool (nat_lt held.last_id greatest_id));
    refuses = λ mode code. refl;
    errs = λ session code. refl;
    obeys =
        λ session command.
        ⊎_elim (λ e. rw e refl) (λ e. rw e refl) (cases_Bool (effect held.rows session held.moment command).ends);
  }
  steps_of_answers false = record {
    dropped = refl;
    speaks = λ mode. refl;
    chooses = λ mode chosen. refl;
    goes = λ mode. ⊎_elim (λ e. rw e refl) (λ e. rw e refl) (cases_Bool (nat_lt held.last_id greatest_id));
    refuses = λ mode code. refl;
    errs = λ session code. refl;
    obeys =
        λ session command.
        ⊎_elim (λ e. rw e refl)
        (λ e. rw e (⊎_elim (λ f. rw f refl) (λ f. rw f refl) (cases_Bool (effect held.rows session held.moment command).ends)))
        (cases_Bool (wants_memory held.rows session held.moment command));
  }
