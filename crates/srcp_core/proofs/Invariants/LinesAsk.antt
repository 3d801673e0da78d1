-- What a line asks for, and of whom, and each answer that it can have.
use Rattle.srcp_core.proofs.Names.{◌≡◌, ℕ, ◌+◌, ◌<◌, List, [], ◌∷◌, Bool, false, eqb-false, pos_of_ne-zero, ltb-true, and_parts, cond_both}
use Rattle.srcp_core.proofs.Names.{refl, Result, Ok, Err, IfOk, Code, C500, Protocol, Go, Refused, Mode, IsCommandOf, IsLayout, Command}
use Rattle.srcp_core.proofs.Names.{Bus, reads_fits, Mark, Line, TooLong, command_of, State, Order, Place, IsLive, is_panel, request_of}
use Rattle.srcp_core.proofs.Names.{Request, Dropped, Greets, Commands, request_as, Greeting, Speaks, Chooses, Goes, Refuses, greets, Act}
use Rattle.srcp_core.proofs.Names.{Says, Sets, Begins, Obeys, Ends, acts}
use Rattle.srcp_info.specs.declared.change.Reply.TheVariants.{Mode as ModeReply}
use Rattle.srcp_rules.specs.Steps.{effect}
use Rattle.std.proofs.lemmas.Bool.{or_parts}

pub command_fits : (buses : List Bus) → IsLayout buses → (mark : Mark) → IfOk (command_of buses mark) (IsCommandOf buses)
command_fits buses layout TooLong = tt
command_fits buses layout (Line text) = reads_fits buses layout text

-- what a line asks for, by how its connection stands
request_law : (P : Request → Type 0) (buses : List Bus) (info ended : Bool) (session : ℕ) (mode : Mode) (mark : Mark) → P Dropped
    → (info ≡ false → ended ≡ false → P (Greets mode (greets mark)))
    → (info ≡ false → ended ≡ false → 0 < session → P (Commands session (command_of buses mark)))
    → P (request_as buses info ended session mode mark)
request_law P buses info ended session mode mark none greeted commanded =
    cond_both _ _ _ P (λ _. none)
    (λ t.
    let no = or_parts info ended t in
    cond_both _ _ _ P (λ _. greeted no.0 no.1) (λ z. commanded no.0 no.1 (pos_of_ne-zero (eqb-false session 0 z))))

-- a command is asked for by the session of its connection, which goes on, and is one of the layout
pub record IsRequestBy (buses : List Bus) (p : Place) (session : ℕ) (command : Result Command Code) : Type 0 where
  pub own : p.session ≡ session
  pub live : IsLive p
  pub of : IfOk command (IsCommandOf buses)

pub asked_by : (buses : List Bus) → IsLayout buses → (p : Place) (mark : Mark) (session : ℕ) (command : Result Command Code)
    → Commands session command ≡ request_of buses p mark → IsRequestBy buses p session command
asked_by buses layout p mark session command =
    request_law (λ request. Commands session command ≡ request → IsRequestBy buses p session command) buses (is_panel p.panel) p.ended
    p.session p.mode mark (λ e. cc) (λ plain goes_on e. cc)
    (λ plain goes_on began e.
    let same : command ≡ command_of buses mark = cc in
    record { own = cc; live = record { began = began; not_ended = goes_on }; of = rw same (command_fits buses layout mark) })

-- it holds of each answer that a line can have which is not dropped
pub record OfAnswers (P : List Act → Type 0) (buses : List Bus) (state : State) (last_id moment session : ℕ) (mode : Mode) (mark : Mark)
    : Type 0 where
  pub speaks : P (Says Protocol ∷ [])
  pub chooses : (chosen : Mode) → P (Sets chosen ∷ Says ModeReply ∷ [])
  pub refuses : (code : Code) → P (Says (Refused code) ∷ [])
  pub begins : greets mark ≡ Goes → last_id < 4294967295 → P (Begins (last_id + 1) mode ∷ Says (Go (last_id + 1)) ∷ [])
  pub obeys : (order : Order) → 0 < session → command_of buses mark ≡ Ok order.command
      → P (Obeys session order ∷ Says (effect state session moment order).reply ∷ [])
      × P (Obeys session order ∷ Says (effect state session moment order).reply ∷ Ends session ∷ [])

-- so it does of the line's answer
pub acts_law : (P : List Act → Type 0) (granted : Bool) {buses : List Bus} {state : State} {last_id moment session : ℕ}
    {info ended : Bool} {mode : Mode} {mark : Mark}
    → P [] → (info ≡ false → ended ≡ false → OfAnswers P buses state last_id moment session mode mark)
    → P (acts state last_id moment granted (request_as buses info ended session mode mark))
acts_law P granted {buses} {state} {last_id} {moment} {session} {info} {ended} {mode} {mark} none some =
    request_law (λ request. P (acts state last_id moment granted request)) buses info ended session mode mark none
    (λ plain goes_on. greeted (some plain goes_on) _ refl) (λ plain goes_on began. commanded (some plain goes_on) began _ refl)
  where
    greeted : OfAnswers P buses state last_id moment session mode mark → (greeting : Greeting) → greets mark ≡ greeting
        → P (acts state last_id moment granted (Greets mode greeting))
    greeted each Speaks e = each.speaks
    greeted each (Chooses chosen) e = each.chooses chosen
    greeted each Goes e = cond_both _ _ _ P (λ t. each.begins e (ltb-true _ _ (and_parts _ _ t).1)) (λ _. each.refuses C500)
    greeted each (Refuses code) e = each.refuses code

    commanded : OfAnswers P buses state last_id moment session mode mark → 0 < session → (command : Result Command Code)
        → command_of buses mark ≡ command → P (acts state last_id moment granted (Commands session command))
    commanded each began (Err code) e = each.refuses code
    commanded each began (Ok command) e =
        let order : Order = record { command = command; granted = granted } in
        let both = each.obeys order began e in
        cond_both (effect state session moment order).ends (Ends session ∷ []) []
        (λ ends. P (Obeys session order ∷ Says (effect state session moment order).reply ∷ ends)) (λ _. both.1) (λ _. both.0)
