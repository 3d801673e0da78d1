-- Which steps are calls of the door, and which say nothing of the time.
use Rattle.std.proofs.Common.{◌≡◌, ◌∙◌, List, [], ◌∷◌, ◌++◌, None, ℕ, refl, ap, sym, append-nil, append_assoc}
use Rattle.std.proofs.lemmas.List.Elements.{filter_map-append}
use Rattle.srcp_peers.specs.Steps.{Step, SaysNothing, SaysOne, Accepts, Clocks, Closes, Reads, Shuts, Writes, Waits, Answers, calls}
use Rattle.srcp_peers.specs.Steps.{call_of}
use Rattle.srcp_door.specs.Calls.{Call}
use Rattle.std.proofs.lemmas.List.Sums.{fold-append}
use Rattle.srcp_peers.specs.Times.{KeepsTimes, Times, first_times, times, times_step}

pub says_none : (log : List Step) → SaysNothing log log
says_none log = ([], sym (append-nil log), refl)

pub says_then : (old mid new : List Step) → SaysNothing old mid → SaysNothing mid new → SaysNothing old new
says_then old mid new first second = (
  first.0 ++ second.0,
  second.1 ∙ ap (λ (l : List Step). l ++ second.0) first.1 ∙ append_assoc old first.0 second.0,
  filter_map-append call_of first.0 second.0 ∙ ap (λ (cs : List Call). cs ++ calls second.0) first.2 ∙ second.2,
)

-- the calls of the door stay the same
pub calls_stay : (old new : List Step) → SaysNothing old new → calls new ≡ calls old
calls_stay old new says = ap calls says.1 ∙ filter_map-append call_of old says.0
    ∙ ap (λ (cs : List Call). calls old ++ cs) says.2 ∙ append-nil (calls old)

-- one step that is none
one_silent : (step : Step) → call_of step ≡ None → calls (step ∷ []) ≡ []
one_silent (Accepts n answer) e = refl
one_silent (Reads n buffer answer) e = refl
one_silent (Writes n bytes answer) e = refl
one_silent (Waits most count ready) e = refl
one_silent (Shuts n) e = refl
one_silent (Closes n) e = refl
one_silent (Clocks answer) e = refl
one_silent (Answers call) e = cc

pub says_step : (old new : List Step) (step : Step) → new ≡ old ++ step ∷ [] → call_of step ≡ None → SaysNothing old new
says_step old new step is none = (step ∷ [], is, one_silent step none)

-- one call of the door
pub says_call : (old new : List Step) (call : Call) → new ≡ old ++ Answers call ∷ [] → SaysOne old call new
says_call old new call is = ap calls is ∙ filter_map-append call_of old (Answers call ∷ [])

pub says_after : (old mid new : List Step) (call : Call) → SaysNothing old mid → SaysOne mid call new → SaysOne old call new
says_after old mid new call first second = second ∙ ap (λ c. c ++ call ∷ []) (calls_stay old mid first)

-- ---- steps that say nothing of the time

pub times_more : (wall start : ℕ) (log : List Step) (step : Step)
    → times wall start (log ++ step ∷ []) ≡ times_step (times wall start log) step
times_more wall start log step = fold-append times_step (first_times wall start) log (step ∷ [])

pub keeps_then : (old mid new : List Step) → KeepsTimes old mid → KeepsTimes mid new → KeepsTimes old new
keeps_then old mid new first second wall start = second wall start ∙ first wall start

pub keeps_step : (old new : List Step) (step : Step) → new ≡ old ++ step ∷ [] → ((t : Times) → times_step t step ≡ t)
    → KeepsTimes old new
keeps_step old new step is same wall start =
    ap (times wall start) is ∙ times_more wall start old step ∙ same (times wall start old)
