-- A door makes few calls of the system for an answer.
use Rattle.std.proofs.Common.{◌≡◌, ◌∙◌, ℕ, ◌+◌, ◌*◌, ◌≤◌, List, [], ◌∷◌, ◌++◌, Option, ap, arith, length, refl, sym, ⊎_elim}
use Rattle.std.proofs.Common.{append-nil, append_assoc, length-append}
use Rattle.std.specs.Prelude.{Result, fold}
use Rattle.std.proofs.lemmas.List.Elements.{filter_map-append}
use Rattle.std.proofs.lemmas.List.Sums.{fold-append}
use Rattle.srcp_info.proofs.ClientLaws.{all_append}
use Rattle.srcp_door.specs.Calls.{Call, IsFair, NowCall}
use Rattle.srcp_door.specs.declared.door.DoorFault.{DoorFault}
use Rattle.srcp_peers.specs.Steps.{Accepts, Answers, Clocks, Closes, GrowsBy, Reads, SaysNothing, Shuts, Step, Waits, Writes, call_of}
use Rattle.srcp_peers.specs.Steps.{calls}
use Rattle.srcp_peers.proofs.CallsAreOfTheDoor.{says_none, says_step, says_then}
use Rattle.srcp_log.specs.Loads.{AnswersFairly, AnswersWithin, load, load_after, most_before}
use Rattle.srcp_log.proofs.AcceptsAreAsked.{splits}
use Rattle.srcp_log.proofs.WorkIsDone.{not_none, one_only}

-- each call of the system counts
load_grows : (count : ℕ) (came : List Step) → calls came ≡ [] → fold load_after count came ≡ count + length came
load_grows count [] e = omega arith
load_grows count (Accepts number answer ∷ came) e = load_grows (count + 1) came e ∙ omega arith
load_grows count (Reads who buffer answer ∷ came) e = load_grows (count + 1) came e ∙ omega arith
load_grows count (Writes who bytes answer ∷ came) e = load_grows (count + 1) came e ∙ omega arith
load_grows count (Waits most found ready ∷ came) e = load_grows (count + 1) came e ∙ omega arith
load_grows count (Shuts who ∷ came) e = load_grows (count + 1) came e ∙ omega arith
load_grows count (Closes who ∷ came) e = load_grows (count + 1) came e ∙ omega arith
load_grows count (Clocks shown ∷ came) e = load_grows (count + 1) came e ∙ omega arith
load_grows count (Answers call ∷ came) e = cc

-- an answer stands behind no calls of the system alone
pub not_silent : (mid rest : List Step) (x : Call) → calls (mid ++ Answers x ∷ rest) ≡ [] → ⊥
not_silent mid rest x none = some_there (calls mid) (sym (filter_map-append call_of mid (Answers x ∷ rest)) ∙ none)
  where
    some_there : (before : List Call) → before ++ x ∷ calls rest ≡ [] → ⊥
    some_there [] e = cc
    some_there (y ∷ before) e = cc

pub says_answered : (old new : List Step) (call : Call) → AnswersWithin old call new → calls new ≡ calls old ++ call ∷ []
says_answered old new call (came, is, none, few) =
    ap calls is ∙ filter_map-append call_of old (came ++ Answers call ∷ [])
    ∙ ap (λ cs. calls old ++ cs) (filter_map-append call_of came (Answers call ∷ []) ∙ ap (λ cs. cs ++ call ∷ []) none)

pub answered_more : (old new : List Step) (call : Call) → AnswersWithin old call new → IsFair call → AnswersFairly old → AnswersFairly new
answered_more old new call (came, is, none, few) fair was = record {
  bounded = λ before after x e. ⊎_elim
      (λ (here : (rest : List Step) × (old ≡ before ++ Answers x ∷ rest)). was.bounded before here.0 x here.1)
      (λ (there : (mid : List Step) × (came ++ Answers call ∷ [] ≡ mid ++ Answers x ∷ after) × (before ≡ old ++ mid)). ⊎_elim
      (λ (here : (rest : List Step) × (came ≡ there.0 ++ Answers x ∷ rest)).
      absurd (not_silent there.0 here.0 x (ap calls (sym here.1) ∙ none)))
      (λ (last : (mid : List Step) × (Answers call ∷ [] ≡ mid ++ Answers x ∷ after) × (there.0 ≡ came ++ mid)).
      let one = one_only (Answers call) (Answers x) last.0 after last.1 in
      let same : x ≡ call = cc in
      let all : before ≡ old ++ came = cc (append-nil came) in
      let loads = ap load all ∙ fold-append load_after 0 old came ∙ load_grows (load old) came none in
      rw same (omega (arith, loads, was.idle, few)))
      (splits came (Answers call ∷ []) there.0 after (Answers x) there.1))
      (splits old (came ++ Answers call ∷ []) before after (Answers x) (sym is ∙ e));
  fair = let one = says_answered old new call (came, is, none, few) in
      rw one (all_append IsFair (calls old) (call ∷ []) was.fair (fair, tt));
  idle = ap load is ∙ fold-append load_after 0 old (came ++ Answers call ∷ [])
      ∙ fold-append load_after (load old) came (Answers call ∷ []);
}

-- an answer behind few calls of the system
pub answered_after : (old mid new : List Step) (call : Call) → SaysNothing old mid → GrowsBy (most_before call) old mid
    → new ≡ mid ++ Answers call ∷ [] → AnswersWithin old call new
answered_after old mid new call (came, is, none) grows ends = (
  came,
  ends ∙ ap (λ (l : List Step). l ++ Answers call ∷ []) is ∙ append_assoc old came (Answers call ∷ []),
  none,
  omega (arith, ap length is, length-append old came, grows),
)

-- a moment behind the calls of a turn and a look at the clock
pub answered_now : (peers : ℕ) (old mid new : List Step) (shown : Option ℕ) (answer : Result ℕ DoorFault) → peers ≤ 129
    → SaysNothing old mid → GrowsBy (3 * peers + 129) old mid → new ≡ mid ++ Clocks shown ∷ Answers (NowCall answer) ∷ []
    → AnswersWithin old (NowCall answer) new
answered_now peers old mid new shown answer few says grows ends =
    let looked = mid ++ Clocks shown ∷ [] in
    answered_after old looked new (NowCall answer) (says_then old mid looked says (says_step mid looked (Clocks shown) refl refl))
    (omega (arith, few, grows, length-append mid (Clocks shown ∷ [])))
    (ends ∙ sym (append_assoc mid (Clocks shown ∷ []) (Answers (NowCall answer) ∷ [])))

-- an answer that takes no call
pub answered_once : (old new : List Step) (call : Call) → new ≡ old ++ Answers call ∷ [] → IsFair call → AnswersFairly old
    → AnswersFairly new
answered_once old new call ends fair =
    answered_more old new call (answered_after old old new call (says_none old) (omega arith) ends) fair

-- no step was made
pub answered_first : (log : List Step) → log ≡ [] → AnswersFairly log
answered_first log none = record {
  bounded = λ before after call is. absurd (not_none (Answers call) before after (sym none ∙ is));
  fair = rw none tt;
  idle = ap load none;
}
