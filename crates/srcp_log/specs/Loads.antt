-- How many calls of the system a door makes for an answer.
use Rattle.std.specs.Prelude.{◌≡◌, ℕ, ◌+◌, ◌*◌, ◌≤◌, ◌∷◌, ◌++◌, List, [], fold, length, Ok, Err}
use Rattle.std.specs.List.{AllByRecursion, AllByRecursion-prop}
use Rattle.std.proofs.Props.{props}
use Rattle.srcp_door.specs.Calls.{Call, IsFair, ExpectCall, NowCall, AcceptCall, ReadCall, WriteCall, CloseCall}
use Rattle.srcp_door.specs.declared.door.Got.TheVariants as got
use Rattle.srcp_peers.specs.Limits.{most_drained}
use Rattle.srcp_peers.specs.Steps.{Answers, Step, calls}
use Rattle.srcp_log.specs.Limits.{most_lingering, most_peers}

-- how many calls of the system were made since the door answered a call
abbrev pub load_after : ℕ → Step → ℕ
load_after count (Answers call) = 0
load_after count other = count + 1

abbrev pub load : List Step → ℕ
load log = fold load_after 0 log

-- the most calls of the system for an answer. For a moment each peer is written to, shut down and read; those that
-- linger are read and closed; the turn waits, and reads the clock. For an accept the system is asked, or a socket is
-- closed. No other answer takes a call
abbrev pub most_before : Call → ℕ
most_before (NowCall answer) = 3 * most_peers + most_drained + most_lingering + 2
most_before (AcceptCall answer) = 1
most_before other = 0

-- so it was with each answer
abbrev pub AreBounded : List Step → Type 0
AreBounded log = (before after : List Step) (call : Call) → log ≡ before ++ Answers call ∷ after
    → load before ≤ most_before call

-- the steps that came are calls of the system, no more than that, and the answer
abbrev pub AnswersWithin : (old : List Step) → Call → (new : List Step) → Type 0
AnswersWithin old call new = (came : List Step) × (new ≡ old ++ (came ++ Answers call ∷ [])) × (calls came ≡ [])
    × (length came ≤ most_before call)

-- what holds between two calls of a door: each answer was bounded and fair, and no call of the system was made since
pub record AnswersFairly (log : List Step) : Type 0 where
  pub bounded : AreBounded log
  pub fair : AllByRecursion IsFair (calls log)
  pub idle : load log ≡ 0

IsFair-prop : (call : Call) → IsProp (IsFair call)
IsFair-prop (ExpectCall due slack) = hlevel props
IsFair-prop (NowCall answer) = hlevel props
IsFair-prop (AcceptCall answer) = hlevel props
IsFair-prop (ReadCall peer (Ok (got.Bytes count)) buffer) = hlevel props
IsFair-prop (ReadCall peer (Ok got.Nothing) buffer) = hlevel props
IsFair-prop (ReadCall peer (Ok got.Ended) buffer) = hlevel props
IsFair-prop (ReadCall peer (Err fault) buffer) = hlevel props
IsFair-prop (WriteCall peer bytes (Ok count)) = hlevel props
IsFair-prop (WriteCall peer bytes (Err fault)) = hlevel props
IsFair-prop (CloseCall peer answer) = hlevel props

pub AnswersFairly-prop : (log : List Step) → IsProp (AnswersFairly log)
AnswersFairly-prop log = hlevel (props, AllByRecursion-prop IsFair IsFair-prop)
