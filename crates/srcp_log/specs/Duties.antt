-- What a door has done when it waits and reports a moment, and what a read answers.
use Rattle.std.specs.Prelude.{⊤, ◌≡◌, ℕ, ◌≤◌, ◌&&◌, ◌||◌, Bool, true, false, not, List, ◌∷◌, ◌++◌, fold, length}
use Rattle.std.specs.Prelude.{drop, min, take, Option, Some, None, Result, Ok, Err}
use Rattle.std.proofs.Props.{props}
use Rattle.srcp_info.specs.Limits.{most_in_piece}
use Rattle.srcp_door.specs.Calls.{ExpectCall, NowCall, AcceptCall, ReadCall, WriteCall, CloseCall}
use Rattle.srcp_door.specs.Pacing.{lines, weight_of}
use Rattle.srcp_door.specs.declared.door.DoorFault.{DoorFault}
use Rattle.srcp_door.specs.declared.door.Got.{Got}
use Rattle.srcp_door.specs.declared.door.Got.TheVariants as got
use Rattle.srcp_door.specs.declared.pacing.LineBoundary.{LineBoundary}
use Rattle.srcp_peers.specs.declared.turn.Turn.{Turn}
use Rattle.srcp_peers.specs.Accounts.{Account, Received, account, is_held, may_end}
use Rattle.srcp_peers.specs.Reports.{is_settled}
use Rattle.srcp_peers.specs.Steps.{Accepts, Answers, Clocks, Closes, Reads, Shuts, Step, Waits, Writes}
use Rattle.srcp_peers.specs.Times.{times}
use Rattle.srcp_peers.specs.Turns.{got_bytes, has_ticked, reports_end}
use Rattle.srcp_log.specs.Endings.{ending_of}
use Rattle.srcp_log.specs.Limits.{most_ready}
use Rattle.srcp_log.specs.Waits.{IsBriefOverWork, IsLongEnough, IsWaitDone}

-- ---- a moment

-- the door waited since it answered a call
abbrev pub waited_after : Bool → Step → Bool
waited_after waited (Waits most count ready) = true
waited_after waited (Answers call) = false
waited_after waited other = waited

abbrev pub has_waited : List Step → Bool
has_waited log = fold waited_after false log

-- input of it is held that the core takes: it is there, and less was not taken for it than was handed over last
abbrev pub takes_input : Account → Bool
takes_input a = a.watched && (not a.sent.cut && is_held a.received)

-- what the clock showed, if the step is a look at it
abbrev pub shown_by : Step → Option (Option ℕ)
shown_by (Clocks shown) = Some shown
shown_by other = None

-- if the last step is one
abbrev pub last_shown : List Step → Option (Option ℕ)
last_shown log = fold (λ before step. shown_by step) None log

-- a moment is reported if the clock showed a time, and a fault if it could not be read
abbrev pub is_shown : Option (Option ℕ) → Result ℕ DoorFault → Bool
is_shown (Some (Some time)) (Ok moment) = true
is_shown (Some None) (Err fault) = true
is_shown other answer = false

-- if the door did not wait, input is held that the core takes, and the clock did not go on
pub record MayTell (turn : Turn) (log : List Step) : Type 0 where
  pub waits : ((socket : ℕ) → takes_input (account socket log) ≡ false) → has_waited log ≡ true
  pub ticked : has_ticked turn ≡ true → has_waited log ≡ true

-- the last step before it is a look at the clock, and the door waited if it had to
pub record IsMomentDone (wall start : ℕ) (log : List Step) (answer : Result ℕ DoorFault) : Type 0 where
  pub clock : is_shown (last_shown log) answer ≡ true
  pub may : MayTell (times wall start log).turn log

-- ---- a read

-- the piece of what is held of it that a buffer of `space` bytes takes
abbrev pub held_piece : Received → (space : ℕ) → List ℕ
held_piece received space = take (min most_in_piece space) (drop (length received.handed) received.gave)

-- it is not there; or a read or a write of it failed, and nothing is held of it
abbrev pub is_failing : Account → Bool
is_failing a = not a.watched || (not (is_held a.received) && (a.sent.lost || a.received.failed))

-- of a piece of a line so many bytes are handed out: all, if no line ends in it; and not fewer lines than those at its
-- start that weigh nothing
pub record IsHandedOut (line : LineBoundary) (piece : List ℕ) (count : ℕ) : Type 0 where
  pub begun : lines piece ≡ 0 → count ≡ length piece
  pub light : (n : ℕ) → n ≤ length piece → weight_of line (take n piece) ≡ 0
      → lines (take n piece) ≤ lines (take count piece)

-- a fault
abbrev pub is_fault : Result Got DoorFault → Bool
is_fault (Ok got) = false
is_fault (Err fault) = true

-- the end of a peer
abbrev pub is_end : Result Got DoorFault → Bool
is_end (Ok got.Ended) = true
is_end other = false

-- it is there and sound; its end was found, all that came was handed out, its socket took all, and a whole visit behind
-- that had no more for it
abbrev pub is_leaving : ℕ → List Step → Bool
is_leaving who log = (may_end (account who log) && not (is_failing (account who log))) && is_settled (ending_of who log)

-- a read in a turn that is not late. It reports a fault of who is failing, and the end of who is leaving, if the turn
-- reported no other end. If input of it is held, that is handed out, and no end is reported
pub record IsReadDone (wall start : ℕ) (log : List Step) (who : ℕ) (answer : Result Got DoorFault) (buffer : List ℕ)
    : Type 0 where
  pub told : (times wall start log).turn.may_report_end ≡ true → is_failing (account who log) ≡ true
      → is_fault answer ≡ true
  pub ended : (times wall start log).turn.may_report_end ≡ true → is_leaving who log ≡ true → is_end answer ≡ true
  pub held : (account who log).watched ≡ true → is_held (account who log).received ≡ true → reports_end answer ≡ false
  pub handed : (account who log).watched ≡ true → is_held (account who log).received ≡ true
      → IsHandedOut ((times wall start log).lines who) (held_piece (account who log).received (length buffer))
      (length (got_bytes answer buffer))

-- ---- each step

-- what is done when the step is made, at a door whose waits have that limit, if any
abbrev pub IsDone : (limit : Option ℕ) (wall start : ℕ) → List Step → Step → Type 0
IsDone limit wall start log (Waits most count ready) = IsWaitDone wall start log × IsBriefOverWork wall start log most
    × (length ready ≡ most_ready) × (limit ≡ None → IsLongEnough wall start log most)
IsDone limit wall start log (Answers (NowCall answer)) = IsMomentDone wall start log answer
IsDone limit wall start log (Answers (ReadCall who answer buffer)) =
    (times wall start log).turn.late ≡ false → IsReadDone wall start log who answer buffer
IsDone limit wall start log other = ⊤

-- so it was each time
abbrev pub AreDone : (limit : Option ℕ) (wall start : ℕ) → List Step → Type 0
AreDone limit wall start log = (before after : List Step) (step : Step) → log ≡ before ++ step ∷ after
    → IsDone limit wall start before step

IsDone-prop : (limit : Option ℕ) (wall start : ℕ) (log : List Step) (step : Step)
    → IsProp (IsDone limit wall start log step)
IsDone-prop limit wall start log (Accepts number answer) = hlevel props
IsDone-prop limit wall start log (Reads who buffer answer) = hlevel props
IsDone-prop limit wall start log (Writes who bytes answer) = hlevel props
IsDone-prop limit wall start log (Waits most count ready) = hlevel props
IsDone-prop limit wall start log (Shuts who) = hlevel props
IsDone-prop limit wall start log (Closes who) = hlevel props
IsDone-prop limit wall start log (Clocks answer) = hlevel props
IsDone-prop limit wall start log (Answers (ExpectCall due slack)) = hlevel props
IsDone-prop limit wall start log (Answers (NowCall answer)) = hlevel props
IsDone-prop limit wall start log (Answers (AcceptCall answer)) = hlevel props
IsDone-prop limit wall start log (Answers (ReadCall who answer buffer)) = hlevel props
IsDone-prop limit wall start log (Answers (WriteCall who bytes answer)) = hlevel props
IsDone-prop limit wall start log (Answers (CloseCall who answer)) = hlevel props

pub AreDone-prop : (limit : Option ℕ) (wall start : ℕ) (log : List Step) → IsProp (AreDone limit wall start log)
AreDone-prop limit wall start log = hlevel (props, IsDone-prop)
