-- When it is, how long the door waits, and what it hands out meanwhile.
use Rattle.std.specs.Prelude.{◌≡◌, ℕ, ◌+◌, ◌==◌, ◌&&◌, ◌||◌, nat_le, Bool, true, false, not, if◌then◌else◌, List, fold}
use Rattle.std.specs.Prelude.{Option, Some, None, Result, Ok, Err}
use Rattle.std.specs.Option.{option_map_or}
use Rattle.srcp_door.specs.Pacing.{fits, line_after, weight_of}
use Rattle.srcp_door.specs.declared.pacing.LineBoundary.{LineBoundary}
use Rattle.srcp_door.specs.declared.pacing.LineBoundary.TheVariants.{At}
use Rattle.srcp_door.specs.declared.door.DoorFault.{DoorFault}
use Rattle.srcp_door.specs.declared.door.DoorFault.TheVariants.{Accept}
use Rattle.srcp_door.specs.declared.door.Got.{Got}
use Rattle.srcp_door.specs.Calls.{Call, NowCall, AcceptCall, ReadCall}
use Rattle.std.specs.declared.io.ErrorKind.{ErrorKind}
use Rattle.srcp_peers.specs.declared.system.IoFailure.{IoFailure}
use Rattle.srcp_peers.specs.declared.system.IoFailure.TheVariants.{WouldBlock, Interrupted, Fatal}
use Rattle.srcp_peers.specs.declared.turn.Turn.{Turn}
use Rattle.srcp_peers.specs.Accounts.{is_short_wait}
use Rattle.srcp_peers.specs.Steps.{Step, Accepts, Clocks, Answers, Waits, failure_of}
use Rattle.srcp_peers.specs.Turns.{after_call, after_read, after_wait, begun, first_turn, got_bytes, hands_out}
use Rattle.srcp_peers.specs.Turns.{is_pending, moment_at, reports_end, time_left, reported_at}

pub record Times : Type 0 where
  pub turn : Turn  -- the turn, by the calls so far
  pub clock : ℕ  -- what the monotonic clock showed last; 0 before it is read
  pub waits : ℕ  -- how often the door waited
  pub fresh : Bool  -- the clock was read since a moment was answered last
  pub exact : Bool  -- each moment was the one that was to be reported, by a clock that was read since the one before
  pub punctual : Bool  -- no wait ended past what falls due
  pub patient : Bool  -- each long wait came after a turn in which nothing happened, or there was no panel
  pub prompt : Bool  -- no input was handed out in a turn that was late
  pub lines : ℕ → LineBoundary  -- the line of each socket that is being handed out
  pub paced : Bool  -- the lines that were handed out weighed no more than might go
  pub single : Bool  -- the end of one peer was reported in each turn at most
  pub heard : Option (Result (Option ℕ) DoorFault)  -- what `accept` is to answer, if the system was asked since
  pub honest : Bool  -- `accept` answered that

abbrev pub first_times : (wall start : ℕ) → Times
first_times wall start = record {
  turn = first_turn wall start;
  clock = 0;
  waits = 0;
  fresh = false;
  exact = true;
  punctual = true;
  patient = true;
  prompt = true;
  lines = λ socket. At;
  paced = true;
  single = true;
  heard = None;
  honest = true;
}

-- a wait that ends after `left` milliseconds at most
abbrev pub ends_by : ℕ → Option ℕ → Bool
ends_by left None = false
ends_by left (Some most) = nat_le most left

-- a wait that ends before something falls due
abbrev pub in_time : Turn → Option ℕ → Bool
in_time turn most = option_map_or (λ left. ends_by left most) (time_left turn) true

abbrev pub answered_moment : Times → Result ℕ DoorFault → Times
answered_moment t (Ok moment) = record t {
  turn = reported_at t.turn t.clock moment;
  fresh = false;
  exact = t.exact && (t.fresh && (moment == moment_at t.turn t.clock));
}
answered_moment t (Err fault) = record t { turn = begun t.turn false; fresh = false }

-- the line of each socket after a read
abbrev pub lines_after : (ℕ → LineBoundary) → (who : ℕ) → Result Got DoorFault → List ℕ → (socket : ℕ) → LineBoundary
lines_after lines who answer buffer socket =
    if who == socket then line_after (lines socket) (got_bytes answer buffer) else lines socket

abbrev pub answered_read : Times → (who : ℕ) → Result Got DoorFault → List ℕ → Times
answered_read t who answer buffer = record t {
  turn = after_read t.turn (t.lines who) answer buffer;
  prompt = t.prompt && not (t.turn.late && hands_out answer);
  lines = lines_after t.lines who answer buffer;
  paced = t.paced && fits t.turn.pace (weight_of (t.lines who) (got_bytes answer buffer));
  single = t.single && (not (reports_end answer) || t.turn.may_report_end);
}

-- what `accept` is to answer, if an accept of the system failed
abbrev pub failed_accept : IoFailure → Result (Option ℕ) DoorFault
failed_accept WouldBlock = Ok None
failed_accept Interrupted = Ok None
failed_accept Fatal = Err Accept

-- and if it answered so
abbrev pub accept_answer : (number : ℕ) → Result Unit ErrorKind → Result (Option ℕ) DoorFault
accept_answer number (Ok done) = Ok (Some number)
accept_answer number (Err fault) = failed_accept (failure_of fault)

-- that was answered. If the system was not asked, nobody came, or it was a fault
abbrev pub is_as_heard : (heard : Option (Result (Option ℕ) DoorFault)) → Result (Option ℕ) DoorFault → Bool
is_as_heard (Some (Ok (Some number))) (Ok (Some peer)) = number == peer
is_as_heard (Some (Ok None)) (Ok None) = true
is_as_heard (Some (Err said)) (Err fault) = true
is_as_heard None (Ok None) = true
is_as_heard None (Err fault) = true
is_as_heard heard answer = false

abbrev pub answered_accept : Times → Result (Option ℕ) DoorFault → Times
answered_accept t answer = record t {
  turn = after_call t.turn (AcceptCall answer);
  heard = None;
  honest = t.honest && is_as_heard t.heard answer;
}

abbrev pub answered_times : Times → Call → Times
answered_times t (NowCall answer) = answered_moment t answer
answered_times t (ReadCall who answer buffer) = answered_read t who answer buffer
answered_times t (AcceptCall answer) = answered_accept t answer
answered_times t other = record t { turn = after_call t.turn other }

abbrev pub clocked : Times → Option ℕ → Times
clocked t (Some time) = record t { clock = time; fresh = true }
clocked t None = t

abbrev pub times_step : Times → Step → Times
times_step t (Accepts number answer) = record t { heard = Some (accept_answer number answer) }
times_step t (Waits most count ready) = record t {
  turn = after_wait t.turn;
  waits = t.waits + 1;
  punctual = t.punctual && in_time t.turn most;
  patient = t.patient && (is_short_wait most || not (is_pending t.turn.slack t.turn.busy));
}
times_step t (Clocks answer) = clocked t answer
times_step t (Answers call) = answered_times t call
times_step t other = t

-- what all steps say, if the clocks showed this at the start
abbrev pub times : (wall start : ℕ) → List Step → Times
times wall start log = fold times_step (first_times wall start) log

-- the steps that came say nothing of the time
abbrev pub KeepsTimes : (old new : List Step) → Type 0
KeepsTimes old new = (wall start : ℕ) → times wall start new ≡ times wall start old
