-- What a turn is after a call of the door.
use Rattle.std.specs.Prelude.{ℕ, ◌+◌, ◌-◌, ◌*◌, ◌/◌, ◌==◌, ◌||◌, ◌&&◌, nat_le, nat_lt}
use Rattle.std.specs.Prelude.{Bool, true, false, not, cond, min, max}
use Rattle.std.specs.Prelude.{List, [], take, Option, Some, None, Result, Ok, Err}
use Rattle.std.specs.Option.{option_map}
use Rattle.srcp_grammar.specs.Weight.{most_changes}
use Rattle.srcp_door.specs.Limits.{most_writes, reserve}
use Rattle.srcp_info.specs.Limits.{greatest_u64}
use Rattle.srcp_door.specs.Moments.{next_moment, passed, target, most_behind}
use Rattle.srcp_door.specs.Pacing.{is_short_pace, pace_of, spent, weight_of}
use Rattle.srcp_door.specs.declared.pacing.LineBoundary.{LineBoundary}
use Rattle.srcp_door.specs.declared.pacing.Pace.{Pace}
use Rattle.srcp_door.specs.declared.pacing.Pace.TheVariants.{Paced, OneLine}
use Rattle.srcp_door.specs.declared.door.DoorFault.{DoorFault}
use Rattle.srcp_door.specs.declared.door.Got.{Got}
use Rattle.srcp_door.specs.declared.door.Got.TheVariants as got
use Rattle.srcp_door.specs.Calls.{Call, ExpectCall, NowCall, AcceptCall, ReadCall, WriteCall, CloseCall}
use Rattle.srcp_peers.specs.declared.readiness.Flush.{Flush}
use Rattle.srcp_peers.specs.declared.readiness.Flush.TheVariants.{Again, All, Answers}
use Rattle.srcp_peers.specs.declared.turn.Turn.{Turn}
use Rattle.srcp_peers.specs.Limits.{early_part, most_twice, tick}

-- the turn that follows nothing, if the wall clock and the monotonic clock showed this at the start
abbrev pub first_turn : (wall start : ℕ) → Turn
first_turn wall start = record {
  timekeeper = record { wall = wall; start = start; last = wall };
  clock = 0;
  previous_clock = 0;
  due = None;
  slack = None;
  previous_slack = None;
  busy = true;
  late = false;
  pace = Paced 0;
  next_line = 0;
  may_report_end = false;
}

-- a call of the door after which a panel may have something coming: a peer came, was written to or was closed
abbrev pub stirs : Call → Bool
stirs (AcceptCall (Ok (Some peer))) = true
stirs (WriteCall peer bytes (Ok count)) = not (count == 0)
stirs (WriteCall peer bytes (Err fault)) = true
stirs (CloseCall peer answer) = true
stirs other = false

-- after a call other than a read and that for the moment
abbrev pub after_call : Turn → Call → Turn
after_call turn (ExpectCall due slack) = record turn { due = due; slack = slack; previous_slack = turn.slack }
after_call turn (NowCall answer) = turn
after_call turn (ReadCall peer answer buffer) = turn
after_call turn other = record turn { busy = turn.busy || stirs other }

-- ---- a read

-- the pace of a peer's lines: if others go first and not every line may go, none goes that weighs something
abbrev pub own_pace : (waits : Bool) → Pace → Pace
own_pace waits pace = cond (waits && is_short_pace pace) (Paced 0) pace

-- the bytes that it handed out
abbrev pub got_bytes : Result Got DoorFault → List ℕ → List ℕ
got_bytes (Ok (got.Bytes count)) buffer = take count buffer
got_bytes other buffer = []

-- it reported the end of a peer, or that it is lost
abbrev pub reports_end : Result Got DoorFault → Bool
reports_end (Ok got.Ended) = true
reports_end (Err fault) = true
reports_end other = false

-- after that no other is reported in the turn
abbrev pub ended : Turn → Turn
ended turn = record turn { busy = true; may_report_end = false }

-- what the clock has to show before it lets a line through, after lines of that weight were handed out at that pace: if
-- the clock let them through, which showed this, as many milliseconds more as they weigh
abbrev pub next_after : (clock next : ℕ) → Pace → (weight : ℕ) → ℕ
next_after clock next (Paced left) weight = next
next_after clock next OneLine weight = cond (weight == 0) next (min (clock + weight) greatest_u64)

-- after bytes were handed out of a peer whose line was that: what they weigh, no more may weigh
abbrev pub handed_out : Turn → LineBoundary → List ℕ → Turn
handed_out turn line bytes = record turn {
  busy = true;
  pace = spent turn.pace (weight_of line bytes);
  next_line = next_after turn.clock turn.next_line turn.pace (weight_of line bytes);
}

abbrev pub after_read : Turn → LineBoundary → Result Got DoorFault → List ℕ → Turn
after_read turn line (Ok (got.Bytes count)) buffer = handed_out turn line (take count buffer)
after_read turn line (Ok got.Nothing) buffer = turn
after_read turn line (Ok got.Ended) buffer = ended turn
after_read turn line (Err fault) buffer = ended turn

-- a wait begins the next turn
abbrev pub after_wait : Turn → Turn
after_wait turn = record turn { busy = false }

-- ---- the moment

-- how many milliseconds the moment goes on at once if something falls due, counted from right before that: 1, so that
-- it is the moment at which that falls due; in a turn behind a late one twice as many as the clock, of which half a
-- second counts at most
abbrev pub step_at : Turn → (time : ℕ) → ℕ
step_at turn time = cond turn.late (max (2 * min (time - turn.clock) most_twice) 1) 1

-- the moment that is to be reported, if the monotonic clock shows this time: what this stands for, or a step if
-- something falls due meanwhile; at most 10 minutes are made up in such steps
abbrev pub moment_at : Turn → (time : ℕ) → ℕ
moment_at turn time =
    next_moment (step_at turn time) most_behind (passed turn.timekeeper.last (target turn.timekeeper time) turn.due)
    (target turn.timekeeper time)

-- the clock went on, and lets a line through: those that it let through before are as long ago as they weigh
abbrev pub ticks : Turn → (time : ℕ) → Bool
ticks turn time = not (time == turn.clock) && nat_le turn.next_line time

-- the moment was asked for: from then on lines of a turn's weight may be handed out, and one end be reported. What the
-- clock showed before is kept
abbrev pub begun : Turn → (tick : Bool) → Turn
begun turn tick = record turn {
  previous_clock = turn.clock;
  pace = pace_of turn.slack tick;
  may_report_end = true;
}

-- after a moment was reported; the turn is late if the moment is behind the time
abbrev pub reported_at : Turn → (time moment : ℕ) → Turn
reported_at turn time moment = record (begun turn (ticks turn time)) {
  timekeeper = record { wall = turn.timekeeper.wall; start = turn.timekeeper.start; last = moment };
  clock = time;
  late = nat_lt moment (target turn.timekeeper time);
}

-- ---- the wait

-- a wait for what falls due ends earlier by a 128th
abbrev pub earlier : ℕ → ℕ
earlier left = left - left / early_part

-- how long the next wait may be, if something falls due: not at all in a turn that is late
abbrev pub time_left : Turn → Option ℕ
time_left turn = cond turn.late (Some 0) (option_map (λ due. earlier (due - turn.timekeeper.last)) turn.due)

-- something happened, and there is a panel that may have to be written to for it
abbrev pub is_pending : (slack : Option ℕ) → (stirred : Bool) → Bool
is_pending None stirred = false
is_pending (Some left) stirred = stirred

-- so few changes can a panel take that no line may go until the clock goes on
abbrev pub is_behind : (slack : Option ℕ) → Bool
is_behind None = false
is_behind (Some left) = nat_le left reserve

-- so few that not every line may go
abbrev pub is_short : (slack : Option ℕ) → Bool
is_short None = false
is_short (Some left) = nat_lt left (reserve + most_changes)

-- how many changes the panels lack for a line to go before the clock goes on; as many as a peer is written lines in a
-- visit if there is no panel
abbrev pub shortfall : (slack : Option ℕ) → ℕ
shortfall None = most_writes
shortfall (Some left) = reserve - left

-- how many lines may be queued in a visit for a peer whose socket is full: what the panels lack, if input is held
abbrev pub lines_left_of : (holds : Bool) → (slack : Option ℕ) → ℕ
lines_left_of true slack = shortfall slack
lines_left_of false slack = most_writes

-- how long a turn stands still though there is something to do: as long as the clock takes to go on, if a panel is so
-- far behind for the second turn
abbrev pub backpressure_delay : Turn → ℕ
backpressure_delay turn = cond (is_behind turn.previous_slack && is_behind turn.slack) tick 0

-- the clock went on since the turn before, or the turn stands still until it does
abbrev pub has_ticked : Turn → Bool
has_ticked turn = not (turn.clock == turn.previous_clock) || nat_lt 0 (backpressure_delay turn)

-- what is flushed: all once the clock went on, and before a wait for more than what is ready; the sockets that took no
-- more are tried again then if not every line may go
abbrev pub flushing : (ticked held : Bool) → Turn → Flush
flushing true held turn = cond (is_short turn.slack) Again All
flushing false held turn = cond (held || is_pending turn.slack turn.busy) Answers All

-- a read that handed out input, or reported its end
abbrev pub hands_out : Result Got DoorFault → Bool
hands_out (Ok (got.Bytes count)) = true
hands_out (Ok got.Ended) = true
hands_out other = false
