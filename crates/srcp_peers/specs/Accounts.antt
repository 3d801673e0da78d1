-- What the steps so far say of one socket.
use Rattle.std.specs.Prelude.{ℕ, ◌+◌, ◌-◌, ◌==◌, ◌&&◌, ◌||◌, nat_le, nat_lt, Bool, true, false, not, cond}
use Rattle.std.specs.Prelude.{if◌then◌else◌, List, [], ◌++◌, length, take, fold, Option, Some, None, Result, Ok, Err}
use Rattle.std.specs.declared.io.ErrorKind.{ErrorKind}
use Rattle.srcp_info.specs.Limits.{most_in_piece}
use Rattle.srcp_peers.specs.declared.system.Ready.{Ready}
use Rattle.srcp_peers.specs.declared.system.IoFailure.{IoFailure}
use Rattle.srcp_peers.specs.declared.system.IoFailure.TheVariants.{WouldBlock, Interrupted, Fatal}
use Rattle.srcp_peers.specs.Steps.{Step, Accepts, Clocks, Closes, Reads, Shuts, Writes, Waits, Answers, failure_of}
use Rattle.srcp_door.specs.Calls.{Call, NowCall, ReadCall, WriteCall, CloseCall}
use Rattle.srcp_door.specs.declared.door.Got.TheVariants as got
use Rattle.srcp_peers.specs.Limits.{linger, most_outgoing, retry_delay}

-- what was sent to it
pub record Sent : Type 0 where
  pub written : List ℕ  -- what the door said it took for it
  pub took : List ℕ  -- what the socket took
  pub full : Bool  -- the last write was cut or took nothing, and since then it was not found ready for more
  pub lost : Bool  -- a write found that it takes no more
  pub cut : Bool  -- the door took less than it was last handed for it: the core has more

-- what came of it
pub record Received : Type 0 where
  pub gave : List ℕ  -- what the socket gave
  pub handed : List ℕ  -- what the door handed out of it
  pub quiet : Bool  -- a read found nothing or left space, and since then it was not found ready
  pub emptying : Bool  -- it was found closed or with urgent data, and since then no read found nothing
  pub ended : Bool  -- a read found its end
  pub failed : Bool  -- a read failed

-- how it lingers
pub record Lingering : Type 0 where
  pub clock : ℕ  -- what the monotonic clock showed last, in milliseconds; 0 until it is read
  pub since : ℕ  -- what it showed when the core closed it
  pub kept : Bool  -- it was accepted, and was not closed
  pub shut : Bool  -- its writing side was shut down
  pub rightly : Bool  -- it was shut down and closed only when it might be

pub record Account : Type 0 where
  pub sent : Sent
  pub received : Received
  pub lingering : Lingering
  pub watched : Bool  -- it was accepted, and the core did not close it
  pub honest : Bool  -- its end, or that it is lost, was reported only when it might be
  pub unread : Bool  -- a read might find something when a wait was over, with less than a piece held, and none was made
  pub served : Bool  -- no moment was reported while it was there and unread
  pub rested : Bool  -- each long wait found it at rest

-- nothing happened to it
abbrev pub untouched : Account
untouched = record {
  sent = record { written = []; took = []; full = false; lost = false; cut = false };
  received = record { gave = []; handed = []; quiet = false; emptying = false; ended = false; failed = false };
  lingering = record { clock = 0; since = 0; kept = false; shut = false; rightly = true };
  watched = false;
  unread = false;
  served = true;
  honest = true;
  rested = true;
}

-- ---- when it may be waited for

-- something was taken for it that its socket did not take
abbrev pub is_owed : Sent → Bool
is_owed sent = nat_lt (length sent.took) (length sent.written)

-- as much is queued as may be
abbrev pub is_full : Sent → Bool
is_full sent = length sent.took + most_outgoing == length sent.written

-- something came of it that was not handed out
abbrev pub is_held : Received → Bool
is_held received = nat_lt (length received.handed) (length received.gave)

-- nothing is to be handed out or reported of it, and its socket has none: its end is reported once all is taken
abbrev pub has_nothing : Received → (owed : Bool) → Bool
has_nothing received owed = not (is_held received) && ((received.quiet && (not received.ended && not received.failed))
    || (received.ended && owed))

-- nothing happens to it unless its socket is found ready: all that was taken for it was taken by the socket, or that
-- was found to take no more since; and if the core has more for it, so that it takes nothing of it, there is no space
-- for more, and else there is nothing of it
abbrev pub is_at_rest : Sent → Received → Bool
is_at_rest sent received = not sent.lost && ((not (is_owed sent) || sent.full) && cond sent.cut (is_full sent)
    (has_nothing received (is_owed sent)))

-- its end may be reported: a read found it, all that came was handed out, and its socket took all that was taken for it
abbrev pub may_end : Account → Bool
may_end a = a.received.ended && (not (is_held a.received) && not (is_owed a.sent))

-- a read of it may be reported as failed: a read or a write of its socket failed, or it is not there
abbrev pub may_fail : Account → Bool
may_fail a = not a.watched || (a.received.failed || a.sent.lost)

-- a wait that ends by itself, and soon
abbrev pub is_short_wait : Option ℕ → Bool
is_short_wait None = false
is_short_wait (Some most) = nat_le most retry_delay

-- ---- when it may be shut down and closed

-- the core closed it, and its socket is not closed
abbrev pub is_lingering : Account → Bool
is_lingering a = not a.watched && a.lingering.kept

-- a peer that the core closed then lingers no longer now
abbrev pub is_overdue : (clock since : ℕ) → Bool
is_overdue clock since = nat_le linger (clock - since)

-- once: all that was taken for it was taken by the socket
abbrev pub may_shut : Account → Bool
may_shut a = is_lingering a && (not a.lingering.shut && not (is_owed a.sent))

-- once: so it was, and it was shut down; or a write found that it takes no more; or its time is over
abbrev pub may_close : Account → Bool
may_close a = is_lingering a
    && ((a.lingering.shut && not (is_owed a.sent)) || (a.sent.lost || is_overdue a.lingering.clock a.lingering.since))

-- ---- what a step says

abbrev pub failed_write : Sent → IoFailure → Sent
failed_write sent WouldBlock = record sent { full = true }
failed_write sent Interrupted = record sent { full = false }
failed_write sent Fatal = record sent { lost = true }

abbrev pub wrote : Sent → List ℕ → Result ℕ ErrorKind → Sent
wrote sent bytes (Ok count) = record sent {
  took = sent.took ++ take count bytes;
  full = nat_lt count (length bytes);
  lost = sent.lost || (count == 0);
}
wrote sent bytes (Err fault) = failed_write sent (failure_of fault)

abbrev pub failed_read : Received → IoFailure → Received
failed_read received WouldBlock = record received { quiet = true; emptying = false }
failed_read received Interrupted = received
failed_read received Fatal = record received { failed = true }

abbrev pub read_in : Received → List ℕ → Result ℕ ErrorKind → Received
read_in received buffer (Ok count) = record received {
  gave = received.gave ++ take count buffer;
  quiet = not received.emptying && nat_lt count (length buffer);
  ended = received.ended || (count == 0);
}
read_in received buffer (Err fault) = failed_read received (failure_of fault)

abbrev pub read_of : Account → List ℕ → Result ℕ ErrorKind → Account
read_of a buffer answer = record a { received = read_in a.received buffer answer; unread = false }

abbrev pub woken_sent : Sent → Bool → Sent
woken_sent sent writable = record sent { full = sent.full && not writable }

abbrev pub woken_came : Received → (readable closed : Bool) → Received
woken_came received readable closed = record received {
  quiet = received.quiet && not (readable || closed);
  emptying = received.emptying || closed;
}

abbrev pub woken : ℕ → Account → Ready → Account
woken socket a ready = if ready.socket == socket then record a {
  sent = woken_sent a.sent ready.writable;
  received = woken_came a.received ready.readable (ready.closed || ready.urgent);
} else a

-- a wait begins: a long one is for peers at rest. The listener, which is socket 0, is always open
abbrev pub waited : ℕ → Account → Option ℕ → Account
waited socket a most = record a {
  rested = a.rested && (not (a.watched || (socket == 0)) || (is_short_wait most || is_at_rest a.sent a.received));
}

-- a read may find something, and less than a piece is held
abbrev pub is_wanted : Received → Bool
is_wanted received = (not received.quiet && (not received.ended && not received.failed))
    && nat_lt (length received.gave) (length received.handed + most_in_piece)

-- a wait is over
abbrev pub noted : Account → Account
noted a = record a { unread = is_wanted a.received }

-- a pending connection is accepted: its socket may have something and take something
abbrev pub accepted : Account → Result Unit ErrorKind → Account
accepted a (Ok done) = record a {
  sent = record a.sent { full = false; lost = false; cut = false };
  received = record a.received { quiet = false; emptying = false; ended = false; failed = false };
  lingering = record a.lingering { kept = true; shut = false };
  watched = true;
  unread = false;
}
accepted a (Err fault) = a

-- what the listener said
abbrev pub heard_failure : Received → IoFailure → Received
heard_failure received WouldBlock = record received { quiet = true }
heard_failure received other = received

abbrev pub heard : Received → Result Unit ErrorKind → Received
heard received (Ok done) = received
heard received (Err fault) = heard_failure received (failure_of fault)

-- the core closes it
abbrev pub left_by_core : Account → Account
left_by_core a = record a {
  watched = false;
  lingering = record a.lingering { since = cond a.watched a.lingering.clock a.lingering.since };
}

-- it is shut down
abbrev pub shut_down : Account → Account
shut_down a = record a { lingering = record a.lingering { shut = true; rightly = a.lingering.rightly && may_shut a } }

-- it is closed
abbrev pub closed : Account → Account
closed a = record a { lingering = record a.lingering { kept = false; rightly = a.lingering.rightly && may_close a } }

-- a clock was read
abbrev pub clock_after : ℕ → Option ℕ → ℕ
clock_after clock (Some time) = time
clock_after clock None = clock

abbrev pub clocked : Account → Option ℕ → Account
clocked a answer = record a { lingering = record a.lingering { clock = clock_after a.lingering.clock answer } }

-- what an answer of the door says
abbrev pub answered_step : ℕ → Account → Call → Account
answered_step socket a (ReadCall who (Ok (got.Bytes count)) buffer) =
    if who == socket then record a {
      received = record a.received { handed = a.received.handed ++ take count buffer };
    } else a
answered_step socket a (ReadCall who (Ok got.Ended) buffer) = if who == socket
    then record a { honest = a.honest && may_end a } else a
answered_step socket a (ReadCall who (Err fault) buffer) = if who == socket
    then record a { honest = a.honest && may_fail a } else a
answered_step socket a (WriteCall who bytes (Ok count)) =
    if who == socket then record a {
      sent = record a.sent { written = a.sent.written ++ take count bytes; cut = nat_lt count (length bytes) };
    } else a
answered_step socket a (WriteCall who bytes (Err fault)) = if who == socket
    then record a { honest = a.honest && not a.watched } else a
answered_step socket a (CloseCall who answer) = if who == socket then left_by_core a else a
answered_step socket a (NowCall answer) = record a { served = a.served && not (a.watched && a.unread) }
answered_step socket a other = a

abbrev pub account_step : ℕ → Account → Step → Account
account_step socket a (Accepts number answer) =
    if socket == 0 then record a { received = heard a.received answer } else if number == socket then accepted a answer
    else a
account_step socket a (Reads who buffer answer) = if who == socket
    then read_of a buffer answer else a
account_step socket a (Writes who bytes answer) = if who == socket then record a { sent = wrote a.sent bytes answer }
    else a
account_step socket a (Waits most count ready) = noted (fold (woken socket) (waited socket a most) (take count ready))
account_step socket a (Shuts who) = if who == socket then shut_down a else a
account_step socket a (Closes who) = if who == socket then closed a else a
account_step socket a (Clocks answer) = clocked a answer
account_step socket a (Answers call) = answered_step socket a call

-- what all steps say of it
abbrev pub account : ℕ → List Step → Account
account socket log = fold (account_step socket) untouched log
