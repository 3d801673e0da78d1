-- What a door has done when it waits.
use Rattle.std.specs.Prelude.{◌≡◌, ℕ, ◌+◌, ◌==◌, ◌&&◌, ◌||◌, nat_le, nat_lt, Bool, true, false, not, List, fold}
use Rattle.std.specs.Prelude.{Option, Some, None}
use Rattle.srcp_door.specs.Calls.{NowCall}
use Rattle.srcp_peers.specs.Accounts.{Account, Received, account, is_at_rest, is_lingering, is_overdue, is_owed}
use Rattle.srcp_peers.specs.Accounts.{may_shut}
use Rattle.srcp_peers.specs.Limits.{longest_sleep, retry_delay}
use Rattle.srcp_peers.specs.Steps.{Answers, Closes, Step, Writes}
use Rattle.srcp_peers.specs.Times.{ends_by, times}
use Rattle.srcp_peers.specs.Turns.{backpressure_delay, has_ticked, is_pending, time_left}
use Rattle.srcp_log.specs.Limits.{most_lingering}

-- how many sockets were closed since a moment was reported
abbrev pub closes_after : ℕ → Step → ℕ
closes_after count (Closes who) = count + 1
closes_after count (Answers (NowCall answer)) = 0
closes_after count other = count

abbrev pub closes : List Step → ℕ
closes log = fold closes_after 0 log

-- no read of it finds anything any more: one found its end, or failed
abbrev pub has_no_more : Received → Bool
has_no_more received = received.ended || received.failed

-- it lingers, and a write found that its socket takes no more, or its time is over, or it was shut down and has no more
abbrev pub has_to_close : Account → Bool
has_to_close a = is_lingering a && (a.sent.lost
    || ((a.lingering.shut && has_no_more a.received) || is_overdue a.lingering.clock a.lingering.since))

-- a socket was written to since the door answered a call
abbrev pub written_after : ℕ → Bool → Step → Bool
written_after socket written (Writes who bytes answer) = (who == socket) || written
written_after socket written (Answers call) = false
written_after socket written other = written

abbrev pub is_written : ℕ → List Step → Bool
is_written socket log = fold (written_after socket) false log

-- what was done for a socket, if it was written to or not. It was shut down if it lingers and took all. With `all` it
-- was offered what is queued: it took all, or takes nothing now or any more, or was written to
pub record IsFlushedOut (all : Bool) (a : Account) (written : Bool) : Type 0 where
  pub shut : (may_shut a && not a.sent.lost) ≡ false
  pub offered : all ≡ true → a.lingering.kept ≡ true
      → (not (is_owed a.sent) || ((a.sent.full || a.sent.lost) || written)) ≡ true

-- so it is for each socket
abbrev pub AreFlushed : (all : Bool) → List Step → Type 0
AreFlushed all log = (socket : ℕ) → IsFlushedOut all (account socket log) (is_written socket log)

-- nothing happened since the last wait, or there is no panel
abbrev pub is_calm : (wall start : ℕ) → List Step → Bool
is_calm wall start log = let turn = (times wall start log).turn in not (is_pending turn.slack turn.busy)

-- all that is queued is flushed before a wait: the clock went on since the turn before, or the turn is calm
abbrev pub is_flush_due : (wall start : ℕ) → List Step → Bool
is_flush_due wall start log = has_ticked (times wall start log).turn || is_calm wall start log

-- nobody is left that has to be closed, or as many as may linger were since a moment was reported; and each was shut
-- down and offered what is queued
pub record IsWaitDone (wall start : ℕ) (log : List Step) : Type 0 where
  pub closed : nat_lt (closes log) most_lingering ≡ true → (socket : ℕ) → has_to_close (account socket log) ≡ false
  pub flushed : (socket : ℕ) → IsFlushedOut (is_flush_due wall start log) (account socket log) (is_written socket log)

-- it is there, and not at rest: input of it is held that the core takes, or something is to be read, written or told
abbrev pub has_work : Account → Bool
has_work a = a.watched && not (is_at_rest a.sent a.received)

-- a wait is no longer than the back-pressure delay, which is 0 or 1 ms
abbrev pub is_brief : (wall start : ℕ) → List Step → (most : Option ℕ) → Bool
is_brief wall start log most = ends_by (backpressure_delay (times wall start log).turn) most

-- so it is while there is work for a peer, and after a turn in which something happened that a panel may be told
pub record IsBriefOverWork (wall start : ℕ) (log : List Step) (most : Option ℕ) : Type 0 where
  pub peers : (socket : ℕ) → has_work (account socket log) ≡ true → is_brief wall start log most ≡ true
  pub panels : (let turn = (times wall start log).turn in is_pending turn.slack turn.busy ≡ true)
      → is_brief wall start log most ≡ true

-- ---- how long a wait is

-- each peer that is there, and the listener, which is socket 0, is at rest
abbrev pub AreAtRest : List Step → Type 0
AreAtRest log = (socket : ℕ) → ((account socket log).watched || (socket == 0)) ≡ true
    → is_at_rest (account socket log).sent (account socket log).received ≡ true

-- no socket lingers
abbrev pub NoneLingers : List Step → Type 0
NoneLingers log = (socket : ℕ) → is_lingering (account socket log) ≡ false

-- something that falls due after `left` milliseconds does so before a wait of `most` is over
abbrev pub falls_due : (left most : Option ℕ) → Bool
falls_due None most = false
falls_due (Some left) None = true
falls_due (Some left) (Some most) = nat_le left most

-- a wait goes on for so many milliseconds, if no socket is found ready
abbrev pub lasts : ℕ → (most : Option ℕ) → Bool
lasts ms None = true
lasts ms (Some most) = nat_le ms most

-- a wait of `most` has no reason to be short: nothing happened, or there is no panel; who is there is at rest, and the
-- listener; and nothing falls due before it is over
pub record IsIdle (wall start : ℕ) (log : List Step) (most : Option ℕ) : Type 0 where
  pub calm : is_calm wall start log ≡ true
  pub resting : AreAtRest log
  pub early : falls_due (time_left (times wall start log).turn) most ≡ false

-- without a reason a wait is no shorter than the retry delay, and an hour if no socket lingers
pub record IsLongEnough (wall start : ℕ) (log : List Step) (most : Option ℕ) : Type 0 where
  pub delay : IsIdle wall start log most → lasts retry_delay most ≡ true
  pub sleep : IsIdle wall start log most → NoneLingers log → lasts longest_sleep most ≡ true
