-- The accounts read the clock as the times do.
use Rattle.std.proofs.Common.{◌≡◌, ◌∙◌, ℕ, Bool, true, false, List, [], ◌∷◌, take, refl, ap, sym, ◌==◌, if◌then◌else◌, Some, None}
use Rattle.std.proofs.Common.{Ok, Err}
use Rattle.std.specs.Prelude.{◌||◌, Result, fold}
use Rattle.std.specs.declared.io.ErrorKind.{ErrorKind}
use Rattle.srcp_door.specs.declared.door.Got.TheVariants as got
use Rattle.srcp_peers.specs.declared.system.Ready.{Ready}
use Rattle.srcp_peers.specs.declared.turn.Turn.{Turn}
use Rattle.srcp_door.specs.Calls.{ExpectCall, NowCall, AcceptCall, ReadCall, WriteCall, CloseCall}
use Rattle.srcp_peers.specs.Steps.{Accepts, Clocks, Closes, Reads, Shuts, Step, Answers, Waits, Writes}
use Rattle.srcp_peers.specs.Accounts.{Account, accepted, account, account_step, clock_after, closed, heard, left_by_core, shut_down}
use Rattle.srcp_peers.specs.Accounts.{untouched}
use Rattle.srcp_peers.specs.Accounts.{waited, woken, woken_came, woken_sent, wrote, read_of}
use Rattle.srcp_log.specs.KeptTimes.{IsTimed}
use Rattle.srcp_peers.specs.Times.{Times, first_times, times_step}
use Rattle.srcp_peers.proofs.AccountsHoldStreams.{if_same}

-- what the clock showed last, after a step
abbrev clock_step : ℕ → Step → ℕ
clock_step clock (Clocks answer) = clock_after clock answer
clock_step clock other = clock

abbrev shown : Account → ℕ
shown a = a.lingering.clock

woken_clock : (socket : ℕ) (a : Account) (ready : List Ready) → shown (fold (woken socket) a ready) ≡ shown a
woken_clock socket a [] = refl
woken_clock socket a (one ∷ more) = woken_clock socket (woken socket a one) more
    ∙ if_same shown (one.socket == socket) (record a {
      sent = woken_sent a.sent one.writable;
      received = woken_came a.received one.readable (one.closed || one.urgent);
    }) a refl

accepted_clock : (a : Account) (answer : Result Unit ErrorKind) → shown (accepted a answer) ≡ shown a
accepted_clock a (Ok done) = refl
accepted_clock a (Err fault) = refl

account_clock : (socket : ℕ) (a : Account) (step : Step) → shown (account_step socket a step) ≡ clock_step (shown a) step
account_clock socket a (Accepts number answer) = by (socket == 0)
  where
    by : (b : Bool) → shown (if b then record a { received = heard a.received answer } else if number == socket then accepted a answer
        else a) ≡ shown a
    by true = refl
    by false = if_same shown (number == socket) (accepted a answer) a (accepted_clock a answer)
account_clock socket a (Reads who buffer answer) =
    if_same shown (who == socket) (read_of a buffer answer) a refl
account_clock socket a (Writes who bytes answer) = if_same shown (who == socket) (record a { sent = wrote a.sent bytes answer }) a refl
account_clock socket a (Shuts who) = if_same shown (who == socket) (shut_down a) a refl
account_clock socket a (Closes who) = if_same shown (who == socket) (closed a) a refl
account_clock socket a (Waits most count ready) = woken_clock socket (waited socket a most) (take count ready)
account_clock socket a (Clocks answer) = refl
account_clock socket a (Answers (ExpectCall due slack)) = refl
account_clock socket a (Answers (NowCall answer)) = refl
account_clock socket a (Answers (AcceptCall answer)) = refl
account_clock socket a (Answers (ReadCall who (Ok (got.Bytes count)) buffer)) = if_same shown (who == socket) _ a refl
account_clock socket a (Answers (ReadCall who (Ok got.Ended) buffer)) = if_same shown (who == socket) _ a refl
account_clock socket a (Answers (ReadCall who (Ok got.Nothing) buffer)) = refl
account_clock socket a (Answers (ReadCall who (Err fault) buffer)) = if_same shown (who == socket) _ a refl
account_clock socket a (Answers (WriteCall who bytes (Ok count))) = if_same shown (who == socket) _ a refl
account_clock socket a (Answers (WriteCall who bytes (Err fault))) = if_same shown (who == socket) _ a refl
account_clock socket a (Answers (CloseCall who answer)) = if_same shown (who == socket) (left_by_core a) a refl

times_clock : (t : Times) (step : Step) → (times_step t step).clock ≡ clock_step t.clock step
times_clock t (Accepts number answer) = refl
times_clock t (Reads who buffer answer) = refl
times_clock t (Writes who bytes answer) = refl
times_clock t (Shuts who) = refl
times_clock t (Closes who) = refl
times_clock t (Waits most count ready) = refl
times_clock t (Clocks (Some time)) = refl
times_clock t (Clocks None) = refl
times_clock t (Answers (ExpectCall due slack)) = refl
times_clock t (Answers (NowCall (Ok moment))) = refl
times_clock t (Answers (NowCall (Err fault))) = refl
times_clock t (Answers (AcceptCall answer)) = refl
times_clock t (Answers (ReadCall who answer buffer)) = refl
times_clock t (Answers (WriteCall who bytes answer)) = refl
times_clock t (Answers (CloseCall who answer)) = refl

both_clocks : (socket : ℕ) (a : Account) (t : Times) (log : List Step) → shown a ≡ t.clock
    → shown (fold (account_step socket) a log) ≡ (fold times_step t log).clock
both_clocks socket a t [] same = same
both_clocks socket a t (step ∷ log) same = both_clocks socket (account_step socket a step) (times_step t step) log
    (account_clock socket a step ∙ ap (λ c. clock_step c step) same ∙ sym (times_clock t step))

-- the account of each socket has the clock of the turn
pub clock_is : (log : List Step) (turn : Turn) (socket : ℕ) → IsTimed log turn → (account socket log).lingering.clock ≡ turn.clock
clock_is log turn socket timed =
    both_clocks socket untouched (first_times turn.timekeeper.wall turn.timekeeper.start) log refl ∙ timed.clock
