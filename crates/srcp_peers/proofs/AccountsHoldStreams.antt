-- An account of a socket holds the streams that its steps carried.
use Rattle.std.proofs.Common.{◌≡◌, ◌∙◌, ℕ, Bool, true, false, List, [], ◌∷◌, ◌++◌, length, take, refl, ap, sym, ◌==◌, if◌then◌else◌}
use Rattle.std.proofs.Common.{Ok, Err, append-nil, append_assoc}
use Rattle.std.specs.Prelude.{◌||◌, nat_lt, Result, flat_map, fold}
use Rattle.std.specs.declared.io.ErrorKind.{ErrorKind}
use Rattle.srcp_door.specs.declared.door.Got.TheVariants as got
use Rattle.srcp_peers.specs.declared.system.Ready.{Ready}
use Rattle.srcp_peers.specs.declared.system.IoFailure.{IoFailure}
use Rattle.srcp_peers.specs.declared.system.IoFailure.TheVariants.{WouldBlock, Interrupted, Fatal}
use Rattle.srcp_door.specs.Calls.{Call, ExpectCall, NowCall, AcceptCall, ReadCall, WriteCall, CloseCall}
use Rattle.srcp_peers.specs.Steps.{Accepts, Clocks, Closes, Reads, Shuts, Step, Answers, Waits, Writes, calls, failure_of}
use Rattle.srcp_peers.specs.Accounts.{Account, accepted, account, account_step, closed, heard, heard_failure}
use Rattle.srcp_peers.specs.Accounts.{failed_read, failed_write, shut_down, untouched, waited, woken, woken_came, woken_sent, wrote}
use Rattle.srcp_peers.specs.Accounts.{read_of}
use Rattle.srcp_peers.specs.Streams.{gave, gave_in, handed, handed_in, taken, taken_in, took, took_in}

-- the four lists
abbrev lists : Account → (List ℕ × List ℕ) × (List ℕ × List ℕ)
lists a = ((a.sent.written, a.sent.took), (a.received.gave, a.received.handed))

-- ---- a list that grows with each step

grown : (pr : Account → List ℕ) (more : Step → List ℕ) (socket : ℕ)
    → ((a : Account) (step : Step) → pr (account_step socket a step) ≡ pr a ++ more step)
    → (a : Account) (log : List Step) → pr (fold (account_step socket) a log) ≡ pr a ++ flat_map more log
grown pr more socket one a [] = sym (append-nil (pr a))
grown pr more socket one a (step ∷ log) = grown pr more socket one (account_step socket a step) log
    ∙ ap (λ xs. xs ++ flat_map more log) (one a step) ∙ append_assoc (pr a) (more step) (flat_map more log)

-- the calls of the door alone
abbrev pub in_call : (Call → List ℕ) → Step → List ℕ
in_call f (Answers call) = f call
in_call f other = []

pub by_calls : (f : Call → List ℕ) (log : List Step) → flat_map (in_call f) log ≡ flat_map f (calls log)
by_calls f [] = refl
by_calls f (Answers call ∷ log) = ap (λ xs. f call ++ xs) (by_calls f log)
by_calls f (Accepts number answer ∷ log) = by_calls f log
by_calls f (Reads who buffer answer ∷ log) = by_calls f log
by_calls f (Writes who bytes answer ∷ log) = by_calls f log
by_calls f (Waits most count ready ∷ log) = by_calls f log
by_calls f (Shuts who ∷ log) = by_calls f log
by_calls f (Closes who ∷ log) = by_calls f log
by_calls f (Clocks answer ∷ log) = by_calls f log

-- ---- steps that leave a list as it is

same_more : (xs ys : List ℕ) → xs ≡ ys → xs ≡ ys ++ []
same_more xs ys e = e ∙ sym (append-nil ys)

-- all but the lists
pub if_same : {X : Type 0} (pr : Account → X) (b : Bool) (x a : Account) → pr x ≡ pr a → pr (if b then x else a) ≡ pr a
if_same pr true x a e = e
if_same pr false x a e = refl

if_more : (pr : Account → List ℕ) (b : Bool) (x a : Account) (more : List ℕ) → pr x ≡ pr a ++ more → pr
    (if b then x else a) ≡ pr a ++ (if b then more else [])
if_more pr true x a more e = e
if_more pr false x a more e = sym (append-nil (pr a))

woken_lists : (socket : ℕ) (a : Account) (ready : List Ready) → lists (fold (woken socket) a ready) ≡ lists a
woken_lists socket a [] = refl
woken_lists socket a (one ∷ more) = woken_lists socket (woken socket a one) more
    ∙ if_same lists (one.socket == socket) (record a {
      sent = woken_sent a.sent one.writable;
      received = woken_came a.received one.readable (one.closed || one.urgent);
    }) a refl

heard_lists : (a : Account) (said : IoFailure) → lists (record a { received = heard_failure a.received said }) ≡ lists a
heard_lists a WouldBlock = refl
heard_lists a Interrupted = refl
heard_lists a Fatal = refl

accept_lists : (socket number : ℕ) (a : Account) (answer : Result Unit ErrorKind) → lists
    (account_step socket a (Accepts number answer)) ≡ lists a
accept_lists socket number a (Ok done) = by (socket == 0)
  where
    by : (b : Bool) → lists (if b then record a { received = heard a.received (Ok done) } else if number == socket then accepted a
        (Ok done) else a) ≡ lists a
    by true = refl
    by false = if_same lists (number == socket) (accepted a (Ok done)) a refl
accept_lists socket number a (Err fault) = by (socket == 0)
  where
    by : (b : Bool) → lists (if b then record a { received = heard a.received (Err fault) } else if number == socket then accepted a
        (Err fault) else a) ≡ lists a
    by true = heard_lists a (failure_of fault)
    by false = if_same lists (number == socket) (accepted a (Err fault)) a refl

refused_write_lists : (a : Account) (said : IoFailure) → lists (record a { sent = failed_write a.sent said }) ≡ lists a
refused_write_lists a WouldBlock = refl
refused_write_lists a Interrupted = refl
refused_write_lists a Fatal = refl

refused_read_lists : (a : Account) (said : IoFailure) → lists (record a { received = failed_read a.received said }) ≡ lists a
refused_read_lists a WouldBlock = refl
refused_read_lists a Interrupted = refl
refused_read_lists a Fatal = refl

-- ---- each list

took_step : (socket : ℕ) (a : Account) (step : Step) → (account_step socket a step).sent.took ≡ a.sent.took ++ took_in socket step
took_step socket a (Accepts number answer) = same_more _ a.sent.took (ap (λ l. l.0.1) (accept_lists socket number a answer))
took_step socket a (Reads who buffer answer) = same_more _ a.sent.took
    (if_same (λ (x : Account). x.sent.took) (who == socket) (read_of a buffer answer) a refl)
took_step socket a (Writes who bytes (Ok count)) = if_more (λ (x : Account). x.sent.took) (who == socket)
    (record a { sent = wrote a.sent bytes (Ok count) }) a (take count bytes) refl
took_step socket a (Writes who bytes (Err fault)) = same_more _ a.sent.took
    (if_same (λ (x : Account). x.sent.took) (who == socket) (record a { sent = wrote a.sent bytes (Err fault) }) a
    (ap (λ l. l.0.1) (refused_write_lists a (failure_of fault))))
took_step socket a (Waits most count ready) = same_more _ a.sent.took
    (ap (λ l. l.0.1) (woken_lists socket (waited socket a most) (take count ready)))
took_step socket a (Shuts who) = same_more _ a.sent.took (if_same (λ (x : Account). x.sent.took) (who == socket) (shut_down a) a refl)
took_step socket a (Closes who) = same_more _ a.sent.took (if_same (λ (x : Account). x.sent.took) (who == socket) (closed a) a refl)
took_step socket a (Clocks answer) = sym (append-nil a.sent.took)
took_step socket a (Answers (ExpectCall due slack)) = sym (append-nil a.sent.took)
took_step socket a (Answers (NowCall answer)) = sym (append-nil a.sent.took)
took_step socket a (Answers (AcceptCall answer)) = sym (append-nil a.sent.took)
took_step socket a (Answers (ReadCall who (Ok (got.Bytes count)) buffer)) = same_more _ a.sent.took
    (if_same (λ (x : Account). x.sent.took) (who == socket) _ a refl)
took_step socket a (Answers (ReadCall who (Ok got.Ended) buffer)) = same_more _ a.sent.took
    (if_same (λ (x : Account). x.sent.took) (who == socket) _ a refl)
took_step socket a (Answers (ReadCall who (Ok got.Nothing) buffer)) = sym (append-nil a.sent.took)
took_step socket a (Answers (ReadCall who (Err fault) buffer)) = same_more _ a.sent.took
    (if_same (λ (x : Account). x.sent.took) (who == socket) _ a refl)
took_step socket a (Answers (WriteCall who bytes (Ok count))) = same_more _ a.sent.took
    (if_same (λ (x : Account). x.sent.took) (who == socket) _ a refl)
took_step socket a (Answers (WriteCall who bytes (Err fault))) = same_more _ a.sent.took
    (if_same (λ (x : Account). x.sent.took) (who == socket) _ a refl)
took_step socket a (Answers (CloseCall who answer)) = same_more _ a.sent.took
    (if_same (λ (x : Account). x.sent.took) (who == socket) _ a refl)

gave_step : (socket : ℕ) (a : Account) (step : Step) → (account_step socket a step).received.gave ≡ a.received.gave ++ gave_in socket step
gave_step socket a (Accepts number answer) = same_more _ a.received.gave (ap (λ l. l.1.0) (accept_lists socket number a answer))
gave_step socket a (Writes who bytes answer) = same_more _ a.received.gave
    (if_same (λ (x : Account). x.received.gave) (who == socket) (record a { sent = wrote a.sent bytes answer }) a refl)
gave_step socket a (Reads who buffer (Ok count)) = if_more (λ (x : Account). x.received.gave) (who == socket)
    (read_of a buffer (Ok count)) a (take count buffer) refl
gave_step socket a (Reads who buffer (Err fault)) = same_more _ a.received.gave
    (if_same (λ (x : Account). x.received.gave) (who == socket) (read_of a buffer (Err fault)) a
    (ap (λ l. l.1.0) (refused_read_lists a (failure_of fault))))
gave_step socket a (Waits most count ready) = same_more _ a.received.gave
    (ap (λ l. l.1.0) (woken_lists socket (waited socket a most) (take count ready)))
gave_step socket a (Shuts who) = same_more _ a.received.gave
    (if_same (λ (x : Account). x.received.gave) (who == socket) (shut_down a) a refl)
gave_step socket a (Closes who) = same_more _ a.received.gave (if_same (λ (x : Account). x.received.gave) (who == socket) (closed a) a refl)
gave_step socket a (Clocks answer) = sym (append-nil a.received.gave)
gave_step socket a (Answers (ExpectCall due slack)) = sym (append-nil a.received.gave)
gave_step socket a (Answers (NowCall answer)) = sym (append-nil a.received.gave)
gave_step socket a (Answers (AcceptCall answer)) = sym (append-nil a.received.gave)
gave_step socket a (Answers (ReadCall who (Ok (got.Bytes count)) buffer)) = same_more _ a.received.gave
    (if_same (λ (x : Account). x.received.gave) (who == socket) _ a refl)
gave_step socket a (Answers (ReadCall who (Ok got.Ended) buffer)) = same_more _ a.received.gave
    (if_same (λ (x : Account). x.received.gave) (who == socket) _ a refl)
gave_step socket a (Answers (ReadCall who (Ok got.Nothing) buffer)) = sym (append-nil a.received.gave)
gave_step socket a (Answers (ReadCall who (Err fault) buffer)) = same_more _ a.received.gave
    (if_same (λ (x : Account). x.received.gave) (who == socket) _ a refl)
gave_step socket a (Answers (WriteCall who bytes (Ok count))) = same_more _ a.received.gave
    (if_same (λ (x : Account). x.received.gave) (who == socket) _ a refl)
gave_step socket a (Answers (WriteCall who bytes (Err fault))) = same_more _ a.received.gave
    (if_same (λ (x : Account). x.received.gave) (who == socket) _ a refl)
gave_step socket a (Answers (CloseCall who answer)) = same_more _ a.received.gave
    (if_same (λ (x : Account). x.received.gave) (who == socket) _ a refl)

written_step : (socket : ℕ) (a : Account) (step : Step) → (account_step socket a step).sent.written ≡ a.sent.written ++ in_call
    (taken_in socket) step
written_step socket a (Accepts number answer) = same_more _ a.sent.written (ap (λ l. l.0.0) (accept_lists socket number a answer))
written_step socket a (Reads who buffer answer) = same_more _ a.sent.written
    (if_same (λ (x : Account). x.sent.written) (who == socket) (read_of a buffer answer) a refl)
written_step socket a (Writes who bytes (Ok count)) = same_more _ a.sent.written
    (if_same (λ (x : Account). x.sent.written) (who == socket) (record a { sent = wrote a.sent bytes (Ok count) }) a refl)
written_step socket a (Writes who bytes (Err fault)) = same_more _ a.sent.written
    (if_same (λ (x : Account). x.sent.written) (who == socket) (record a { sent = wrote a.sent bytes (Err fault) }) a
    (ap (λ l. l.0.0) (refused_write_lists a (failure_of fault))))
written_step socket a (Waits most count ready) = same_more _ a.sent.written
    (ap (λ l. l.0.0) (woken_lists socket (waited socket a most) (take count ready)))
written_step socket a (Shuts who) = same_more _ a.sent.written
    (if_same (λ (x : Account). x.sent.written) (who == socket) (shut_down a) a refl)
written_step socket a (Closes who) = same_more _ a.sent.written
    (if_same (λ (x : Account). x.sent.written) (who == socket) (closed a) a refl)
written_step socket a (Clocks answer) = sym (append-nil a.sent.written)
written_step socket a (Answers (ExpectCall due slack)) = sym (append-nil a.sent.written)
written_step socket a (Answers (NowCall answer)) = sym (append-nil a.sent.written)
written_step socket a (Answers (AcceptCall answer)) = sym (append-nil a.sent.written)
written_step socket a (Answers (ReadCall who (Ok (got.Bytes count)) buffer)) = same_more _ a.sent.written
    (if_same (λ (x : Account). x.sent.written) (who == socket) _ a refl)
written_step socket a (Answers (ReadCall who (Ok got.Ended) buffer)) = same_more _ a.sent.written
    (if_same (λ (x : Account). x.sent.written) (who == socket) _ a refl)
written_step socket a (Answers (ReadCall who (Ok got.Nothing) buffer)) = sym (append-nil a.sent.written)
written_step socket a (Answers (ReadCall who (Err fault) buffer)) = same_more _ a.sent.written
    (if_same (λ (x : Account). x.sent.written) (who == socket) _ a refl)
written_step socket a (Answers (WriteCall who bytes (Ok count))) = if_more (λ (x : Account). x.sent.written) (who == socket)
    (record a { sent = record a.sent { written = a.sent.written ++ take count bytes; cut = nat_lt count (length bytes) } }) a
    (take count bytes) refl
written_step socket a (Answers (WriteCall who bytes (Err fault))) = same_more _ a.sent.written
    (if_same (λ (x : Account). x.sent.written) (who == socket) _ a refl)
written_step socket a (Answers (CloseCall who answer)) = same_more _ a.sent.written
    (if_same (λ (x : Account). x.sent.written) (who == socket) _ a refl)

handed_step : (socket : ℕ) (a : Account) (step : Step) → (account_step socket a step).received.handed ≡ a.received.handed ++ in_call
    (handed_in socket) step
handed_step socket a (Accepts number answer) = same_more _ a.received.handed (ap (λ l. l.1.1) (accept_lists socket number a answer))
handed_step socket a (Writes who bytes answer) = same_more _ a.received.handed
    (if_same (λ (x : Account). x.received.handed) (who == socket) (record a { sent = wrote a.sent bytes answer }) a refl)
handed_step socket a (Reads who buffer (Ok count)) = same_more _ a.received.handed
    (if_same (λ (x : Account). x.received.handed) (who == socket) (read_of a buffer (Ok count)) a refl)
handed_step socket a (Reads who buffer (Err fault)) = same_more _ a.received.handed
    (if_same (λ (x : Account). x.received.handed) (who == socket) (read_of a buffer (Err fault)) a
    (ap (λ l. l.1.1) (refused_read_lists a (failure_of fault))))
handed_step socket a (Waits most count ready) = same_more _ a.received.handed
    (ap (λ l. l.1.1) (woken_lists socket (waited socket a most) (take count ready)))
handed_step socket a (Shuts who) = same_more _ a.received.handed
    (if_same (λ (x : Account). x.received.handed) (who == socket) (shut_down a) a refl)
handed_step socket a (Closes who) = same_more _ a.received.handed
    (if_same (λ (x : Account). x.received.handed) (who == socket) (closed a) a refl)
handed_step socket a (Clocks answer) = sym (append-nil a.received.handed)
handed_step socket a (Answers (ExpectCall due slack)) = sym (append-nil a.received.handed)
handed_step socket a (Answers (NowCall answer)) = sym (append-nil a.received.handed)
handed_step socket a (Answers (AcceptCall answer)) = sym (append-nil a.received.handed)
handed_step socket a (Answers (ReadCall who (Ok (got.Bytes count)) buffer)) = if_more (λ (x : Account). x.received.handed) (who == socket)
    (record a { received = record a.received { handed = a.received.handed ++ take count buffer } }) a (take count buffer) refl
handed_step socket a (Answers (ReadCall who (Ok got.Ended) buffer)) = same_more _ a.received.handed
    (if_same (λ (x : Account). x.received.handed) (who == socket) _ a refl)
handed_step socket a (Answers (ReadCall who (Ok got.Nothing) buffer)) = sym (append-nil a.received.handed)
handed_step socket a (Answers (ReadCall who (Err fault) buffer)) = same_more _ a.received.handed
    (if_same (λ (x : Account). x.received.handed) (who == socket) _ a refl)
handed_step socket a (Answers (WriteCall who bytes (Ok count))) = same_more _ a.received.handed
    (if_same (λ (x : Account). x.received.handed) (who == socket) _ a refl)
handed_step socket a (Answers (WriteCall who bytes (Err fault))) = same_more _ a.received.handed
    (if_same (λ (x : Account). x.received.handed) (who == socket) _ a refl)
handed_step socket a (Answers (CloseCall who answer)) = same_more _ a.received.handed
    (if_same (λ (x : Account). x.received.handed) (who == socket) _ a refl)

-- ---- all of them

pub took_is : (socket : ℕ) (log : List Step) → (account socket log).sent.took ≡ took socket log
took_is socket log = grown (λ (a : Account). a.sent.took) (took_in socket) socket (took_step socket) untouched log

pub gave_is : (socket : ℕ) (log : List Step) → (account socket log).received.gave ≡ gave socket log
gave_is socket log = grown (λ (a : Account). a.received.gave) (gave_in socket) socket (gave_step socket) untouched log

pub taken_is : (socket : ℕ) (log : List Step) → (account socket log).sent.written ≡ taken socket log
taken_is socket log = grown (λ (a : Account). a.sent.written) (in_call (taken_in socket)) socket (written_step socket) untouched log
    ∙ by_calls (taken_in socket) log

pub handed_is : (socket : ℕ) (log : List Step) → (account socket log).received.handed ≡ handed socket log
handed_is socket log = grown (λ (a : Account). a.received.handed) (in_call (handed_in socket)) socket (handed_step socket) untouched log
    ∙ by_calls (handed_in socket) log
