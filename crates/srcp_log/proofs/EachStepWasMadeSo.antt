-- What holds of a whole trace holds of each step when it was made.
use Rattle.std.proofs.Common.{◌≡◌, ◌∙◌, ℕ, Bool, true, false, not, List, [], ◌∷◌, ◌++◌, take, refl, ap, sym, ◌==◌, if◌then◌else◌}
use Rattle.std.proofs.Common.{Option, Ok, Err, true≢false}
use Rattle.std.specs.Prelude.{Result, ◌&&◌, ◌||◌, fold}
use Rattle.std.proofs.lemmas.List.Sums.{fold-append}
use Rattle.std.specs.declared.io.ErrorKind.{ErrorKind}
use Rattle.srcp_door.specs.declared.door.DoorFault.{DoorFault}
use Rattle.srcp_door.specs.declared.door.Got.TheVariants as got
use Rattle.srcp_peers.specs.declared.system.Ready.{Ready}
use Rattle.srcp_door.specs.Calls.{Call, ExpectCall, NowCall, AcceptCall, ReadCall, WriteCall, CloseCall}
use Rattle.srcp_peers.specs.Steps.{Accepts, Clocks, Closes, Reads, Shuts, Step, Answers, Waits, Writes}
use Rattle.srcp_peers.specs.Accounts.{Account, accepted, account, account_step, closed, heard, is_at_rest, is_short_wait}
use Rattle.srcp_peers.specs.Accounts.{may_close, may_end}
use Rattle.srcp_peers.specs.Accounts.{may_fail, may_shut, shut_down, untouched, waited, woken, woken_came, woken_sent, wrote, read_of}
use Rattle.srcp_peers.proofs.PeersStayKept.{own}
use Rattle.srcp_peers.proofs.PeersRestByAccount.{and_left, and_right}
use Rattle.srcp_peers.proofs.AccountsHoldStreams.{if_same}

-- what is judged
abbrev marks : Account → Bool × Bool × Bool × Bool
marks a = (a.honest, a.rested, a.lingering.rightly, a.served)

woken_marks : (socket : ℕ) (a : Account) (ready : List Ready) → marks (fold (woken socket) a ready) ≡ marks a
woken_marks socket a [] = refl
woken_marks socket a (one ∷ more) = woken_marks socket (woken socket a one) more
    ∙ if_same marks (one.socket == socket) (record a {
      sent = woken_sent a.sent one.writable;
      received = woken_came a.received one.readable (one.closed || one.urgent);
    }) a refl

accept_marks : (socket number : ℕ) (a : Account) (answer : Result Unit ErrorKind) → marks
    (account_step socket a (Accepts number answer)) ≡ marks a
accept_marks socket number a (Ok done) = by (socket == 0)
  where
    by : (b : Bool) → marks (if b then record a { received = heard a.received (Ok done) } else if number == socket then accepted a
        (Ok done) else a) ≡ marks a
    by true = refl
    by false = if_same marks (number == socket) (accepted a (Ok done)) a refl
accept_marks socket number a (Err fault) = by (socket == 0)
  where
    by : (b : Bool) → marks (if b then record a { received = heard a.received (Err fault) } else if number == socket then accepted a
        (Err fault) else a) ≡ marks a
    by true = refl
    by false = if_same marks (number == socket) (accepted a (Err fault)) a refl

-- a judgement that failed once fails for ever
was_honest : (b : Bool) (a : Account) (may : Bool) → (if b then record a { honest = a.honest && may } else a).honest ≡ true
    → a.honest ≡ true
was_honest true a may h = and_left a.honest may h
was_honest false a may h = h

honest_before : (socket : ℕ) (a : Account) (step : Step) → (account_step socket a step).honest ≡ true → a.honest ≡ true
honest_before socket a (Accepts number answer) h = sym (ap (λ m. m.0) (accept_marks socket number a answer)) ∙ h
honest_before socket a (Reads who buffer answer) h = sym (if_same (λ (x : Account). x.honest) (who == socket)
    (read_of a buffer answer) a refl) ∙ h
honest_before socket a (Writes who bytes answer) h = sym (if_same (λ (x : Account). x.honest) (who == socket)
    (record a { sent = wrote a.sent bytes answer }) a refl) ∙ h
honest_before socket a (Waits most count ready) h = sym (ap (λ m. m.0) (woken_marks socket (waited socket a most) (take count ready))) ∙ h
honest_before socket a (Shuts who) h = sym (if_same (λ (x : Account). x.honest) (who == socket) (shut_down a) a refl) ∙ h
honest_before socket a (Closes who) h = sym (if_same (λ (x : Account). x.honest) (who == socket) (closed a) a refl) ∙ h
honest_before socket a (Clocks answer) h = h
honest_before socket a (Answers (ExpectCall due slack)) h = h
honest_before socket a (Answers (NowCall answer)) h = h
honest_before socket a (Answers (AcceptCall answer)) h = h
honest_before socket a (Answers (ReadCall who (Ok (got.Bytes count)) buffer)) h = sym
    (if_same (λ (x : Account). x.honest) (who == socket) _ a refl) ∙ h
honest_before socket a (Answers (ReadCall who (Ok got.Ended) buffer)) h = was_honest (who == socket) a (may_end a) h
honest_before socket a (Answers (ReadCall who (Ok got.Nothing) buffer)) h = h
honest_before socket a (Answers (ReadCall who (Err fault) buffer)) h = was_honest (who == socket) a (may_fail a) h
honest_before socket a (Answers (WriteCall who bytes (Ok count))) h = sym (if_same (λ (x : Account). x.honest) (who == socket) _ a refl) ∙ h
honest_before socket a (Answers (WriteCall who bytes (Err fault))) h = was_honest (who == socket) a (not a.watched) h
honest_before socket a (Answers (CloseCall who answer)) h = sym (if_same (λ (x : Account). x.honest) (who == socket) _ a refl) ∙ h

rested_before : (socket : ℕ) (a : Account) (step : Step) → (account_step socket a step).rested ≡ true → a.rested ≡ true
rested_before socket a (Accepts number answer) h = sym (ap (λ m. m.1) (accept_marks socket number a answer)) ∙ h
rested_before socket a (Reads who buffer answer) h = sym (if_same (λ (x : Account). x.rested) (who == socket)
    (read_of a buffer answer) a refl) ∙ h
rested_before socket a (Writes who bytes answer) h = sym (if_same (λ (x : Account). x.rested) (who == socket)
    (record a { sent = wrote a.sent bytes answer }) a refl) ∙ h
rested_before socket a (Waits most count ready) h = and_left a.rested
    (not (a.watched || (socket == 0)) || (is_short_wait most || is_at_rest a.sent a.received))
    (sym (ap (λ m. m.1) (woken_marks socket (waited socket a most) (take count ready))) ∙ h)
rested_before socket a (Shuts who) h = sym (if_same (λ (x : Account). x.rested) (who == socket) (shut_down a) a refl) ∙ h
rested_before socket a (Closes who) h = sym (if_same (λ (x : Account). x.rested) (who == socket) (closed a) a refl) ∙ h
rested_before socket a (Clocks answer) h = h
rested_before socket a (Answers (ExpectCall due slack)) h = h
rested_before socket a (Answers (NowCall answer)) h = h
rested_before socket a (Answers (AcceptCall answer)) h = h
rested_before socket a (Answers (ReadCall who (Ok (got.Bytes count)) buffer)) h = sym
    (if_same (λ (x : Account). x.rested) (who == socket) _ a refl) ∙ h
rested_before socket a (Answers (ReadCall who (Ok got.Ended) buffer)) h = sym (if_same (λ (x : Account). x.rested) (who == socket) _ a refl)
    ∙ h
rested_before socket a (Answers (ReadCall who (Ok got.Nothing) buffer)) h = h
rested_before socket a (Answers (ReadCall who (Err fault) buffer)) h = sym
    (if_same (λ (x : Account). x.rested) (who == socket) _ a refl) ∙ h
rested_before socket a (Answers (WriteCall who bytes (Ok count))) h = sym (if_same (λ (x : Account). x.rested) (who == socket) _ a refl) ∙ h
rested_before socket a (Answers (WriteCall who bytes (Err fault))) h = sym
    (if_same (λ (x : Account). x.rested) (who == socket) _ a refl) ∙ h
rested_before socket a (Answers (CloseCall who answer)) h = sym (if_same (λ (x : Account). x.rested) (who == socket) _ a refl) ∙ h

rightly_before : (socket : ℕ) (a : Account) (step : Step) → (account_step socket a step).lingering.rightly ≡ true
    → a.lingering.rightly ≡ true
rightly_before socket a (Accepts number answer) h = sym (ap (λ m. m.2) (accept_marks socket number a answer)) ∙ h
rightly_before socket a (Reads who buffer answer) h = sym (if_same (λ (x : Account). x.lingering.rightly) (who == socket)
    (read_of a buffer answer) a refl) ∙ h
rightly_before socket a (Writes who bytes answer) h = sym (if_same (λ (x : Account). x.lingering.rightly) (who == socket)
    (record a { sent = wrote a.sent bytes answer }) a refl) ∙ h
rightly_before socket a (Waits most count ready) h = sym
    (ap (λ m. m.2) (woken_marks socket (waited socket a most) (take count ready))) ∙ h
rightly_before socket a (Shuts who) h = by (who == socket) h
  where
    by : (b : Bool) → (if b then shut_down a else a).lingering.rightly ≡ true → a.lingering.rightly ≡ true
    by true e = and_left a.lingering.rightly (may_shut a) e
    by false e = e
rightly_before socket a (Closes who) h = by (who == socket) h
  where
    by : (b : Bool) → (if b then closed a else a).lingering.rightly ≡ true → a.lingering.rightly ≡ true
    by true e = and_left a.lingering.rightly (may_close a) e
    by false e = e
rightly_before socket a (Clocks answer) h = h
rightly_before socket a (Answers (ExpectCall due slack)) h = h
rightly_before socket a (Answers (NowCall answer)) h = h
rightly_before socket a (Answers (AcceptCall answer)) h = h
rightly_before socket a (Answers (ReadCall who (Ok (got.Bytes count)) buffer)) h = sym
    (if_same (λ (x : Account). x.lingering.rightly) (who == socket) _ a refl) ∙ h
rightly_before socket a (Answers (ReadCall who (Ok got.Ended) buffer)) h = sym
    (if_same (λ (x : Account). x.lingering.rightly) (who == socket) _ a refl)
    ∙ h
rightly_before socket a (Answers (ReadCall who (Ok got.Nothing) buffer)) h = h
rightly_before socket a (Answers (ReadCall who (Err fault) buffer)) h = sym
    (if_same (λ (x : Account). x.lingering.rightly) (who == socket) _ a refl) ∙ h
rightly_before socket a (Answers (WriteCall who bytes (Ok count))) h = sym
    (if_same (λ (x : Account). x.lingering.rightly) (who == socket) _ a refl) ∙ h
rightly_before socket a (Answers (WriteCall who bytes (Err fault))) h = sym
    (if_same (λ (x : Account). x.lingering.rightly) (who == socket) _ a refl) ∙ h
rightly_before socket a (Answers (CloseCall who answer)) h = sym
    (if_same (λ (x : Account). x.lingering.rightly) (who == socket) _ a refl) ∙ h

served_before : (socket : ℕ) (a : Account) (step : Step) → (account_step socket a step).served ≡ true → a.served ≡ true
served_before socket a (Accepts number answer) h = sym (ap (λ m. m.3) (accept_marks socket number a answer)) ∙ h
served_before socket a (Reads who buffer answer) h = sym (if_same (λ (x : Account). x.served) (who == socket)
    (read_of a buffer answer) a refl) ∙ h
served_before socket a (Writes who bytes answer) h = sym (if_same (λ (x : Account). x.served) (who == socket)
    (record a { sent = wrote a.sent bytes answer }) a refl) ∙ h
served_before socket a (Waits most count ready) h = sym
    (ap (λ m. m.3) (woken_marks socket (waited socket a most) (take count ready))) ∙ h
served_before socket a (Shuts who) h = sym (if_same (λ (x : Account). x.served) (who == socket) (shut_down a) a refl) ∙ h
served_before socket a (Closes who) h = sym (if_same (λ (x : Account). x.served) (who == socket) (closed a) a refl) ∙ h
served_before socket a (Clocks answer) h = h
served_before socket a (Answers (ExpectCall due slack)) h = h
served_before socket a (Answers (NowCall answer)) h = and_left a.served (not (a.watched && a.unread)) h
served_before socket a (Answers (AcceptCall answer)) h = h
served_before socket a (Answers (ReadCall who (Ok (got.Bytes count)) buffer)) h = sym
    (if_same (λ (x : Account). x.served) (who == socket) _ a refl) ∙ h
served_before socket a (Answers (ReadCall who (Ok got.Ended) buffer)) h = sym (if_same (λ (x : Account). x.served) (who == socket) _ a refl)
    ∙ h
served_before socket a (Answers (ReadCall who (Ok got.Nothing) buffer)) h = h
served_before socket a (Answers (ReadCall who (Err fault) buffer)) h = sym
    (if_same (λ (x : Account). x.served) (who == socket) _ a refl) ∙ h
served_before socket a (Answers (WriteCall who bytes (Ok count))) h = sym (if_same (λ (x : Account). x.served) (who == socket) _ a refl) ∙ h
served_before socket a (Answers (WriteCall who bytes (Err fault))) h = sym
    (if_same (λ (x : Account). x.served) (who == socket) _ a refl) ∙ h
served_before socket a (Answers (CloseCall who answer)) h = sym (if_same (λ (x : Account). x.served) (who == socket) _ a refl) ∙ h

at_first : (pr : Account → Bool) (socket : ℕ) → ((a : Account) (step : Step) → pr (account_step socket a step) ≡ true → pr a ≡ true)
    → (a : Account) (log : List Step) → pr (fold (account_step socket) a log) ≡ true → pr a ≡ true
at_first pr socket back a [] h = h
at_first pr socket back a (step ∷ log) h = back a step (at_first pr socket back (account_step socket a step) log h)

at_step : (pr : Account → Bool) (socket : ℕ) → ((a : Account) (step : Step) → pr (account_step socket a step) ≡ true → pr a ≡ true)
    → (before after : List Step) (step : Step) → pr (account socket (before ++ step ∷ after)) ≡ true
    → pr (account_step socket (account socket before) step) ≡ true
at_step pr socket back before after step h = at_first pr socket back (account_step socket (account socket before) step) after
    (sym (ap pr (fold-append (account_step socket) untouched before (step ∷ after))) ∙ h)

not_so : (b : Bool) → not b ≡ true → b ≡ false
not_so true e = absurd (true≢false (sym e))
not_so false e = refl

-- what was reported of it was reported when it might be
reported_rightly : (b : Bool) (a : Account) (may : Bool) → b ≡ true
    → (if b then record a { honest = a.honest && may } else a).honest ≡ true → may ≡ true
reported_rightly true a may e h = and_right a.honest may h
reported_rightly false a may e h = absurd (true≢false (sym e))

honest_then : (socket : ℕ) (before after : List Step) (call : Call) → (account socket (before ++ Answers call ∷ after)).honest ≡ true
    → (account_step socket (account socket before) (Answers call)).honest ≡ true
honest_then socket before after call h =
    at_step (λ (a : Account). a.honest) socket (honest_before socket) before after (Answers call) h

pub ended_before : (socket : ℕ) (before after : List Step) (buffer : List ℕ)
    → (account socket (before ++ Answers (ReadCall socket (Ok got.Ended) buffer) ∷ after)).honest ≡ true
    → may_end (account socket before) ≡ true
ended_before socket before after buffer h =
    reported_rightly (socket == socket) (account socket before) (may_end (account socket before)) (own socket)
    (honest_then socket before after (ReadCall socket (Ok got.Ended) buffer) h)

pub failed_before : (socket : ℕ) (before after : List Step) (fault : DoorFault) (buffer : List ℕ)
    → (account socket (before ++ Answers (ReadCall socket (Err fault) buffer) ∷ after)).honest ≡ true
    → may_fail (account socket before) ≡ true
failed_before socket before after fault buffer h =
    reported_rightly (socket == socket) (account socket before) (may_fail (account socket before)) (own socket)
    (honest_then socket before after (ReadCall socket (Err fault) buffer) h)

pub unwritten_before : (socket : ℕ) (before after : List Step) (bytes : List ℕ) (fault : DoorFault)
    → (account socket (before ++ Answers (WriteCall socket bytes (Err fault)) ∷ after)).honest ≡ true
    → (account socket before).watched ≡ false
unwritten_before socket before after bytes fault h =
    not_so (account socket before).watched
    (reported_rightly (socket == socket) (account socket before) (not (account socket before).watched) (own socket)
    (honest_then socket before after (WriteCall socket bytes (Err fault)) h))

-- a long wait found at rest whom it was to find so
long_rests : (watched listener short rests : Bool) → (watched || listener) ≡ true → short ≡ false
    → (not (watched || listener) || (short || rests)) ≡ true → rests ≡ true
long_rests true listener false rests w s h = h
long_rests false true false rests w s h = h
long_rests false false false rests w s h = absurd (true≢false (sym w))
long_rests true listener true rests w s h = absurd (true≢false s)
long_rests false listener true rests w s h = absurd (true≢false s)

pub rested_then : (socket : ℕ) (before after : List Step) (most : Option ℕ) (count : ℕ) (ready : List Ready)
    → (account socket (before ++ Waits most count ready ∷ after)).rested ≡ true → is_short_wait most ≡ false
    → ((account socket before).watched || (socket == 0)) ≡ true → is_at_rest (account socket before).sent
    (account socket before).received ≡ true
rested_then socket before after most count ready h long there =
    let a = account socket before in
    let step = at_step (λ (x : Account). x.rested) socket (rested_before socket) before after (Waits most count ready) h in
    long_rests a.watched (socket == 0) (is_short_wait most) (is_at_rest a.sent a.received) there long
    (and_right a.rested (not (a.watched || (socket == 0)) || (is_short_wait most || is_at_rest a.sent a.received))
    (sym (ap (λ m. m.1) (woken_marks socket (waited socket a most) (take count ready))) ∙ step))

-- ---- it was shut down and closed only when it might be

-- a judgement of a step of its own
judged : (b rightly may other : Bool) → b ≡ true → (if b then rightly && may else other) ≡ true → may ≡ true
judged true rightly may other e h = and_right rightly may h
judged false rightly may other e h = absurd (true≢false (sym e))

rightly_if : (b : Bool) (x a : Account) → (if b then x else a).lingering.rightly ≡ (if b then x.lingering.rightly else a.lingering.rightly)
rightly_if true x a = refl
rightly_if false x a = refl

pub might_shut : (socket : ℕ) (before after : List Step) → (account socket (before ++ Shuts socket ∷ after)).lingering.rightly ≡ true
    → may_shut (account socket before) ≡ true
might_shut socket before after h =
    let a = account socket before in
    judged (socket == socket) a.lingering.rightly (may_shut a) a.lingering.rightly (own socket)
    (sym (rightly_if (socket == socket) (shut_down a) a)
    ∙ at_step (λ (x : Account). x.lingering.rightly) socket (rightly_before socket) before after (Shuts socket) h)

pub might_close : (socket : ℕ) (before after : List Step) → (account socket (before ++ Closes socket ∷ after)).lingering.rightly ≡ true
    → may_close (account socket before) ≡ true
might_close socket before after h =
    let a = account socket before in
    judged (socket == socket) a.lingering.rightly (may_close a) a.lingering.rightly (own socket)
    (sym (rightly_if (socket == socket) (closed a) a)
    ∙ at_step (λ (x : Account). x.lingering.rightly) socket (rightly_before socket) before after (Closes socket) h)

-- ---- no moment was reported while one was unread

pub read_then : (socket : ℕ) (before after : List Step) (answer : Result ℕ DoorFault)
    → (account socket (before ++ Answers (NowCall answer) ∷ after)).served ≡ true
    → ((account socket before).watched && (account socket before).unread) ≡ false
read_then socket before after answer h =
    let a = account socket before in
    not_so (a.watched && a.unread) (and_right a.served (not (a.watched && a.unread))
    (at_step (λ (x : Account). x.served) socket (served_before socket) before after (Answers (NowCall answer)) h))
