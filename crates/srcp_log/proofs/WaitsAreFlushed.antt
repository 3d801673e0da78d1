-- What a door has written, shut down and closed when it waits.
use Rattle.std.proofs.Common.{◌≡◌, ◌∙◌, ℕ, ◌<◌, ◌≤◌, ◌+◌, Bool, true, false, not, List, [], ◌∷◌, ◌++◌, length, refl, ap, sym, subst}
use Rattle.std.proofs.Common.{arith, ⊎_elim, ◌⊎◌, inl, inr, ◌==◌, ◌&&◌, ◌||◌, cond, if◌then◌else◌, Option, Some, None, true≢false}
use Rattle.std.specs.Prelude.{Result, count_by, fold, nat_lt, position, slice_index_or}
use Rattle.std.specs.List.{list_all, position_or_len}
use Rattle.std.proofs.lemmas.Bool.Decides.{nat_tests}
use Rattle.std.proofs.lemmas.List.{append_cancel_left}
use Rattle.std.proofs.lemmas.List.Sums.{fails_before_first, fold-append, sum_by-append}
use Rattle.std.specs.declared.io.ErrorKind.{ErrorKind}
use Rattle.srcp_door.specs.declared.door.DoorFault.{DoorFault}
use Rattle.srcp_peers.specs.declared.peer.Peer.{Peer}
use Rattle.srcp_peers.specs.declared.readiness.Flush.{Flush}
use Rattle.srcp_peers.specs.declared.readiness.Flush.TheVariants as flush
use Rattle.srcp_peers.specs.declared.readiness.Input.{Input}
use Rattle.srcp_peers.specs.declared.readiness.Input.TheVariants as input
use Rattle.srcp_peers.specs.declared.readiness.Output.{Output}
use Rattle.srcp_peers.specs.declared.readiness.Output.TheVariants as output
use Rattle.srcp_peers.specs.declared.stay.Stay.{Stay}
use Rattle.srcp_peers.specs.declared.stay.Stay.TheVariants as stay
use Rattle.srcp_peers.specs.declared.turn.Listening.{Listening}
use Rattle.srcp_peers.specs.declared.turn.Turn.{Turn}
use Rattle.srcp_peers.specs.Accounts.{Account, Received, Sent, account, account_step, closed, is_lingering, is_overdue, is_owed, may_shut}
use Rattle.srcp_peers.specs.Accounts.{untouched, wrote}
use Rattle.srcp_peers.specs.AllPeers.{AreOffered, AreShutDown, IsAbsent}
use Rattle.srcp_peers.specs.Limits.{flush_threshold}
use Rattle.srcp_peers.specs.Peers.{Agrees, FindsAs, IsFlushed, IsKept, IsOffered, Makes, OffersDue, Spares, StaysAs, WritesAs}
use Rattle.srcp_peers.specs.Peers.{flush_of, flushes_all, gone_as, is_gone}
use Rattle.srcp_peers.specs.Peers.{has_ended, is_due, is_lost, stay_after, tries_again, woken_output}
use Rattle.srcp_peers.specs.Steps.{Accepts, Answers, Clocks, Closes, Reads, SaysNothing, Shuts, Step, Waits, Writes, call_of, calls}
use Rattle.srcp_peers.specs.Times.{KeepsTimes, Times, first_times, times, times_step}
use Rattle.srcp_peers.specs.Turns.{flushing, has_ticked, is_pending, is_short}
use Rattle.srcp_peers.proofs.AccountsHoldStreams.{if_same}
use Rattle.srcp_peers.proofs.PeersStayKept.{account_more, own}
use Rattle.srcp_peers.proofs.PeersRestByAccount.{and_left, and_right, owed_is}
use Rattle.srcp_peers.proofs.StatesFollowSteps.{comes_finds}
use Rattle.srcp_log.specs.Doors.{IsThere, Stands}
use Rattle.srcp_log.specs.Waits.{AreFlushed, IsFlushedOut, IsWaitDone, closes, closes_after, has_no_more, has_to_close}
use Rattle.srcp_log.specs.Waits.{is_written, written_after}
use Rattle.srcp_log.specs.KeptTimes.{IsTimed}
use Rattle.srcp_log.specs.Work.{AreClosedUp, is_close}
use Rattle.srcp_log.proofs.AccountsReadTheClock.{clock_is}
use Rattle.srcp_log.proofs.AcceptsAreAsked.{or_last}
use Rattle.srcp_log.proofs.WorkIsDone.{free_came, is_free, no_call, no_calls, some_call}
use Rattle.srcp_log.proofs.ReadsAnswerInTime.{lost_as}
use Rattle.srcp_log.proofs.SocketsStayStanding.{find, nobody}

-- ---- who is closed

closes_one : (n : ℕ) (step : Step) → call_of step ≡ None → closes_after n step ≡ n + count_by is_close (step ∷ [])
closes_one n (Accepts number answer) none = omega arith
closes_one n (Reads who buffer answer) none = omega arith
closes_one n (Writes who bytes answer) none = omega arith
closes_one n (Waits most count ready) none = omega arith
closes_one n (Shuts who) none = omega arith
closes_one n (Closes who) none = omega arith
closes_one n (Clocks answer) none = omega arith
closes_one n (Answers call) none = absurd (some_call call none)

closes_came : (n : ℕ) (came : List Step) → calls came ≡ [] → fold closes_after n came ≡ n + count_by is_close came
closes_came n [] e = omega arith
closes_came n (step ∷ came) e =
    let none = no_calls step came e in
    let one = closes_one n step none.0 in
    let rest = closes_came (closes_after n step) came none.1 in
    let all = sum_by-append (λ s. cond (is_close s) 1 0) (step ∷ []) came in
    omega (arith, one, rest, all)

many_closed : (old new : List Step) → SaysNothing old new → Makes is_close 64 old new → nat_lt (closes new) 64 ≡ false
many_closed old new says made =
    let now : closes new ≡ closes old + count_by is_close says.0 = ap closes says.1 ∙ fold-append closes_after 0 old says.0
    ∙ closes_came (closes old) says.0 says.2 in
    let all : count_by is_close new ≡ count_by is_close old + count_by is_close says.0 = ap (count_by is_close) says.1
    ∙ sum_by-append (λ x. cond (is_close x) 1 0) old says.0 in
    let more : count_by is_close new ≡ count_by is_close old + 64 = made in
    at_least (closes new) (omega (arith, now, all, more))
  where
    at_least : (n : ℕ) → 64 ≤ n → nat_lt n 64 ≡ false
    at_least n le = grind (arith, nat_tests)

none_first : (p : Peer → Bool) (xs : List Peer) (k : ℕ) (d : Peer) → position p xs ≡ None → k < length xs
    → p (slice_index_or xs k d) ≡ false
none_first p xs k d none lt = fails_before_first p xs k d (by (nat_lt (position_or_len p xs) (length xs)) refl none)
  where
    some : (n : ℕ) → Some n ≡ None → ⊥
    some n e = cc

    below : (n most : ℕ) → k < most → nat_lt n most ≡ false → k < n
    below n most less e = grind (arith, nat_tests)

    by : (b : Bool) → nat_lt (position_or_len p xs) (length xs) ≡ b → cond b (Some (position_or_len p xs)) None ≡ None
        → k < position_or_len p xs
    by true e f = absurd (some (position_or_len p xs) f)
    by false e f = below (position_or_len p xs) (length xs) lt e

-- nothing follows of what is false
and_none : (a : Bool) → (a && false) ≡ false
and_none true = refl
and_none false = refl

-- neither of two
neither : (a b : Bool) → (a || b) ≡ false → (a ≡ false) × (b ≡ false)
neither true b e = absurd (true≢false e)
neither false b e = (refl, e)

remains : (lingers lost none over : Bool) → lost ≡ false → none ≡ false → over ≡ false → (lingers && (lost || (none || over))) ≡ false
remains lingers lost none over l n o = rw (l, n, o) (and_none lingers)

-- a read found the end or failed if its input is so
no_more : (received : Received) (state : Input) → FindsAs received state → has_no_more received ≡ has_ended state
no_more received input.Ready h = ap (λ b. b || received.failed) h.1 ∙ h.0
no_more received input.Emptying h = ap (λ b. b || received.failed) h.1 ∙ h.0
no_more received input.Quiet h = ap (λ b. b || received.failed) h.1 ∙ h.0
no_more received input.Ended h = ap (λ b. b || received.failed) h.1
no_more received input.Failed h = ap (λ b. received.ended || b) h.0 ∙ or_last received.ended

not_gone : (a : Account) (p : Peer) (clock : ℕ) → Agrees a p → a.lingering.clock ≡ clock → is_gone clock p ≡ false
    → has_to_close a ≡ false
not_gone a p clock h shown stays = by p.stay h.stays stays
  where
    overdue : (since : ℕ) → a.lingering.since ≡ since
        → is_overdue a.lingering.clock a.lingering.since ≡ is_overdue clock since
    overdue since e = ap (λ n. is_overdue n a.lingering.since) shown ∙ ap (is_overdue clock) e

    lost : a.sent.lost ≡ is_lost p.output
    lost = sym (lost_as a.sent p.outgoing p.output h.writes)

    none : has_no_more a.received ≡ has_ended p.input
    none = no_more a.received p.input (comes_finds a.received p.incoming p.input p.stay h.reads)

    by : (here : Stay) → StaysAs a.watched a.lingering p.outgoing here → gone_as clock p.input p.output here ≡ false
        → has_to_close a ≡ false
    by stay.Here s e = ap (λ w. (not w && a.lingering.kept) && (a.sent.lost
        || ((a.lingering.shut && has_no_more a.received) || is_overdue a.lingering.clock a.lingering.since))) s.0
    by (stay.Draining since) s e =
        let n = neither (is_lost p.output) (is_overdue clock since) e in
        remains (is_lingering a) a.sent.lost (a.lingering.shut && has_no_more a.received)
        (is_overdue a.lingering.clock a.lingering.since) (lost ∙ n.0) (ap (λ b. b && has_no_more a.received) s.3)
        (overdue since s.2 ∙ n.1)
    by (stay.Shut since) s e =
        let n = neither (is_lost p.output) (has_ended p.input || is_overdue clock since) e in
        let o = neither (has_ended p.input) (is_overdue clock since) n.1 in
        remains (is_lingering a) a.sent.lost (a.lingering.shut && has_no_more a.received)
        (is_overdue a.lingering.clock a.lingering.since) (lost ∙ n.0) (ap (λ b. b && has_no_more a.received) s.3 ∙ none ∙ o.0)
        (overdue since s.2 ∙ o.1)

pub all_closed : (old new : List Step) (turn : Turn) (peers : List Peer) (l : Listening) (last : ℕ) → Stands new peers l last
    → IsTimed new turn → SaysNothing old new → AreClosedUp turn.clock peers old new
    → nat_lt (closes new) 64 ≡ true → (socket : ℕ) → has_to_close (account socket new) ≡ false
all_closed old new turn peers l last stands timed says closed few socket = ⊎_elim
    (λ (none : position (is_gone turn.clock) peers ≡ None). ⊎_elim
    (λ (there : IsThere socket peers).
    let p : Peer = slice_index_or peers there.index nobody in
    subst (λ (n : ℕ). has_to_close (account n new) ≡ false) (there.same nobody)
    (not_gone (account p.number new) p turn.clock (stands.kept there.index nobody there.within)
    (clock_is new turn p.number timed) (none_first (is_gone turn.clock) peers there.index nobody none there.within)))
    (λ (absent : IsAbsent socket peers).
    let a = account socket new in
    let has = a.sent.lost
    || ((a.lingering.shut && has_no_more a.received) || is_overdue a.lingering.clock a.lingering.since) in
    ap (λ k. (not a.watched && k) && has) (stands.closed socket absent).kept ∙ ap (λ b. b && has) (and_none (not a.watched)))
    (find socket peers))
    (λ (made : Makes is_close 64 old new). absurd (true≢false (sym few ∙ many_closed old new says made)))
    closed

-- ---- who is written to

written_one : (socket : ℕ) (written : Bool) (step : Step) → call_of step ≡ None → written ≡ true
    → written_after socket written step ≡ true
written_one socket written (Accepts number answer) none e = e
written_one socket written (Reads who buffer answer) none e = e
written_one socket written (Writes who bytes answer) none e = ap (λ b. (who == socket) || b) e ∙ or_last (who == socket)
written_one socket written (Waits most count ready) none e = e
written_one socket written (Shuts who) none e = e
written_one socket written (Closes who) none e = e
written_one socket written (Clocks answer) none e = e
written_one socket written (Answers call) none e = absurd (some_call call none)

written_came : (socket : ℕ) (written : Bool) (came : List Step) → calls came ≡ [] → written ≡ true
    → fold (written_after socket) written came ≡ true
written_came socket written [] e w = w
written_came socket written (step ∷ came) e w =
    let none = no_calls step came e in
    written_came socket (written_after socket written step) came none.1 (written_one socket written step none.0 w)

written_in : (socket : ℕ) (written : Bool) (bytes : List ℕ) (answer : Result ℕ ErrorKind) (before after : List Step)
    → calls (before ++ Writes socket bytes answer ∷ after) ≡ []
    → fold (written_after socket) written (before ++ Writes socket bytes answer ∷ after) ≡ true
written_in socket written bytes answer [] after e =
    written_came socket ((socket == socket) || written) after (no_calls (Writes socket bytes answer) after e).1
    (ap (λ b. b || written) (own socket))
written_in socket written bytes answer (step ∷ before) after e =
    written_in socket (written_after socket written step) bytes answer before after
    (no_calls step (before ++ Writes socket bytes answer ∷ after) e).1

offered_written : (socket : ℕ) (bytes : List ℕ) (old new : List Step) → SaysNothing old new → IsOffered socket bytes old new
    → is_written socket new ≡ true
offered_written socket bytes old new says offered =
    let rest = offered.0 ++ Writes socket bytes offered.1 ∷ offered.2 in
    let came : says.0 ≡ rest = append_cancel_left old says.0 rest (sym says.1 ∙ offered.3) in
    ap (is_written socket) says.1 ∙ fold-append (written_after socket) false old says.0
    ∙ ap (fold (written_after socket) (is_written socket old)) came
    ∙ written_in socket (is_written socket old) bytes offered.1 offered.0 offered.2 (ap calls (sym came) ∙ says.2)

-- no connection was accepted among them
abbrev is_some : Option (Result (Option ℕ) DoorFault) → Bool
is_some None = false
is_some (Some said) = true

heard_one : (t : Times) (step : Step) → call_of step ≡ None → is_some t.heard ≡ true → is_some (times_step t step).heard ≡ true
heard_one t (Accepts number answer) none e = refl
heard_one t (Reads who buffer answer) none e = e
heard_one t (Writes who bytes answer) none e = e
heard_one t (Waits most count ready) none e = e
heard_one t (Shuts who) none e = e
heard_one t (Closes who) none e = e
heard_one t (Clocks (Some time)) none e = e
heard_one t (Clocks None) none e = e
heard_one t (Answers call) none e = absurd (some_call call none)

heard_came : (t : Times) (came : List Step) → calls came ≡ [] → is_some t.heard ≡ true → is_some (fold times_step t came).heard ≡ true
heard_came t [] e h = h
heard_came t (step ∷ came) e h =
    let none = no_calls step came e in
    heard_came (times_step t step) came none.1 (heard_one t step none.0 h)

abbrev is_accept : Step → Bool
is_accept (Accepts number answer) = true
is_accept other = false

unasked : (t : Times) (came : List Step) → calls came ≡ [] → is_some (fold times_step t came).heard ≡ false
    → list_all (λ s. not (is_accept s)) came ≡ true
unasked t [] e none = refl
unasked t (Accepts number answer ∷ came) e none =
    absurd (true≢false (sym (heard_came (times_step t (Accepts number answer)) came e refl) ∙ none))
unasked t (Reads who buffer answer ∷ came) e none = unasked t came e none
unasked t (Writes who bytes answer ∷ came) e none = unasked t came e none
unasked t (Waits most count ready ∷ came) e none = unasked (times_step t (Waits most count ready)) came e none
unasked t (Shuts who ∷ came) e none = unasked t came e none
unasked t (Closes who ∷ came) e none = unasked t came e none
unasked t (Clocks (Some time) ∷ came) e none = unasked (times_step t (Clocks (Some time))) came e none
unasked t (Clocks None ∷ came) e none = unasked t came e none
unasked t (Answers call ∷ came) e none = absurd (no_call call (calls came) e)

-- each step writes to a socket, or leaves alone what was sent to it
sent_one : (socket : ℕ) (a : Account) (written : Bool) (step : Step) → is_free step ≡ true → not (is_accept step) ≡ true
    → (written_after socket written step ≡ true) ⊎ ((account_step socket a step).sent ≡ a.sent)
sent_one socket a written (Accepts number answer) free none = absurd (true≢false (sym none))
sent_one socket a written (Reads who buffer answer) free none = inr (if_same (λ (x : Account). x.sent) (who == socket) _ a refl)
sent_one socket a written (Writes who bytes answer) free none = by (who == socket)
  where
    by : (b : Bool) → ((b || written) ≡ true) ⊎ ((if b then record a { sent = wrote a.sent bytes answer } else a).sent ≡ a.sent)
    by true = inl refl
    by false = inr refl
sent_one socket a written (Waits most count ready) free none = absurd (true≢false (sym free))
sent_one socket a written (Shuts who) free none = inr (if_same (λ (x : Account). x.sent) (who == socket) _ a refl)
sent_one socket a written (Closes who) free none = inr (if_same (λ (x : Account). x.sent) (who == socket) _ a refl)
sent_one socket a written (Clocks answer) free none = inr refl
sent_one socket a written (Answers call) free none = absurd (true≢false (sym free))

sent_came : (socket : ℕ) (a : Account) (written : Bool) (came : List Step) → calls came ≡ [] → list_all is_free came ≡ true
    → list_all (λ s. not (is_accept s)) came ≡ true
    → (fold (written_after socket) written came ≡ true) ⊎ ((fold (account_step socket) a came).sent ≡ a.sent)
sent_came socket a written [] e free none = inr refl
sent_came socket a written (step ∷ came) e free none =
    let silent = no_calls step came e in
    ⊎_elim
    (λ (w : written_after socket written step ≡ true). inl (written_came socket (written_after socket written step) came silent.1 w))
    (λ (same : (account_step socket a step).sent ≡ a.sent). ⊎_elim
    (λ (w : fold (written_after socket) (written_after socket written step) came ≡ true). inl w)
    (λ (later : (fold (account_step socket) (account_step socket a step) came).sent ≡ (account_step socket a step).sent).
    inr (later ∙ same))
    (sent_came socket (account_step socket a step) (written_after socket written step) came silent.1
    (and_right (is_free step) (list_all is_free came) free)
    (and_right (not (is_accept step)) (list_all (λ s. not (is_accept s)) came) none)))
    (sent_one socket a written step (and_left (is_free step) (list_all is_free came) free)
    (and_left (not (is_accept step)) (list_all (λ s. not (is_accept s)) came) none))

-- ---- after a flush

-- its socket takes nothing, or it is offered what is queued
due_or_none : (a : Account) (p : Peer) (what : Flush) → Agrees a p → flushes_all what ≡ true
    → IsFlushed (flush_of what p.stay) p ⊎ ((not (is_owed a.sent) || (a.sent.full || a.sent.lost)) ≡ true)
due_or_none a p what h all = by p.output refl h.writes
  where
    flushes : (here : Stay) → flushes_all (flush_of what here) ≡ true
    flushes stay.Here = all
    flushes (stay.Draining since) = refl
    flushes (stay.Shut since) = refl

    due : is_due (flush_of what p.stay) p ≡ true
    due = ap (λ b. b || (nat_lt flush_threshold (length p.outgoing) || (p.awaits_reply && (p.backpressured || (length p.incoming == 0)))))
        (flushes p.stay)

    queued : (outgoing : List ℕ) → p.outgoing ≡ outgoing → p.output ≡ output.Open → a.sent.written ≡ a.sent.took ++ p.outgoing
        → IsFlushed (flush_of what p.stay) p ⊎ ((not (is_owed a.sent) || (a.sent.full || a.sent.lost)) ≡ true)
    queued [] none is_open is = inr (ap (λ b. not b || (a.sent.full || a.sent.lost))
        (owed_is a.sent p.outgoing is ∙ ap (λ (xs : List ℕ). not (length xs == 0)) none))
    queued (byte ∷ more) some is_open is = inl (
      ap (λ (o : Output). woken_output o (tries_again (flush_of what p.stay))) is_open,
      λ none. (let bad : byte ∷ more ≡ [] = sym some ∙ none in not_empty byte more bad),
      due,
    )
      where
        not_empty : (x : ℕ) (xs : List ℕ) → x ∷ xs ≡ [] → ⊥
        not_empty x xs e = cc

    by : (state : Output) → p.output ≡ state → WritesAs a.sent p.outgoing state
        → IsFlushed (flush_of what p.stay) p ⊎ ((not (is_owed a.sent) || (a.sent.full || a.sent.lost)) ≡ true)
    by output.Open is w = queued p.outgoing refl is w.0
    by output.Full is w = inr (ap (λ b. not (is_owed a.sent) || (b || a.sent.lost)) w.2 ∙ or_last (not (is_owed a.sent)))
    by output.Lost is w = inr (ap (λ b. not (is_owed a.sent) || (a.sent.full || b)) w.1
        ∙ ap (λ b. not (is_owed a.sent) || b) (or_last a.sent.full) ∙ or_last (not (is_owed a.sent)))

or_written : (none stuck written : Bool) → written ≡ true → (none || (stuck || written)) ≡ true
or_written none stuck written e = ap (λ b. none || (stuck || b)) e ∙ ap (λ b. none || b) (or_last stuck) ∙ or_last none

or_none : (none stuck written : Bool) → (none || stuck) ≡ true → (none || (stuck || written)) ≡ true
or_none true stuck written e = refl
or_none false stuck written e = ap (λ b. b || written) e

offered_all : (what : Flush) (old new : List Step) (peers : List Peer) (l : Listening) (last wall start : ℕ)
    → Stands old peers l last → AreOffered what peers old new → ((other : ℕ) → IsAbsent other peers → Spares other old new)
    → SaysNothing old new → KeepsTimes old new → (times wall start old).heard ≡ None
    → flushes_all what ≡ true → (socket : ℕ) → (account socket new).lingering.kept ≡ true
    → (let a = account socket new in
    (not (is_owed a.sent) || ((a.sent.full || a.sent.lost) || is_written socket new)) ≡ true)
offered_all what old new peers l last wall start stands offered others says keeps heard all socket kept = ⊎_elim
    (λ (there : IsThere socket peers).
    let p : Peer = slice_index_or peers there.index nobody in
    subst (λ (n : ℕ). (not (is_owed (account n new).sent)
    || (((account n new).sent.full || (account n new).sent.lost) || is_written n new)) ≡ true) (there.same nobody)
    (each p (stands.kept there.index nobody there.within) (offered there.index nobody there.within)))
    (λ (absent : IsAbsent socket peers).
    absurd (true≢false (sym kept ∙ ap (λ (a : Account). a.lingering.kept) (others socket absent) ∙ (stands.closed socket absent).kept)))
    (find socket peers)
  where
    each : (p : Peer) → IsKept old p → OffersDue what p old new
        → (not (is_owed (account p.number new).sent)
        || (((account p.number new).sent.full || (account p.number new).sent.lost) || is_written p.number new)) ≡ true
    each p agrees due =
        let came = says.0 in
        let a = account p.number old in
        let now = account p.number new in
        let free : list_all is_free came ≡ true = free_came old new says keeps in
        let quiet : is_some (fold times_step (times wall start old) came).heard ≡ false =
        ap (λ (t : Times). is_some t.heard) (sym (fold-append times_step (first_times wall start) old came))
        ∙ ap (λ l. is_some (times wall start l).heard) (sym says.1) ∙ ap (λ (t : Times). is_some t.heard) (keeps wall start)
        ∙ ap is_some heard in
        let none = unasked (times wall start old) came says.2 quiet in
        ⊎_elim
        (λ (flushed : IsFlushed (flush_of what p.stay) p).
        or_written (not (is_owed now.sent)) (now.sent.full || now.sent.lost) (is_written p.number new)
        (offered_written p.number p.outgoing old new says (due flushed)))
        (λ (stuck : (not (is_owed a.sent) || (a.sent.full || a.sent.lost)) ≡ true). ⊎_elim
        (λ (w : fold (written_after p.number) (is_written p.number old) came ≡ true).
        or_written (not (is_owed now.sent)) (now.sent.full || now.sent.lost) (is_written p.number new)
        (ap (is_written p.number) says.1 ∙ fold-append (written_after p.number) false old came ∙ w))
        (λ (same : (fold (account_step p.number) a came).sent ≡ a.sent).
        let sent : now.sent ≡ a.sent = ap (λ l. (account p.number l).sent) says.1
        ∙ ap (λ (x : Account). x.sent) (fold-append (account_step p.number) untouched old came) ∙ same in
        or_none (not (is_owed now.sent)) (now.sent.full || now.sent.lost) (is_written p.number new)
        (ap (λ (s : Sent). not (is_owed s) || (s.full || s.lost)) sent ∙ stuck))
        (sent_came p.number a (is_written p.number old) came says.2 free none))
        (due_or_none a p what agrees all)

-- it is there, shut down, or owed something, or lost
shut_none : (watched kept shut owed lost : Bool) → ((watched ≡ true) ⊎ ((shut ≡ true) ⊎ ((owed ≡ true) ⊎ (lost ≡ true))))
    → (((not watched && kept) && (not shut && not owed)) && not lost) ≡ false
shut_none true kept shut owed lost e = refl
shut_none false false shut owed lost e = refl
shut_none false true true owed lost e = refl
shut_none false true false true lost e = refl
shut_none false true false false true e = refl
shut_none false true false false false e = ⊎_elim (λ f. absurd (true≢false (sym f))) (⊎_elim (λ f. absurd (true≢false (sym f)))
    (⊎_elim (λ f. absurd (true≢false (sym f))) (λ f. absurd (true≢false (sym f))))) e

was_shut : (a : Account) (p : Peer) (before : Stay) → Agrees a p → p.stay ≡ stay_after before p.outgoing p.output
    → (may_shut a && not a.sent.lost) ≡ false
was_shut a p before h is = shut_none a.watched a.lingering.kept a.lingering.shut (is_owed a.sent) a.sent.lost (by before is)
  where
    here : (s : Stay) → p.stay ≡ s → StaysAs a.watched a.lingering p.outgoing s
    here s e = subst (StaysAs a.watched a.lingering p.outgoing) e h.stays

    alone : (b : Bool) → (b && true) ≡ false → b ≡ false
    alone true f = f
    alone false f = refl

    owed : (state : Output) → WritesAs a.sent p.outgoing state → ((length p.outgoing == 0) && not (is_lost state)) ≡ false
        → (is_owed a.sent ≡ true) ⊎ (a.sent.lost ≡ true)
    owed output.Open w e = inl (owed_is a.sent p.outgoing w.0 ∙ ap not (alone (length p.outgoing == 0) e))
    owed output.Full w e = inl (owed_is a.sent p.outgoing w.0 ∙ ap not (alone (length p.outgoing == 0) e))
    owed output.Lost w e = inr w.1

    by : (s : Stay) → p.stay ≡ stay_after s p.outgoing p.output
        → (a.watched ≡ true) ⊎ ((a.lingering.shut ≡ true) ⊎ ((is_owed a.sent ≡ true) ⊎ (a.sent.lost ≡ true)))
    by stay.Here e = inl (here stay.Here e).0
    by (stay.Draining since) e = on ((length p.outgoing == 0) && not (is_lost p.output)) refl e
      where
        on : (b : Bool) → ((length p.outgoing == 0) && not (is_lost p.output)) ≡ b
            → p.stay ≡ cond b (stay.Shut since) (stay.Draining since)
            → (a.watched ≡ true) ⊎ ((a.lingering.shut ≡ true) ⊎ ((is_owed a.sent ≡ true) ⊎ (a.sent.lost ≡ true)))
        on true c f = inr (inl (here (stay.Shut since) f).3)
        on false c f = inr (inr (owed p.output h.writes c))
    by (stay.Shut since) e = inr (inl (here (stay.Shut since) e).3)

pub all_flushed : (what : Flush) (old new : List Step) (before after : List Peer) (l : Listening) (last wall start : ℕ)
    → Stands old before l last → Stands new after l last → length after ≡ length before → AreOffered what before old new
    → AreShutDown before after → ((other : ℕ) → IsAbsent other before → Spares other old new) → SaysNothing old new → KeepsTimes old new
    → (times wall start old).heard ≡ None → AreFlushed (flushes_all what) new
all_flushed what old new before after l last wall start stood stands long offered down others says keeps heard socket = record {
  shut = ⊎_elim
      (λ (there : IsThere socket after).
      let p : Peer = slice_index_or after there.index nobody in
      let within : there.index < length after = there.within in
      subst (λ (n : ℕ). (may_shut (account n new) && not (account n new).sent.lost) ≡ false) (there.same nobody)
      (was_shut (account p.number new) p (slice_index_or before there.index nobody).stay
      (stands.kept there.index nobody there.within) (down there.index nobody (omega (arith, within, long)))))
      (λ (absent : IsAbsent socket after).
      let a = account socket new in
      ap (λ k. ((not a.watched && k) && (not a.lingering.shut && not (is_owed a.sent))) && not a.sent.lost)
      (stands.closed socket absent).kept
      ∙ ap (λ b. (b && (not a.lingering.shut && not (is_owed a.sent))) && not a.sent.lost) (and_none (not a.watched)))
      (find socket after);
  offered = λ all kept. offered_all what old new before l last wall start stood offered others says keeps heard all socket kept;
}

-- one was closed behind that
pub flushed_close : (all : Bool) (old new : List Step) (who : ℕ) → new ≡ old ++ Closes who ∷ [] → AreFlushed all old
    → AreFlushed all new
flushed_close all old new who tells flushed socket =
    let a = account socket old in
    let more : account socket new ≡ account_step socket a (Closes who) = ap (account socket) tells ∙ account_more socket old (Closes who) in
    let same : is_written socket new ≡ is_written socket old = ap (is_written socket) tells
    ∙ fold-append (written_after socket) false old (Closes who ∷ []) in
    subst (λ (x : Account). IsFlushedOut all x (is_written socket new)) (sym more)
    (subst (IsFlushedOut all (account_step socket a (Closes who))) (sym same)
    (by a (is_written socket old) (who == socket) (flushed socket)))
  where
    by : (a : Account) (written b : Bool) → IsFlushedOut all a written → IsFlushedOut all (if b then closed a else a) written
    by a written true h = record {
      shut = ap (λ x. (x && (not a.lingering.shut && not (is_owed a.sent))) && not a.sent.lost) (and_none (not a.watched));
      offered = λ every kept. absurd (true≢false (sym kept));
    }
    by a written false h = h

-- ---- a wait

every : (ticked pending : Bool) (turn : Turn) → is_pending turn.slack turn.busy ≡ pending → (ticked || not pending) ≡ true
    → flushes_all (flushing ticked false turn) ≡ true
every true pending turn is due = by (is_short turn.slack)
  where
    by : (b : Bool) → flushes_all (cond b flush.Again flush.All) ≡ true
    by true = refl
    by false = refl
every false true turn is due = absurd (true≢false (sym due))
every false false turn is due = ap (λ b. flushes_all (cond b flush.Answers flush.All)) is

pub quiet_is : (pending : Bool) → not pending ≡ true → pending ≡ false
quiet_is true e = absurd (true≢false (sym e))
quiet_is false e = refl

pub may_wait : (log : List Step) (turn : Turn) → IsTimed log turn
    → AreFlushed (flushes_all (flushing (has_ticked turn) false turn)) log
    → (nat_lt (closes log) 64 ≡ true → (socket : ℕ) → has_to_close (account socket log) ≡ false)
    → IsWaitDone turn.timekeeper.wall turn.timekeeper.start log
may_wait log turn timed flushed closed = record {
  closed = closed;
  flushed = λ socket. record {
    shut = (flushed socket).shut;
    offered = λ due kept. (flushed socket).offered (every (has_ticked turn) (is_pending turn.slack turn.busy) turn refl
        (ap (λ (t : Turn). has_ticked t || not (is_pending t.slack t.busy)) (sym timed.same) ∙ due)) kept;
  };
}

-- ---- the laws in their own words

pub unless_lost : (may lost : Bool) → (may && not lost) ≡ false → may ≡ true → lost ≡ true
unless_lost may true e m = refl
unless_lost true false e m = absurd (true≢false e)
unless_lost false false e m = absurd (true≢false (sym m))

pub if_owed : (owed rest : Bool) → (not owed || rest) ≡ true → owed ≡ true → rest ≡ true
if_owed true rest e o = e
if_owed false rest e o = absurd (true≢false (sym o))
