-- How the times go on from step to step.
use Rattle.std.proofs.Common.{◌++◌, ◌∷◌, ◌≡◌, ◌∙◌, ℕ, Bool, true, false, List, [], refl, ap, sym, subst, arith, ⊎_elim, ◌⊎◌, ◌==◌}
use Rattle.std.proofs.Common.{Option, Some, None, Ok, Err, true≢false}
use Rattle.std.specs.Prelude.{◌&&◌, ◌||◌, not, Result}
use Rattle.std.specs.Option.{option_map_or}
use Rattle.std.proofs.lemmas.Bool.Decides.{nat_tests}
use Rattle.std.specs.declared.io.ErrorKind.{ErrorKind}
use Rattle.srcp_door.specs.declared.door.DoorFault.{DoorFault}
use Rattle.srcp_door.specs.declared.door.Got.{Got}
use Rattle.srcp_door.specs.declared.door.Got.TheVariants as got
use Rattle.srcp_door.specs.Pacing.{fits, weight_of}
use Rattle.srcp_door.specs.Moments.{Moments}
use Rattle.srcp_door.specs.declared.pacing.LineBoundary.{LineBoundary}
use Rattle.srcp_door.specs.declared.pacing.LineBoundary.TheVariants as boundary
use Rattle.srcp_door.specs.declared.pacing.Pace.{Pace}
use Rattle.srcp_door.specs.declared.pacing.Pace.TheVariants.{Paced, OneLine}
use Rattle.srcp_peers.specs.declared.peer.Peer.{Peer}
use Rattle.srcp_peers.specs.Peers.{IsKept}
use Rattle.srcp_peers.proofs.LinesAreHandedOut.{line_is}
use Rattle.srcp_peers.specs.declared.system.Ready.{Ready}
use Rattle.srcp_peers.specs.declared.turn.Turn.{Turn}
use Rattle.srcp_door.specs.Calls.{Call, ExpectCall, NowCall, AcceptCall, ReadCall, WriteCall, CloseCall}
use Rattle.srcp_peers.specs.Accounts.{is_short_wait}
use Rattle.srcp_peers.specs.Steps.{Accepts, Clocks, Step, Answers, Waits}
use Rattle.srcp_log.specs.KeptTimes.{IsTimed, Timed}
use Rattle.srcp_peers.specs.Times.{KeepsTimes, Times, clocked, ends_by}
use Rattle.srcp_peers.specs.Times.{in_time, is_as_heard, accept_answer, times, times_step, answered_accept, answered_moment, answered_read}
use Rattle.srcp_peers.specs.Turns.{after_call, after_read, after_wait, begun, first_turn, got_bytes, hands_out, is_pending, moment_at}
use Rattle.srcp_peers.specs.Turns.{reports_end, time_left, reported_at}
use Rattle.srcp_peers.specs.Waiting.{IsWithin}
use Rattle.srcp_peers.proofs.CallsAreOfTheDoor.{times_more}

pub timed_kept : (old new : List Step) (turn : Turn) → KeepsTimes old new → IsTimed old turn → IsTimed new turn
timed_kept old new turn keeps timed =
    subst (λ (t : Times). Timed t turn) (sym (keeps turn.timekeeper.wall turn.timekeeper.start)) timed

-- a step after which the times say another turn
timed_step : (wall start : ℕ) (old new : List Step) (step : Step) (after : Turn) → new ≡ old ++ step ∷ []
    → Timed (times_step (times wall start old) step) after → Timed (times wall start new) after
timed_step wall start old new step after tells timed =
    subst (λ (t : Times). Timed t after) (sym (ap (times wall start) tells ∙ times_more wall start old step)) timed

-- and two of them
timed_two : (wall start : ℕ) (old mid new : List Step) (one two : Step) (after : Turn) → mid ≡ old ++ one ∷ [] → new ≡ mid ++ two ∷ []
    → Timed (times_step (times_step (times wall start old) one) two) after → Timed (times wall start new) after
timed_two wall start old mid new one two after first second timed =
    timed_step wall start mid new two after second
    (subst (λ (t : Times). Timed (times_step t two) after) (sym (ap (times wall start) first ∙ times_more wall start old one)) timed)

both : (a b : Bool) → a ≡ true → b ≡ true → (a && b) ≡ true
both a b e f = ap (λ x. x && b) e ∙ f

-- ---- a call of the door, but for the moment

-- no other call reads the clock
called_clock : (turn : Turn) (call : Call) → turn.clock ≡ (after_call turn call).clock
called_clock turn (ExpectCall due slack) = refl
called_clock turn (NowCall answer) = refl
called_clock turn (AcceptCall answer) = refl
called_clock turn (ReadCall peer answer buffer) = refl
called_clock turn (WriteCall peer bytes answer) = refl
called_clock turn (CloseCall peer answer) = refl

called : (t : Times) (before : Turn) (call : Call) → Timed t before
    → Timed (record t { turn = after_call t.turn call }) (after_call before call)
called t before call h = record {
  same = ap (λ (u : Turn). after_call u call) h.same;
  clock = h.clock ∙ called_clock before call;
  kept = record {
    exact = h.kept.exact;
    punctual = h.kept.punctual;
    patient = h.kept.patient;
    prompt = h.kept.prompt;
  };
  paced = record { light = h.paced.light; once = h.paced.once };
  heard = h.heard;
  honest = h.honest;
}

pub timed_expect : (old new : List Step) (before after : Turn) (due slack : Option ℕ) → after ≡ after_call before
    (ExpectCall due slack)
    → new ≡ old ++ Answers (ExpectCall due slack) ∷ [] → IsTimed old before → IsTimed new after
timed_expect old new before after due slack is tells timed =
    let call : Call = ExpectCall due slack in
    let wall = before.timekeeper.wall in
    let start = before.timekeeper.start in
    subst (IsTimed new) (sym is) (timed_step wall start old new (Answers call) (after_call before call) tells
    (called (times wall start old) before call timed))

-- what `accept` answered
accepted : (t : Times) (before : Turn) (answer : Result (Option ℕ) DoorFault) (heard : Option (Result (Option ℕ) DoorFault))
    → is_as_heard heard answer ≡ true → Timed t before
    → Timed (answered_accept (record t { heard = heard }) answer) (after_call before (AcceptCall answer))
accepted t before answer heard as_heard h = record {
  same = ap (λ (u : Turn). after_call u (AcceptCall answer)) h.same;
  clock = h.clock ∙ called_clock before (AcceptCall answer);
  kept = record {
    exact = h.kept.exact;
    punctual = h.kept.punctual;
    patient = h.kept.patient;
    prompt = h.kept.prompt;
  };
  paced = record { light = h.paced.light; once = h.paced.once };
  heard = refl;
  honest = both t.honest (is_as_heard heard answer) h.honest as_heard;
}

-- the system was not asked
pub timed_unasked : (old new : List Step) (before after : Turn) (answer : Result (Option ℕ) DoorFault)
    → after ≡ after_call before (AcceptCall answer) → is_as_heard None answer ≡ true
    → new ≡ old ++ Answers (AcceptCall answer) ∷ [] → IsTimed old before → IsTimed new after
timed_unasked old new before after answer is as_heard tells timed =
    let wall = before.timekeeper.wall in
    let start = before.timekeeper.start in
    let t = times wall start old in
    subst (IsTimed new) (sym is) (timed_step wall start old new (Answers (AcceptCall answer)) (after_call before (AcceptCall answer)) tells
    (subst (λ (x : Option (Result (Option ℕ) DoorFault)). Timed (answered_accept (record t { heard = x }) answer)
    (after_call before (AcceptCall answer))) (sym timed.heard) (accepted t before answer None as_heard timed)))

-- the system was asked
pub timed_asked : (old mid new : List Step) (before after : Turn) (number : ℕ) (said : Result Unit ErrorKind)
    (answer : Result (Option ℕ) DoorFault) → after ≡ after_call before (AcceptCall answer)
    → is_as_heard (Some (accept_answer number said)) answer ≡ true → mid ≡ old ++ Accepts number said ∷ []
    → new ≡ mid ++ Answers (AcceptCall answer) ∷ [] → IsTimed old before → IsTimed new after
timed_asked old mid new before after number said answer is as_heard asks tells timed =
    let wall = before.timekeeper.wall in
    let start = before.timekeeper.start in
    subst (IsTimed new) (sym is) (timed_two wall start old mid new (Accepts number said) (Answers (AcceptCall answer))
    (after_call before (AcceptCall answer)) asks tells
    (accepted (times wall start old) before answer (Some (accept_answer number said)) as_heard timed))

pub timed_write : (old new : List Step) (before after : Turn) (peer : ℕ) (bytes : List ℕ) (answer : Result ℕ DoorFault)
    → ((p : ℕ) (xs : List ℕ) → after ≡ after_call before (WriteCall p xs answer))
    → new ≡ old ++ Answers (WriteCall peer bytes answer) ∷ [] → IsTimed old before → IsTimed new after
timed_write old new before after peer bytes answer is tells timed =
    let call : Call = WriteCall peer bytes answer in
    let wall = before.timekeeper.wall in
    let start = before.timekeeper.start in
    subst (IsTimed new) (sym (is peer bytes)) (timed_step wall start old new (Answers call) (after_call before call) tells
    (called (times wall start old) before call timed))

pub timed_close : (old new : List Step) (before after : Turn) (peer : ℕ) (answer : Result Unit DoorFault)
    → ((p : ℕ) → after ≡ after_call before (CloseCall p answer))
    → new ≡ old ++ Answers (CloseCall peer answer) ∷ [] → IsTimed old before → IsTimed new after
timed_close old new before after peer answer is tells timed =
    let call : Call = CloseCall peer answer in
    let wall = before.timekeeper.wall in
    let start = before.timekeeper.start in
    subst (IsTimed new) (sym (is peer)) (timed_step wall start old new (Answers call) (after_call before call) tells
    (called (times wall start old) before call timed))

-- ---- a read of the door

-- no input is handed out in a turn that is late
unless_late : (late hands : Bool) → (late ≡ true → hands ≡ false) → not (late && hands) ≡ true
unless_late true hands f = ap not (f refl)
unless_late false hands f = refl

-- an end is reported if one may be
unless_ended : (reports ends : Bool) → (reports ≡ true → ends ≡ true) → (not reports || ends) ≡ true
unless_ended true ends f = f refl
unless_ended false ends f = refl

read_clock : (turn : Turn) (line : LineBoundary) (answer : Result Got DoorFault) (buffer : List ℕ)
    → turn.clock ≡ (after_read turn line answer buffer).clock
read_clock turn line (Ok (got.Bytes count)) buffer = refl
read_clock turn line (Ok got.Nothing) buffer = refl
read_clock turn line (Ok got.Ended) buffer = refl
read_clock turn line (Err fault) buffer = refl

-- what is to hold of a read in a turn, of a socket whose line that is
pub record IsAllowed (turn : Turn) (line : LineBoundary) (answer : Result Got DoorFault) (buffer : List ℕ) : Type 0 where
  pub prompt : turn.late ≡ true → hands_out answer ≡ false
  pub light : fits turn.pace (weight_of line (got_bytes answer buffer)) ≡ true
  pub single : reports_end answer ≡ true → turn.may_report_end ≡ true

read_rightly : (t : Times) (before : Turn) (line : LineBoundary) (who : ℕ) (answer : Result Got DoorFault) (buffer : List ℕ)
    → t.lines who ≡ line → IsAllowed before line answer buffer → Timed t before
    → Timed (answered_read t who answer buffer) (after_read before line answer buffer)
read_rightly t before line who answer buffer lined allowed h = record {
  same = ap (λ (u : Turn). after_read u (t.lines who) answer buffer) h.same ∙ ap (λ l. after_read before l answer buffer) lined;
  clock = h.clock ∙ read_clock before line answer buffer;
  kept = record {
    exact = h.kept.exact;
    punctual = h.kept.punctual;
    patient = h.kept.patient;
    prompt = both t.prompt (not (t.turn.late && hands_out answer)) h.kept.prompt
        (unless_late t.turn.late (hands_out answer) (λ e. allowed.prompt (ap (λ (u : Turn). u.late) (sym h.same) ∙ e)));
  };
  paced = record {
    light = both t.paced (fits t.turn.pace (weight_of (t.lines who) (got_bytes answer buffer))) h.paced.light
        (ap (λ (u : Turn). fits u.pace (weight_of (t.lines who) (got_bytes answer buffer))) h.same
        ∙ ap (λ l. fits before.pace (weight_of l (got_bytes answer buffer))) lined ∙ allowed.light);
    once = both t.single (not (reports_end answer) || t.turn.may_report_end) h.paced.once
        (unless_ended (reports_end answer) t.turn.may_report_end (λ e. ap (λ (u : Turn). u.may_report_end) h.same ∙ allowed.single e));
  };
  heard = h.heard;
  honest = h.honest;
}

read_from : (wall start : ℕ) (old new : List Step) (before : Turn) (line : LineBoundary) (who : ℕ) (answer : Result Got DoorFault)
    (buffer : List ℕ) → (times wall start old).lines who ≡ line → IsAllowed before line answer buffer
    → new ≡ old ++ Answers (ReadCall who answer buffer) ∷ [] → Timed (times wall start old) before
    → Timed (times wall start new) (after_read before line answer buffer)
read_from wall start old new before line who answer buffer lined allowed tells timed =
    timed_step wall start old new (Answers (ReadCall who answer buffer)) (after_read before line answer buffer) tells
    (read_rightly (times wall start old) before line who answer buffer lined allowed timed)

pub read_time : (turn : Turn) (line : LineBoundary) (answer : Result Got DoorFault) (buffer : List ℕ)
    → (after_read turn line answer buffer).timekeeper ≡ turn.timekeeper
read_time turn line (Ok (got.Bytes count)) buffer = refl
read_time turn line (Ok got.Nothing) buffer = refl
read_time turn line (Ok got.Ended) buffer = refl
read_time turn line (Err fault) buffer = refl

timed_by : (new : List Step) (before after : Turn) → after.timekeeper ≡ before.timekeeper
    → Timed (times before.timekeeper.wall before.timekeeper.start new) after → IsTimed new after
timed_by new before after same timed = subst (λ (m : Moments). Timed (times m.wall m.start new) after) (sym same) timed

pub timed_read : (old new : List Step) (before after : Turn) (line : LineBoundary) (who : ℕ) (answer : Result Got DoorFault)
    (buffer : List ℕ)
    → after ≡ after_read before line answer buffer
    → ((wall start : ℕ) → (times wall start old).lines who ≡ line)
    → IsAllowed before line answer buffer
    → new ≡ old ++ Answers (ReadCall who answer buffer) ∷ [] → IsTimed old before → IsTimed new after
timed_read old new before after line who answer buffer is lined allowed tells timed =
    subst (IsTimed new) (sym is)
    (timed_by new before (after_read before line answer buffer) (read_time before line answer buffer)
    (read_from before.timekeeper.wall before.timekeeper.start old new before line who answer buffer
    (lined before.timekeeper.wall before.timekeeper.start) allowed tells timed))

-- the line of a socket's peer is the one that the times say
pub line_kept : (log : List Step) (wall start : ℕ) (p : Peer) → IsKept log p → (times wall start log).lines p.number ≡ p.share.line
line_kept log wall start p kept = line_is wall start p.number log ∙ sym kept.line

-- a read that handed out nothing, of whatever line
fits_none : (pace : Pace) → fits pace 0 ≡ true
fits_none (Paced left) = grind (arith, nat_tests)
fits_none OneLine = refl

none_allowed : (turn : Turn) (line : LineBoundary) (answer : Result Got DoorFault) (buffer : List ℕ) → got_bytes answer buffer ≡ []
    → hands_out answer ≡ false → (reports_end answer ≡ true → turn.may_report_end ≡ true) → IsAllowed turn line answer buffer
none_allowed turn line answer buffer none kept_back ends = record {
  prompt = λ e. kept_back;
  light = ap (λ xs. fits turn.pace (weight_of line xs)) none ∙ fits_none turn.pace;
  single = ends;
}

none_from : (wall start : ℕ) (old new : List Step) (before after : Turn) (who : ℕ) (answer : Result Got DoorFault)
    (buffer : List ℕ) → ((line : LineBoundary) → after ≡ after_read before line answer buffer)
    → ((line : LineBoundary) → IsAllowed before line answer buffer) → new ≡ old ++ Answers (ReadCall who answer buffer) ∷ []
    → Timed (times wall start old) before → Timed (times wall start new) after
none_from wall start old new before after who answer buffer is allowed tells timed =
    let line = (times wall start old).lines who in
    subst (Timed (times wall start new)) (sym (is line))
    (read_from wall start old new before line who answer buffer refl (allowed line) tells timed)

pub timed_nothing : (old new : List Step) (turn : Turn) (who : ℕ) (buffer : List ℕ)
    → new ≡ old ++ Answers (ReadCall who (Ok got.Nothing) buffer) ∷ [] → IsTimed old turn → IsTimed new turn
timed_nothing old new turn who buffer tells timed =
    none_from turn.timekeeper.wall turn.timekeeper.start old new turn turn who (Ok got.Nothing) buffer (λ line. refl)
    (λ line. none_allowed turn line (Ok got.Nothing) buffer refl refl (λ e. absurd (true≢false (sym e)))) tells timed

-- nobody was there: that was reported, or nothing
pub timed_missed : (old new : List Step) (before after : Turn) (who : ℕ) (answer : Result Got DoorFault) (buffer : List ℕ)
    → (answer ≡ Ok got.Nothing ⊎ answer ≡ Err DoorFault.Read)
    → ((line : LineBoundary) (bytes : List ℕ) → after ≡ after_read before line answer bytes)
    → (reports_end answer ≡ true → before.may_report_end ≡ true)
    → new ≡ old ++ Answers (ReadCall who answer buffer) ∷ [] → IsTimed old before → IsTimed new after
timed_missed old new before after who answer buffer reported is ends tells timed =
    timed_by new before after (ap (λ (u : Turn). u.timekeeper) (is boundary.At buffer) ∙ read_time before boundary.At answer buffer)
    (none_from before.timekeeper.wall before.timekeeper.start old new before after who answer buffer (λ line. is line buffer)
    (λ line. none_allowed before line answer buffer none kept_back ends) tells timed)
  where
    none : got_bytes answer buffer ≡ []
    none = ⊎_elim (λ e. ap (λ a. got_bytes a buffer) e) (λ e. ap (λ a. got_bytes a buffer) e) reported

    kept_back : hands_out answer ≡ false
    kept_back = ⊎_elim (λ e. ap hands_out e) (λ e. ap hands_out e) reported

-- ---- a wait

within_ends : (left : ℕ) (most : Option ℕ) → IsWithin left most → ends_by left most ≡ true
within_ends left None h = absurd h
within_ends left (Some most) h = grind (arith, nat_tests)

left_in_time : (left most : Option ℕ) → ((n : ℕ) → left ≡ Some n → IsWithin n most) → option_map_or (λ n. ends_by n most) left true ≡ true
left_in_time None most ends = refl
left_in_time (Some left) most ends = within_ends left most (ends left refl)

unless_long : (short pending : Bool) → (short ≡ false → pending ≡ false) → (short || not pending) ≡ true
unless_long true pending f = refl
unless_long false pending f = ap not (f refl)

pub timed_wait : (old new : List Step) (turn : Turn) (most : Option ℕ) (count : ℕ) (ready : List Ready)
    → ((left : ℕ) → time_left turn ≡ Some left → IsWithin left most)
    → (is_short_wait most ≡ false → is_pending turn.slack turn.busy ≡ false)
    → new ≡ old ++ Waits most count ready ∷ [] → IsTimed old turn → IsTimed new (after_wait turn)
timed_wait old new turn most count ready ends quiet tells timed =
    timed_step turn.timekeeper.wall turn.timekeeper.start old new (Waits most count ready) (after_wait turn) tells
    (follows (times turn.timekeeper.wall turn.timekeeper.start old) timed)
  where
    follows : (t : Times) → Timed t turn → Timed (times_step t (Waits most count ready)) (after_wait turn)
    follows t h = record {
      same = ap after_wait h.same;
      clock = h.clock;
      kept = record {
        exact = h.kept.exact;
        punctual = both t.punctual (in_time t.turn most) h.kept.punctual
            (ap (λ (u : Turn). in_time u most) h.same ∙ left_in_time (time_left turn) most ends);
        patient = both t.patient (is_short_wait most || not (is_pending t.turn.slack t.turn.busy)) h.kept.patient
            (ap (λ (u : Turn). is_short_wait most || not (is_pending u.slack u.busy)) h.same
            ∙ unless_long (is_short_wait most) (is_pending turn.slack turn.busy) quiet);
        prompt = h.kept.prompt;
      };
      paced = record { light = h.paced.light; once = h.paced.once };
      heard = h.heard;
      honest = h.honest;
    }

-- ---- a moment

same_number : (n m : ℕ) → n ≡ m → (n == m) ≡ true
same_number n m e = grind (arith, nat_tests)

-- the clock showed nothing
unreported : (t : Times) (turn : Turn) → Timed t turn → Timed (answered_moment (clocked t None) (Err DoorFault.Now)) (begun turn false)
unreported t turn h = record {
  same = ap (λ (u : Turn). begun u false) h.same;
  clock = h.clock;
  kept = record {
    exact = h.kept.exact;
    punctual = h.kept.punctual;
    patient = h.kept.patient;
    prompt = h.kept.prompt;
  };
  paced = record { light = h.paced.light; once = h.paced.once };
  heard = h.heard;
  honest = h.honest;
}

-- the clock showed a time, and the moment that is to be reported then was reported
reported_rightly : (t : Times) (turn : Turn) (time : ℕ) → Timed t turn
    → Timed (answered_moment (clocked t (Some time)) (Ok (moment_at turn time))) (reported_at turn time (moment_at turn time))
reported_rightly t turn time h = record {
  same = ap (λ (u : Turn). reported_at u time (moment_at turn time)) h.same;
  clock = refl;
  kept = record {
    exact = both t.exact (moment_at turn time == moment_at t.turn time) h.kept.exact
        (same_number (moment_at turn time) (moment_at t.turn time) (ap (λ (u : Turn). moment_at u time) (sym h.same)));
    punctual = h.kept.punctual;
    patient = h.kept.patient;
    prompt = h.kept.prompt;
  };
  paced = record { light = h.paced.light; once = h.paced.once };
  heard = h.heard;
  honest = h.honest;
}

pub timed_moment : (old mid new : List Step) (before after : Turn) (shown : Option ℕ) (answer : Result ℕ DoorFault)
    → (shown ≡ None → (answer ≡ Err DoorFault.Now) × (after ≡ begun before false))
    → ((time : ℕ) → shown ≡ Some time → (answer ≡ Ok (moment_at before time)) × (after ≡ reported_at before time (moment_at before time)))
    → mid ≡ old ++ Clocks shown ∷ [] → new ≡ mid ++ Answers (NowCall answer) ∷ [] → IsTimed old before → IsTimed new after
timed_moment old mid new before after None answer none some clocks tells timed =
    let n = none refl in
    let wall = before.timekeeper.wall in
    let start = before.timekeeper.start in
    let t = times wall start old in
    subst (IsTimed new) (sym n.1)
    (timed_two wall start old mid new (Clocks None) (Answers (NowCall answer)) (begun before false) clocks tells
    (subst (λ (a : Result ℕ DoorFault). Timed (answered_moment (clocked t None) a) (begun before false)) (sym n.0)
    (unreported t before timed)))
timed_moment old mid new before after (Some time) answer none some clocks tells timed =
    let s = some time refl in
    let wall = before.timekeeper.wall in
    let start = before.timekeeper.start in
    let t = times wall start old in
    let next = reported_at before time (moment_at before time) in
    subst (IsTimed new) (sym s.1)
    (timed_two wall start old mid new (Clocks (Some time)) (Answers (NowCall answer)) next clocks tells
    (subst (λ (a : Result ℕ DoorFault). Timed (answered_moment (clocked t (Some time)) a) next) (sym s.0)
    (reported_rightly t before time timed)))

-- ---- the log is empty

pub timed_first : (log : List Step) (turn : Turn) → turn ≡ first_turn turn.timekeeper.wall turn.timekeeper.start → log ≡ []
    → IsTimed log turn
timed_first log turn is none = subst (λ (l : List Step). IsTimed l turn) (sym none) (record {
  same = sym is;
  clock = ap (λ (u : Turn). u.clock) (sym is);
  kept = record { exact = refl; punctual = refl; patient = refl; prompt = refl };
  paced = record { light = refl; once = refl };
  heard = refl;
  honest = refl;
})
