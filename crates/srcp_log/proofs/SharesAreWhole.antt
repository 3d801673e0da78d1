-- A share is whole in a turn behind one at whose end every line might go, and a read hands out all that may go then.
use Rattle.std.proofs.Common.{◌≡◌, ◌∙◌, ℕ, ◌+◌, ◌<◌, ◌≤◌, Bool, true, false, not, cond}
use Rattle.std.proofs.Common.{List, [], ◌∷◌, ◌++◌, refl, ap, sym, subst}
use Rattle.std.proofs.Common.{arith, ⊎_elim, ◌==◌, ◌&&◌, ◌||◌, Option, Some, None, Ok, Err, true≢false}
use Rattle.std.proofs.Common.{append-nil, append_assoc}
use Rattle.std.specs.Prelude.{◌≢◌, All, Result, fold, length, min, slice_index_or}
use Rattle.std.proofs.lemmas.Bool.{cases_lt}
use Rattle.std.proofs.lemmas.Bool.Decides.{nat_tests}
use Rattle.std.proofs.lemmas.List.Sums.{fold-append}
use Rattle.srcp_door.specs.Calls.{Call, ExpectCall, NowCall, AcceptCall, ReadCall, WriteCall, CloseCall}
use Rattle.srcp_door.specs.Moments.{Moments}
use Rattle.srcp_door.specs.Pacing.{is_short_pace}
use Rattle.srcp_door.specs.declared.door.DoorFault.{DoorFault}
use Rattle.srcp_door.specs.declared.door.Got.{Got}
use Rattle.srcp_door.specs.declared.pacing.Pace.{Pace}
use Rattle.srcp_door.specs.declared.pacing.Share.{Share}
use Rattle.srcp_peers.specs.declared.peer.Peer.{Peer}
use Rattle.srcp_peers.specs.declared.turn.Turn.{Turn}
use Rattle.srcp_peers.specs.AllPeers.{AreWithin}
use Rattle.srcp_peers.specs.Peers.{IsShared, KeepsShare}
use Rattle.srcp_peers.specs.Steps.{Accepts, Answers, Clocks, Closes, Reads, SaysNothing, Shuts, Step, Waits, Writes, call_of, calls}
use Rattle.srcp_peers.specs.Times.{Times, times_step}
use Rattle.srcp_peers.specs.Turns.{got_bytes}
use Rattle.srcp_peers.proofs.PeersRestByAccount.{and_left, and_right}
use Rattle.srcp_log.specs.KeptTimes.{IsTimed}
use Rattle.srcp_log.specs.Shares.{AreFilled, AreWhole, IsFilled, Sharing, SharesHold, anew_after, are_anew}
use Rattle.srcp_log.specs.Shares.{first_sharing, is_unread, sharing_step, unread_after, unread_called}
use Rattle.srcp_log.specs.Services.{AfterRead, AreInTurn, EachRead, IsInTurn, IsOrdered, made_after, services}
use Rattle.srcp_log.specs.Work.{AreFrom, IsFrom, last_after}
use Rattle.srcp_log.proofs.AcceptsAreAsked.{splits}
use Rattle.srcp_log.proofs.AnswersAreBounded.{not_silent}
use Rattle.srcp_log.proofs.PeersAreFrom.{from_weaker}
use Rattle.srcp_log.proofs.ServicesAreCounted.{Comes, KeepsServed, comes_calls, counted_goes, ordered_read, unserved}
use Rattle.srcp_log.proofs.WorkIsDone.{clocked_turn, no_calls, not_none, one_only, some_call}

-- ---- steps that are no answers

anew_step : (x : Sharing) (step : Step) → call_of step ≡ None → anew_after x step ≡ x.anew
anew_step x (Accepts number answer) none = refl
anew_step x (Reads who buffer answer) none = refl
anew_step x (Writes who bytes answer) none = refl
anew_step x (Waits most count ready) none = refl
anew_step x (Shuts who) none = refl
anew_step x (Closes who) none = refl
anew_step x (Clocks answer) none = refl
anew_step x (Answers call) none = absurd (some_call call none)

anew_came : (x : Sharing) (came : List Step) → calls came ≡ [] → (fold sharing_step x came).anew ≡ x.anew
anew_came x [] e = refl
anew_came x (step ∷ came) e =
    let none = no_calls step came e in
    anew_came (sharing_step x step) came none.1 ∙ anew_step x step none.0

unread_step : (socket : ℕ) (unread : Bool) (step : Step) → call_of step ≡ None → unread_after socket unread step ≡ unread
unread_step socket unread (Accepts number answer) none = refl
unread_step socket unread (Reads who buffer answer) none = refl
unread_step socket unread (Writes who bytes answer) none = refl
unread_step socket unread (Waits most count ready) none = refl
unread_step socket unread (Shuts who) none = refl
unread_step socket unread (Closes who) none = refl
unread_step socket unread (Clocks answer) none = refl
unread_step socket unread (Answers call) none = absurd (some_call call none)

unread_came : (socket : ℕ) (unread : Bool) (came : List Step) → calls came ≡ [] → fold (unread_after socket) unread came ≡ unread
unread_came socket unread [] e = refl
unread_came socket unread (step ∷ came) e =
    let none = no_calls step came e in
    unread_came socket (unread_after socket unread step) came none.1 ∙ unread_step socket unread step none.0

sharing_times : (x : Sharing) (log : List Step) → (fold sharing_step x log).times ≡ fold times_step x.times log
sharing_times x [] = refl
sharing_times x (step ∷ log) = sharing_times (sharing_step x step) log

-- ---- an answer behind such steps

abbrev pub comes_once : (old new : List Step) (call : Call) → new ≡ old ++ Answers call ∷ [] → Comes old call new
comes_once old new call is = ([], is, refl)

abbrev pub sharing_at : (wall start : ℕ) (old : List Step) → Sharing
sharing_at wall start old = fold sharing_step (first_sharing wall start) old

anew_of : (wall start : ℕ) (old new : List Step) (call : Call) (comes : Comes old call new)
    → are_anew wall start new ≡ anew_after (fold sharing_step (fold sharing_step (first_sharing wall start) old) comes.0) (Answers call)
anew_of wall start old new call (came, is, none) = ap (are_anew wall start) is
    ∙ ap (λ (x : Sharing). x.anew) (fold-append sharing_step (first_sharing wall start) old (came ++ Answers call ∷ []))
    ∙ ap (λ (x : Sharing). x.anew)
    (fold-append sharing_step (fold sharing_step (first_sharing wall start) old) came (Answers call ∷ []))

unread_of : (socket : ℕ) (old new : List Step) (call : Call) → Comes old call new
    → is_unread socket new ≡ unread_called socket (is_unread socket old) call
unread_of socket old new call (came, is, none) = ap (is_unread socket) is
    ∙ fold-append (unread_after socket) false old (came ++ Answers call ∷ [])
    ∙ fold-append (unread_after socket) (is_unread socket old) came (Answers call ∷ [])
    ∙ ap (λ b. unread_called socket b call) (unread_came socket (is_unread socket old) came none)

-- the shares of those that stay whole
whole_goes : (wall start : ℕ) (old new : List Step) (peers later : List Peer) → are_anew wall start new ≡ are_anew wall start old
    → ((socket : ℕ) → is_unread socket new ≡ true → is_unread socket old ≡ true)
    → All (λ peer. is_unread peer.number new ≡ true → IsFrom KeepsShare peers peer) later → AreWhole wall start old peers
    → AreWhole wall start new later
whole_goes wall start old new peers later same unread froms whole k d lt anew free =
    let q : Peer = slice_index_or later k d in
    let from : IsFrom KeepsShare peers q = froms k d lt free in
    let was : are_anew wall start old ≡ true → is_unread from.1.number old ≡ true → from.1.share.rest ≡ 256 =
    subst (λ (p : Peer). are_anew wall start old ≡ true → is_unread p.number old ≡ true → p.share.rest ≡ 256) from.3
    (whole from.0 from.1 from.2) in
    ap (λ (s : Share). s.rest) from.4.1.0
    ∙ was (sym same ∙ anew) (subst (λ (n : ℕ). is_unread n old ≡ true) from.4.0 (unread q.number free))

-- each read was as it should be
each_goes : (IsSuch : List Step → ℕ → Result Got DoorFault → List ℕ → Type 0) (old new : List Step) (call : Call)
    (comes : Comes old call new) → ((who : ℕ) (answer : Result Got DoorFault) (buffer : List ℕ) → call ≡ ReadCall who answer buffer
    → IsSuch (old ++ comes.0) who answer buffer) → EachRead IsSuch old → EachRead IsSuch new
each_goes IsSuch old new call (came, is, none) such was before after who answer buffer e = ⊎_elim
    (λ (here : (rest : List Step) × (old ≡ before ++ Answers x ∷ rest)). was before here.0 who answer buffer here.1)
    (λ (there : (mid : List Step) × (came ++ Answers call ∷ [] ≡ mid ++ Answers x ∷ after) × (before ≡ old ++ mid)). ⊎_elim
    (λ (here : (rest : List Step) × (came ≡ there.0 ++ Answers x ∷ rest)).
    absurd (not_silent there.0 here.0 x (ap calls (sym here.1) ∙ none)))
    (λ (last : (mid : List Step) × (Answers call ∷ [] ≡ mid ++ Answers x ∷ after) × (there.0 ≡ came ++ mid)).
    let one = one_only (Answers call) (Answers x) last.0 after last.1 in
    let same : call ≡ x = cc in
    let all : before ≡ old ++ came = cc (append-nil came) in
    subst (λ (l : List Step). IsSuch l who answer buffer) (sym all) (such who answer buffer same))
    (splits came (Answers call ∷ []) there.0 after (Answers x) there.1))
    (splits old (came ++ Answers call ∷ []) before after (Answers x) (sym is ∙ e))
  where
    x : Call
    x = ReadCall who answer buffer

-- ---- a call that is neither for a moment nor a read

abbrev pub leaves_shares : Call → Bool
leaves_shares (NowCall answer) = false
leaves_shares (ReadCall who answer buffer) = false
leaves_shares other = true

stays_anew : (x : Sharing) (call : Call) → leaves_shares call ≡ true → anew_after x (Answers call) ≡ x.anew
stays_anew x (ExpectCall due slack) e = refl
stays_anew x (NowCall answer) e = absurd (true≢false (sym e))
stays_anew x (AcceptCall answer) e = refl
stays_anew x (ReadCall who answer buffer) e = absurd (true≢false (sym e))
stays_anew x (WriteCall who bytes answer) e = refl
stays_anew x (CloseCall who answer) e = refl

was_unread : (socket : ℕ) (unread : Bool) (call : Call) → leaves_shares call ≡ true → unread_called socket unread call ≡ true
    → unread ≡ true
was_unread socket unread (ExpectCall due slack) e free = free
was_unread socket unread (NowCall answer) e free = absurd (true≢false (sym e))
was_unread socket unread (AcceptCall (Ok (Some number))) e free = and_right (not (number == socket)) unread free
was_unread socket unread (AcceptCall (Ok None)) e free = free
was_unread socket unread (AcceptCall (Err fault)) e free = free
was_unread socket unread (ReadCall who answer buffer) e free = absurd (true≢false (sym e))
was_unread socket unread (WriteCall who bytes answer) e free = free
was_unread socket unread (CloseCall who answer) e free = free

no_read : (call : Call) (who : ℕ) (answer : Result Got DoorFault) (buffer : List ℕ) → leaves_shares call ≡ true
    → call ≡ ReadCall who answer buffer → ⊥
no_read call who answer buffer e is = true≢false (sym e ∙ ap leaves_shares is)

pub shares_called : (old new : List Step) (call : Call) (before after : Turn) (made now : ℕ) (peers later : List Peer)
    → Comes old call new → leaves_shares call ≡ true → after.timekeeper ≡ before.timekeeper → now ≡ made_after call made
    → All (IsOrdered call now peers) later → All (λ peer. is_unread peer.number new ≡ true → IsFrom KeepsShare peers peer) later
    → SharesHold old before made peers → SharesHold new after now later
shares_called old new call before after made now peers later comes leaves clocks counts ordered froms h = record {
  whole = subst (λ (m : Moments). AreWhole m.wall m.start new later) (sym clocks)
      (whole_goes wall start old new peers later
      (anew_of wall start old new call comes ∙ stays_anew (fold sharing_step (sharing_at wall start old) comes.0) call leaves
      ∙ anew_came (sharing_at wall start old) comes.0 comes.2)
      (λ socket free. was_unread socket (is_unread socket old) call leaves (sym (unread_of socket old new call comes) ∙ free))
      froms h.whole);
  filled = subst (λ (m : Moments). AreFilled m.wall m.start new) (sym clocks)
      (each_goes (IsFilled wall start) old new call comes
      (λ who answer buffer is. absurd (no_read call who answer buffer leaves is)) h.filled);
  counted = counted_goes old new call made now peers later (comes_calls old new call comes) counts ordered h.counted;
  in_turn = subst (λ (m : Moments). AreInTurn m.wall m.start new) (sym clocks)
      (each_goes (IsInTurn wall start) old new call comes
      (λ who answer buffer is. absurd (no_read call who answer buffer leaves is)) h.in_turn);
}
  where
    wall : ℕ
    wall = before.timekeeper.wall

    start : ℕ
    start = before.timekeeper.start

equal : (a b : ℕ) → a ≡ b → (a == b) ≡ true
equal a b is = grind (arith, nat_tests)

-- who came since is not unread, so each that is was there
pub came_from : (old new : List Step) (answer : Result (Option ℕ) DoorFault) (last above : ℕ) (peers later : List Peer)
    → Comes old (AcceptCall answer) new → ((number : ℕ) → answer ≡ Ok (Some number) → number ≡ last + 1)
    → above ≡ last_after last answer → AreWithin above later
    → All (λ peer. peer.number ≤ last → IsFrom KeepsShare peers peer) later
    → All (λ peer. is_unread peer.number new ≡ true → IsFrom KeepsShare peers peer) later
came_from old new answer last above peers later comes next is within froms k d lt free = ⊎_elim
    (λ (came : last < q.number). absurd (by came answer refl))
    (λ (was : q.number ≤ last). froms k d lt was)
    (cases_lt last q.number)
  where
    q : Peer
    q = slice_index_or later k d

    low : q.number ≤ above
    low = (within k d lt).1

    by : last < q.number → (a : Result (Option ℕ) DoorFault) → answer ≡ a → ⊥
    by came (Ok (Some n)) e =
        let up : above ≡ n = is ∙ ap (last_after last) e in
        let one : n ≡ last + 1 = next n e in
        let same : (n == q.number) ≡ true = equal n q.number (omega (arith, up, one, low, came)) in
        true≢false (sym free ∙ unread_of q.number old new (AcceptCall answer) comes
        ∙ ap (λ r. unread_called q.number (is_unread q.number old) (AcceptCall r)) e
        ∙ ap (λ b. not b && is_unread q.number old) same)
    by came (Ok None) e = let up : above ≡ last = is ∙ ap (last_after last) e in omega (arith, up, low, came)
    by came (Err fault) e = let up : above ≡ last = is ∙ ap (last_after last) e in omega (arith, up, low, came)

-- ---- a read

other_one : (who number : ℕ) (unread : Bool) → (not (who == number) && unread) ≡ true → (number ≢ who) × (unread ≡ true)
other_one who number unread e = (
  λ same. absurd (true≢false (sym (and_left (not (who == number)) unread e) ∙ ap not (equal who number (sym same)))),
  and_right (not (who == number)) unread e,
)

pub shares_read : (old new : List Step) (before after : Turn) (made now : ℕ) (peers later : List Peer) (who : ℕ)
    (answer : Result Got DoorFault) (buffer : List ℕ) → new ≡ old ++ Answers (ReadCall who answer buffer) ∷ []
    → after.timekeeper ≡ before.timekeeper → now ≡ made_after (ReadCall who answer buffer) made
    → AreFrom (AfterRead who (got_bytes answer buffer) now) peers later
    → IsFilled before.timekeeper.wall before.timekeeper.start old who answer buffer
    → IsInTurn before.timekeeper.wall before.timekeeper.start old who answer buffer
    → SharesHold old before made peers → SharesHold new after now later
shares_read old new before after made now peers later who answer buffer tells clocks counts froms fills turn h = record {
  whole = subst (λ (m : Moments). AreWhole m.wall m.start new later) (sym clocks)
      (whole_goes wall start old new peers later (anew_of wall start old new call comes)
      (λ socket free. (other_one who socket (is_unread socket old) (sym (unread_of socket old new call comes) ∙ free)).1)
      (λ k d lt free.
      let from = froms k d lt in
      let q : Peer = slice_index_or later k d in
      let other = other_one who q.number (is_unread q.number old) (sym (unread_of q.number old new call comes) ∙ free) in
      (from.0, from.1, from.2, from.3, (from.4.0, from.4.1.0 other.0))) h.whole);
  filled = subst (λ (m : Moments). AreFilled m.wall m.start new) (sym clocks)
      (each_goes (IsFilled wall start) old new call comes
      (λ w a b is. subst (λ (l : List Step). IsFilled wall start l w a b) (sym (append-nil old))
      (the_read (IsFilled wall start old) fills w a b is)) h.filled);
  counted = counted_goes old new call made now peers later (comes_calls old new call comes) counts
      (ordered_read who answer buffer now peers later froms) h.counted;
  in_turn = subst (λ (m : Moments). AreInTurn m.wall m.start new) (sym clocks)
      (each_goes (IsInTurn wall start) old new call comes
      (λ w a b is. subst (λ (l : List Step). IsInTurn wall start l w a b) (sym (append-nil old))
      (the_read (IsInTurn wall start old) turn w a b is)) h.in_turn);
}
  where
    call : Call
    call = ReadCall who answer buffer

    comes : Comes old call new
    comes = comes_once old new call tells

    wall : ℕ
    wall = before.timekeeper.wall

    start : ℕ
    start = before.timekeeper.start

    the_read : (IsSuch : ℕ → Result Got DoorFault → List ℕ → Type 0) → IsSuch who answer buffer
        → (w : ℕ) (a : Result Got DoorFault) (b : List ℕ) → ReadCall who answer buffer ≡ ReadCall w a b → IsSuch w a b
    the_read IsSuch such w a b is =
        let one : who ≡ w = cc in
        let two : answer ≡ a = cc in
        let three : buffer ≡ b = cc in
        subst (λ (n : ℕ). IsSuch n a b) one
        (subst (λ (r : Result Got DoorFault). IsSuch who r b) two (subst (IsSuch who answer) three such))

-- in a late turn no read is meant
pub late_filled : (old : List Step) (turn : Turn) (who : ℕ) (answer : Result Got DoorFault) (buffer : List ℕ) → IsTimed old turn
    → turn.late ≡ true → IsFilled turn.timekeeper.wall turn.timekeeper.start old who answer buffer
late_filled old turn who answer buffer timed late first =
    absurd (true≢false (sym late ∙ ap (λ (t : Turn). t.late) (sym timed.same) ∙ first.early))

-- ---- a moment

pub shares_now : (old mid new : List Step) (first begun after : Turn) (made now : ℕ) (peers later : List Peer)
    (shown : Option ℕ) (answer : Result ℕ DoorFault) → SaysNothing old mid → new ≡ mid ++ Clocks shown ∷ Answers (NowCall answer) ∷ []
    → begun.timekeeper ≡ first.timekeeper → begun.pace ≡ first.pace → begun.late ≡ first.late
    → (after.timekeeper.wall ≡ begun.timekeeper.wall) × (after.timekeeper.start ≡ begun.timekeeper.start) → now ≡ made
    → IsTimed mid begun → AreFrom (IsShared (not (is_short_pace first.pace || first.late))) peers later
    → SharesHold old first made peers → SharesHold new after now later
shares_now old mid new first begun after made now peers later shown answer says tells clocks pace late same counts timed froms h = record {
  whole = at_clocks (λ w s. AreWhole w s new later)
      (λ k d lt anew free.
      let from = froms k d lt in
      let renewed : not (is_short_pace first.pace || first.late) ≡ true =
      sym (ap (λ (p : Pace). not (is_short_pace p || first.late)) pace)
      ∙ sym (ap (λ (b : Bool). not (is_short_pace begun.pace || b)) late) ∙ sym anew_now ∙ anew in
      from.4.1.0 ∙ ap (λ (b : Bool). cond b 256 from.1.share.rest) renewed);
  filled = at_clocks (λ w s. AreFilled w s new)
      (each_goes (IsFilled wall start) old new call comes (λ w a b is. absurd (no_moment w a b is))
      (subst (λ (m : Moments). AreFilled m.wall m.start old) (sym clocks) h.filled));
  counted = counted_goes old new call made now peers later (comes_calls old new call comes) counts
      (unserved call now peers later refl
      (from_weaker (IsShared (not (is_short_pace first.pace || first.late))) KeepsServed (λ was p shared. shared.1) peers later froms))
      h.counted;
  in_turn = at_clocks (λ w s. AreInTurn w s new)
      (each_goes (IsInTurn wall start) old new call comes (λ w a b is. absurd (no_moment w a b is))
      (subst (λ (m : Moments). AreInTurn m.wall m.start old) (sym clocks) h.in_turn));
}
  where
    call : Call
    call = NowCall answer

    wall : ℕ
    wall = begun.timekeeper.wall

    start : ℕ
    start = begun.timekeeper.start

    no_moment : (w : ℕ) (a : Result Got DoorFault) (b : List ℕ) → NowCall answer ≡ ReadCall w a b → ⊥
    no_moment w a b is = cc

    at_clocks : (P : ℕ → ℕ → Type 0) → P wall start → P after.timekeeper.wall after.timekeeper.start
    at_clocks P holds = subst (λ (w : ℕ). P w after.timekeeper.start) (sym same.0) (subst (λ (s : ℕ). P wall s) (sym same.1) holds)

    comes : Comes old call new
    comes = (
      says.0 ++ Clocks shown ∷ [],
      tells ∙ ap (λ (l : List Step). l ++ Clocks shown ∷ Answers call ∷ []) says.1
          ∙ append_assoc old says.0 (Clocks shown ∷ Answers call ∷ [])
          ∙ ap (λ (l : List Step). old ++ l) (sym (append_assoc says.0 (Clocks shown ∷ []) (Answers call ∷ []))),
      silent says.0 says.2,
    )
      where
        silent : (came : List Step) → calls came ≡ [] → calls (came ++ Clocks shown ∷ []) ≡ []
        silent [] e = refl
        silent (step ∷ came) e =
            let none = no_calls step came e in
            by step none.0 (silent came none.1)
          where
            by : (s : Step) → call_of s ≡ None → calls (came ++ Clocks shown ∷ []) ≡ [] → calls (s ∷ (came ++ Clocks shown ∷ [])) ≡ []
            by (Accepts number said) n f = f
            by (Reads who buffer said) n f = f
            by (Writes who bytes said) n f = f
            by (Waits most count ready) n f = f
            by (Shuts who) n f = f
            by (Closes who) n f = f
            by (Clocks said) n f = f
            by (Answers other) n f = absurd (some_call other n)

    told : Sharing
    told = fold sharing_step (first_sharing wall start) mid

    turn_is : (sharing_step told (Clocks shown)).times.turn ≡ begun
    turn_is = clocked_turn told.times shown ∙ ap (λ (t : Times). t.turn) (sharing_times (first_sharing wall start) mid) ∙ timed.same

    anew_now : are_anew wall start new ≡ not (is_short_pace begun.pace || begun.late)
    anew_now = ap (are_anew wall start) tells
        ∙ ap (λ (x : Sharing). x.anew) (fold-append sharing_step (first_sharing wall start) mid (Clocks shown ∷ Answers call ∷ []))
        ∙ ap (λ (t : Turn). not (is_short_pace t.pace || t.late)) turn_is

-- ---- no step was made

pub shares_first : (log : List Step) (turn : Turn) (made : ℕ) (peers : List Peer) → log ≡ [] → made ≡ 0 → length peers ≡ 0
    → SharesHold log turn made peers
shares_first log turn made peers none zero nobody = record {
  whole = λ k d lt anew free. absurd (true≢false (sym anew ∙ ap (are_anew turn.timekeeper.wall turn.timekeeper.start) none));
  filled = λ before after who answer buffer is.
      absurd (not_none (Answers (ReadCall who answer buffer)) before after (sym none ∙ is));
  counted = record {
    count = λ socket. zero ∙ sym (ap (λ (l : List Step). min (services socket (calls l)).count 18446744073709551615) none);
    last = λ k d lt. absurd (omega (arith, lt, nobody));
  };
  in_turn = λ before after who answer buffer is.
      absurd (not_none (Answers (ReadCall who answer buffer)) before after (sym none ∙ is));
}
