-- What a read answers that is made in time.
use Rattle.std.proofs.Common.{◌≡◌, ◌∙◌, ℕ, suc, ◌<◌, ◌≤◌, Bool, true, false, not}
use Rattle.std.proofs.Common.{List, [], ◌∷◌, ◌++◌, length, take, drop, refl, ap, sym, subst}
use Rattle.std.proofs.Common.{arith, ⊎_elim, ◌==◌, ◌&&◌, ◌||◌, cond, Ok, Err, true≢false}
use Rattle.std.specs.Prelude.{◌≢◌, Result, min}
use Rattle.std.proofs.Math.Seq.{drop-append_seam}
use Rattle.std.proofs.lemmas.Bool.{cases_lt}
use Rattle.std.proofs.lemmas.Bool.Decides.{nat_tests}
use Rattle.srcp_door.specs.Pacing.{Allows, IsLongest, IsShare, lines, rest_at, weight_of}
use Rattle.srcp_door.specs.declared.door.DoorFault.{DoorFault}
use Rattle.srcp_door.specs.declared.door.DoorFault.TheVariants as fault
use Rattle.srcp_door.specs.declared.door.Got.{Got}
use Rattle.srcp_door.specs.declared.door.Got.TheVariants as got
use Rattle.srcp_door.specs.declared.pacing.LineBoundary.{LineBoundary}
use Rattle.srcp_door.specs.declared.pacing.Pace.{Pace}
use Rattle.srcp_door.specs.declared.pacing.Pace.TheVariants.{Paced, OneLine}
use Rattle.srcp_door.specs.declared.pacing.Share.{Share}
use Rattle.srcp_peers.specs.declared.ending.Ending.{Ending}
use Rattle.srcp_peers.specs.declared.peer.Peer.{Peer}
use Rattle.srcp_peers.specs.declared.readiness.Input.{Input}
use Rattle.srcp_peers.specs.declared.readiness.Input.TheVariants as input
use Rattle.srcp_peers.specs.declared.readiness.Output.{Output}
use Rattle.srcp_peers.specs.declared.readiness.Output.TheVariants as output
use Rattle.srcp_peers.specs.declared.stay.Stay.TheVariants as stay
use Rattle.srcp_peers.specs.declared.turn.Turn.{Turn}
use Rattle.srcp_peers.specs.Accounts.{Account, Received, Sent, account, is_held, is_owed, may_end}
use Rattle.srcp_peers.specs.Peers.{Agrees, FindsAs, IsKept, ReadsAs, StaysAs, WritesAs, is_lost, is_over}
use Rattle.srcp_peers.specs.Reports.{IsAnswered, has_failed, is_ended, is_failed, is_settled, piece_of}
use Rattle.srcp_peers.specs.Steps.{Step}
use Rattle.srcp_peers.specs.Times.{times}
use Rattle.srcp_peers.specs.Turns.{got_bytes, own_pace}
use Rattle.srcp_peers.proofs.PeersRestByAccount.{and_left, and_right, held_is, owed_is}
use Rattle.srcp_peers.proofs.StatesFollowSteps.{reads_here}
use Rattle.srcp_log.specs.Duties.{IsHandedOut, IsReadDone, held_piece, is_end, is_failing, is_fault}
use Rattle.srcp_log.specs.Endings.{ending_of, is_all_read, is_as_far}
use Rattle.srcp_log.specs.KeptTimes.{Timed}
use Rattle.srcp_log.proofs.EndsAreTold.{over_as, settled_so}
use Rattle.srcp_log.proofs.TimesGoOn.{line_kept}

-- ---- what is handed out

-- no prefix that may go has more lines than the longest
pub no_more : (line : LineBoundary) (most : ℕ) (piece : List ℕ) (count n : ℕ) → IsLongest line most piece count → n ≤ length piece
    → weight_of line (take n piece) ≤ most → lines (take n piece) ≤ lines (take count piece)
no_more line most piece count n longest within light = ⊎_elim
    (λ (more : lines (take count piece) < lines (take n piece)).
    let heavy : most < weight_of line (take n piece) = longest.longest n within more in
    absurd (omega (arith, heavy, light)))
    (λ (fewer : lines (take n piece) ≤ lines (take count piece)). fewer)
    (cases_lt (lines (take count piece)) (lines (take n piece)))

light_longest : (line : LineBoundary) (most : ℕ) (piece : List ℕ) (count : ℕ) → IsLongest line most piece count
    → IsHandedOut line piece count
light_longest line most piece count h = record {
  begun = h.begun;
  light = λ n within none. no_more line most piece count n h within (omega (arith, none));
}

granted : (line : LineBoundary) (most rest : ℕ) (piece : List ℕ) (count : ℕ) → IsShare line most rest piece count
    → IsHandedOut line piece count
granted line most rest piece count h = light_longest line (weight_of line (take h.own (take rest piece))) piece count h.longest

allowed : (pace : Pace) (share : Share) (piece : List ℕ) (count : ℕ) → Allows pace share piece count
    → IsHandedOut share.line piece count
allowed (Paced left) share piece count h = granted share.line left (rest_at (Paced left) share piece) piece count h
allowed OneLine share piece count h = granted share.line h.first (rest_at OneLine share piece) piece count h.share

-- ---- who failed

pub lost_as : (sent : Sent) (outgoing : List ℕ) (state : Output) → WritesAs sent outgoing state → is_lost state ≡ sent.lost
lost_as sent outgoing output.Open h = sym h.1
lost_as sent outgoing output.Full h = sym h.1
lost_as sent outgoing output.Lost h = sym h.1

failed_as : (received : Received) (state : Input) → FindsAs received state → has_failed state ≡ received.failed
failed_as received input.Ready h = sym h.0
failed_as received input.Emptying h = sym h.0
failed_as received input.Quiet h = sym h.0
failed_as received input.Ended h = sym h.0
failed_as received input.Failed h = sym h.0

none_held : (incoming : List ℕ) → not (length incoming == 0) ≡ false → incoming ≡ []
none_held [] e = refl
none_held (byte ∷ incoming) e = absurd (true≢false (sym (some (length incoming)) ∙ e))
  where
    some : (n : ℕ) → not (suc n == 0) ≡ true
    some n = grind (arith, nat_tests)

not_held : (held either : Bool) → (not held && either) ≡ true → held ≡ false
not_held true either e = absurd (true≢false (sym e))
not_held false either e = refl

watched_fails : (watched rest : Bool) → watched ≡ true → (not watched || rest) ≡ true → rest ≡ true
watched_fails true rest w e = e
watched_fails false rest w e = absurd (true≢false (sym w))

-- ---- who ended

not_so : (b : Bool) → not b ≡ true → b ≡ false
not_so true e = absurd (true≢false (sym e))
not_so false e = refl

-- one of which nothing is held, and that is not failing
sound_so : (watched held lost failed : Bool) → watched ≡ true → held ≡ false → (not watched || (not held && (lost || failed))) ≡ false
    → (lost ≡ false) × (failed ≡ false)
sound_so true true lost failed w h e = absurd (true≢false h)
sound_so true false true failed w h e = absurd (true≢false e)
sound_so true false false failed w h e = (refl, e)
sound_so false held lost failed w h e = absurd (true≢false (sym w))

all_taken : (none : Bool) → not none ≡ false → none ≡ true
all_taken true e = refl
all_taken false e = absurd (true≢false e)

-- its socket took all
none_queued : (sent : Sent) (outgoing : List ℕ) (state : Output) → WritesAs sent outgoing state → sent.lost ≡ false
    → is_owed sent ≡ false → (length outgoing == 0) ≡ true
none_queued sent outgoing output.Open h lost owed = all_taken (length outgoing == 0) (sym (owed_is sent outgoing h.0) ∙ owed)
none_queued sent outgoing output.Full h lost owed = all_taken (length outgoing == 0) (sym (owed_is sent outgoing h.0) ∙ owed)
none_queued sent outgoing output.Lost h lost owed = absurd (true≢false (sym h.1 ∙ lost))

three : (a b c : Bool) → a ≡ true → b ≡ true → c ≡ true → (a && (b && c)) ≡ true
three a b c e f g = rw (e, f, g) refl

all_read : (received : Received) → received.ended ≡ true → received.failed ≡ false → is_held received ≡ false
    → is_all_read received ≡ true
all_read received e f h = three received.ended (not received.failed) (not (is_held received)) e (ap not f) (ap not h)

-- a peer that is what its account says
leaves : (a : Account) (p : Peer) (wanted : Ending) → Agrees a p → p.stay ≡ stay.Here → is_as_far wanted p.ending ≡ true
    → may_end a ≡ true → is_failing a ≡ false → is_settled wanted ≡ true → (p.incoming ≡ []) × (is_failed p ≡ false) × (is_ended p ≡ true)
leaves a p wanted h here far may sound settled =
    let reads : ReadsAs a.received p.incoming p.input = reads_here a.received p.incoming p.input p.stay here h.reads in
    let stays : StaysAs a.watched a.lingering p.outgoing stay.Here = subst (StaysAs a.watched a.lingering p.outgoing) here h.stays in
    let ended : a.received.ended ≡ true = and_left a.received.ended (not (is_held a.received) && not (is_owed a.sent)) may in
    let rest : (not (is_held a.received) && not (is_owed a.sent)) ≡ true =
    and_right a.received.ended (not (is_held a.received) && not (is_owed a.sent)) may in
    let held : is_held a.received ≡ false = not_so (is_held a.received) (and_left (not (is_held a.received)) (not (is_owed a.sent)) rest) in
    let owed : is_owed a.sent ≡ false = not_so (is_owed a.sent) (and_right (not (is_held a.received)) (not (is_owed a.sent)) rest) in
    let is : is_held a.received ≡ not (length p.incoming == 0) =
    held_is a.received p.incoming reads.0 in
    let none : p.incoming ≡ [] = none_held p.incoming (sym is ∙ held) in
    let both = sound_so a.watched (is_held a.received) a.sent.lost a.received.failed stays.0 held sound in
    let over : is_over [] p.input ≡ true = ap (λ xs. is_over xs p.input) (sym none)
    ∙ over_as a.received p.incoming p.input reads ∙ all_read a.received ended both.1 held in (
      none,
      ap (λ b. b || has_failed p.input) (lost_as a.sent p.outgoing p.output h.writes ∙ both.0)
          ∙ failed_as a.received p.input reads.1 ∙ both.1,
      three (is_over [] p.input) (is_settled p.ending) (length p.outgoing == 0) over (settled_so wanted p.ending far settled)
          (none_queued a.sent p.outgoing p.output h.writes both.0 owed),
    )

-- ---- the answer

-- the piece of it is the one that its account says
pub piece_held : (received : Received) (p : Peer) (space : ℕ) (buffer : List ℕ) → received.gave ≡ received.handed ++ p.incoming
    → length buffer ≡ space → piece_of p space ≡ held_piece received (length buffer)
piece_held received p space buffer gave long =
    ap (λ n. take (min 256 n) p.incoming) (sym long)
    ∙ ap (take (min 256 (length buffer))) (sym (ap (drop (length received.handed)) gave ∙ drop-append_seam received.handed p.incoming))

-- of a peer that is there
pub read_done : (wall start : ℕ) (log : List Step) (turn : Turn) (waits : Bool) (p : Peer) (answer : Result Got DoorFault)
    (buffer : List ℕ) (space : ℕ) → Timed (times wall start log) turn → IsKept log p
    → p.stay ≡ stay.Here → is_as_far (ending_of p.number log) p.ending ≡ true → length buffer ≡ space
    → IsAnswered turn waits p space answer (got_bytes answer buffer)
    → IsReadDone wall start log p.number answer buffer
read_done wall start log turn waits p answer buffer space timed agrees here far long answered =
    let a : Account = account p.number log in
    let h : Agrees a p = agrees in
    let reads : ReadsAs a.received p.incoming p.input = reads_here a.received p.incoming p.input p.stay here h.reads in
    let gave : a.received.gave ≡ a.received.handed ++ p.incoming = reads.0 in
    let held : is_held a.received ≡ not (length p.incoming == 0) = held_is a.received p.incoming gave in
    let stays : StaysAs a.watched a.lingering p.outgoing stay.Here = subst (StaysAs a.watched a.lingering p.outgoing) here h.stays in
    let some : is_held a.received ≡ true → p.incoming ≢ [] = λ e none.
    true≢false (sym e ∙ held ∙ ap (λ (xs : List ℕ). not (length xs == 0)) none) in
    let piece : piece_of p space ≡ held_piece a.received (length buffer) = piece_held a.received p space buffer gave long in
    record {
      told = λ ends failing.
          let rest = watched_fails a.watched (not (is_held a.received) && (a.sent.lost || a.received.failed)) stays.0 failing in
          let none = none_held p.incoming (sym held ∙ not_held (is_held a.received) (a.sent.lost || a.received.failed) rest) in
          let fails : is_failed p ≡ true = ap (λ b. b || has_failed p.input) (lost_as a.sent p.outgoing p.output h.writes)
          ∙ ap (λ b. a.sent.lost || b) (failed_as a.received p.input reads.1)
          ∙ and_right (not (is_held a.received)) (a.sent.lost || a.received.failed) rest in
          let may : turn.may_report_end ≡ true = ap (λ (t : Turn). t.may_report_end) (sym timed.same) ∙ ends in
          let end : Result Got DoorFault = cond (is_ended p) (Ok got.Ended) (Ok got.Nothing) in
          ap is_fault (answered.end none ∙ ap (λ b. cond b (cond (is_failed p) (Err fault.Read) end) (Ok got.Nothing)) may
          ∙ ap (λ b. cond b (Err fault.Read) end) fails);
      ended = λ ends leaving.
          let settled : is_settled (ending_of p.number log) ≡ true =
          and_right (may_end a && not (is_failing a)) (is_settled (ending_of p.number log)) leaving in
          let sound : (may_end a && not (is_failing a)) ≡ true =
          and_left (may_end a && not (is_failing a)) (is_settled (ending_of p.number log)) leaving in
          let l = leaves a p (ending_of p.number log) h here far (and_left (may_end a) (not (is_failing a)) sound)
          (not_so (is_failing a) (and_right (may_end a) (not (is_failing a)) sound)) settled in
          let may : turn.may_report_end ≡ true = ap (λ (t : Turn). t.may_report_end) (sym timed.same) ∙ ends in
          let end : Result Got DoorFault = cond (is_ended p) (Ok got.Ended) (Ok got.Nothing) in
          ap is_end (answered.end l.0 ∙ ap (λ b. cond b (cond (is_failed p) (Err fault.Read) end) (Ok got.Nothing)) may
          ∙ ap (λ b. cond b (Err fault.Read) end) l.1 ∙ ap (λ b. cond b (Ok got.Ended) (Ok got.Nothing)) l.2);
      held = λ watched e. (answered.some (some e)).0;
      handed = λ watched e.
          subst (λ (l : LineBoundary). IsHandedOut l (held_piece a.received (length buffer)) (length (got_bytes answer buffer)))
          (sym (line_kept log wall start p agrees))
          (subst (λ (xs : List ℕ). IsHandedOut p.share.line xs (length (got_bytes answer buffer))) piece
          (allowed (own_pace waits turn.pace) p.share (piece_of p space) (length (got_bytes answer buffer)) (answered.some (some e)).1));
    }

-- of one that is not there
pub missing_done : (wall start : ℕ) (log : List Step) (turn : Turn) (who : ℕ) (answer : Result Got DoorFault) (buffer : List ℕ)
    → Timed (times wall start log) turn → (account who log).watched ≡ false
    → answer ≡ cond turn.may_report_end (Err fault.Read) (Ok got.Nothing) → IsReadDone wall start log who answer buffer
missing_done wall start log turn who answer buffer timed missing answered = record {
  told = λ ends failing.
      let may : turn.may_report_end ≡ true = ap (λ (t : Turn). t.may_report_end) (sym timed.same) ∙ ends in
      ap is_fault (answered ∙ ap (λ b. cond b (Err fault.Read) (Ok got.Nothing)) may);
  ended = λ ends leaving.
      let a : Account = account who log in
      let sound : (may_end a && not (is_failing a)) ≡ true =
      and_left (may_end a && not (is_failing a)) (is_settled (ending_of who log)) leaving in
      let fails : is_failing a ≡ true = ap (λ w. not w || (not (is_held a.received) && (a.sent.lost || a.received.failed))) missing in
      absurd (true≢false (sym fails ∙ not_so (is_failing a) (and_right (may_end a) (not (is_failing a)) sound)));
  held = λ watched e. absurd (true≢false (sym watched ∙ missing));
  handed = λ watched e. absurd (true≢false (sym watched ∙ missing));
}
