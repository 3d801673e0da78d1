-- A wait is short for a reason.
use Rattle.std.proofs.Common.{◌≡◌, ◌∙◌, ℕ, suc, Bool, true, false, not, List, [], ◌∷◌, refl, ap, sym, arith, ◌==◌, true≢false}
use Rattle.std.specs.Prelude.{All, ◌&&◌, ◌||◌, cond, slice_index_or, Option, Some, None}
use Rattle.std.specs.List.{list_all, list_any}
use Rattle.std.proofs.lemmas.Bool.Decides.{nat_tests}
use Rattle.std.proofs.lemmas.List.Folds.{list_any_none}
use Rattle.srcp_peers.specs.declared.peer.Peer.{Peer}
use Rattle.srcp_peers.specs.declared.stay.Stay.{Stay}
use Rattle.srcp_peers.specs.declared.stay.Stay.TheVariants as stay
use Rattle.srcp_peers.specs.declared.turn.Listening.{Listening}
use Rattle.srcp_peers.specs.declared.turn.Listening.TheVariants as listening
use Rattle.srcp_peers.specs.declared.turn.Turn.{Turn}
use Rattle.srcp_peers.specs.Accounts.{Lingering, account, has_nothing, is_full, is_held, is_owed}
use Rattle.srcp_peers.specs.Peers.{Agrees, StaysAs, has_rest, is_busy, is_here, is_resting}
use Rattle.srcp_peers.specs.Steps.{Step}
use Rattle.srcp_peers.specs.Times.{times}
use Rattle.srcp_peers.specs.Turns.{backpressure_delay, is_pending, time_left}
use Rattle.srcp_peers.specs.Waiting.{longest_wait, quiet_wait, sooner}
use Rattle.srcp_peers.proofs.PeersRestByAccount.{and_left, and_right, rest_is}
use Rattle.srcp_peers.proofs.UnreadPeersAreRead.{both}
use Rattle.srcp_log.specs.Doors.{Hears, Stands, is_quiet}
use Rattle.srcp_log.specs.KeptTimes.{IsTimed}
use Rattle.srcp_log.specs.Waits.{AreAtRest, IsIdle, IsLongEnough, NoneLingers, falls_due, lasts}
use Rattle.srcp_log.proofs.AcceptsAreAsked.{or_last}
use Rattle.srcp_log.proofs.WaitsAreFlushed.{quiet_is}

-- ---- who is there rests

here_watched : (watched : Bool) (lingering : Lingering) (outgoing : List ℕ) (here : Stay) → is_here here ≡ true
    → StaysAs watched lingering outgoing here → watched ≡ true
here_watched watched lingering outgoing stay.Here e h = h.0
here_watched watched lingering outgoing (stay.Draining since) e h = absurd (true≢false (sym e))
here_watched watched lingering outgoing (stay.Shut since) e h = absurd (true≢false (sym e))

has_rest_here : (log : List Step) (p : Peer) → AreAtRest log → Agrees (account p.number log) p → is_here p.stay ≡ true
    → has_rest p ≡ true
has_rest_here log p rest h here =
    let a = account p.number log in
    sym (rest_is a p h here)
    ∙ rest p.number (ap (λ w. w || (p.number == 0)) (here_watched a.watched a.lingering p.outgoing p.stay here h.stays))

none_busy : (here rests : Bool) → (here ≡ true → rests ≡ true) → (here && not (here && rests)) ≡ false
none_busy true rests f = ap not (f refl)
none_busy false rests f = refl

not_busy : (log : List Step) (peers : List Peer) (l : Listening) (last : ℕ) → Stands log peers l last → AreAtRest log
    → list_any is_busy peers ≡ false
not_busy log peers l last stands rest = list_any_none is_busy peers (λ k d lt.
    let p : Peer = slice_index_or peers k d in
    none_busy (is_here p.stay) (has_rest p) (has_rest_here log p rest (stands.kept k d lt)))

-- one that lingers does so by its account
lingers : (watched : Bool) (lingering : Lingering) (outgoing : List ℕ) (here : Stay) → (not watched && lingering.kept) ≡ false
    → StaysAs watched lingering outgoing here → is_here here ≡ true
lingers watched lingering outgoing stay.Here e h = refl
lingers watched lingering outgoing (stay.Draining since) e h =
    absurd (true≢false (sym (ap (λ w. not w && lingering.kept) h.0 ∙ h.1) ∙ e))
lingers watched lingering outgoing (stay.Shut since) e h =
    absurd (true≢false (sym (ap (λ w. not w && lingering.kept) h.0 ∙ h.1) ∙ e))

all_rest : (peers : List Peer) → All (λ p. is_resting p ≡ true) peers → list_all is_resting peers ≡ true
all_rest [] each = refl
all_rest (p ∷ peers) each = both (is_resting p) (list_all is_resting peers) (each 0 p (omega arith))
    (all_rest peers (λ k d lt. each (suc k) d (omega (arith, lt))))

are_resting : (log : List Step) (peers : List Peer) (l : Listening) (last : ℕ) → Stands log peers l last → AreAtRest log
    → NoneLingers log → list_all is_resting peers ≡ true
are_resting log peers l last stands rest none = all_rest peers (λ k d lt.
    let p : Peer = slice_index_or peers k d in
    let h : Agrees (account p.number log) p = stands.kept k d lt in
    let a = account p.number log in
    let here : is_here p.stay ≡ true = lingers a.watched a.lingering p.outgoing p.stay (none p.number) h.stays in
    ap (λ b. b && has_rest p) here ∙ has_rest_here log p rest h here)

-- ---- the listener is quiet

or_false : (a b : Bool) → (a || b) ≡ true → b ≡ false → a ≡ true
or_false true b e none = refl
or_false false b e none = sym none ∙ e

silent_quiet : (held quiet ended failed owed : Bool) → ended ≡ false
    → (not held && ((quiet && (not ended && not failed)) || (ended && owed))) ≡ true → quiet ≡ true
silent_quiet held quiet ended failed owed e h = and_left quiet (not ended && not failed)
    (or_false (quiet && (not ended && not failed)) (ended && owed)
    (and_right (not held) ((quiet && (not ended && not failed)) || (ended && owed)) h) (ap (λ b. b && owed) e))

heard_quiet : (l : Listening) → is_quiet l ≡ true → l ≡ listening.Quiet
heard_quiet listening.Ready e = absurd (true≢false (sym e))
heard_quiet listening.BackingOff e = absurd (true≢false (sym e))
heard_quiet listening.Quiet e = refl

is_heard : (log : List Step) (l : Listening) → Hears (account 0 log) l → AreAtRest log → l ≡ listening.Quiet
is_heard log l heard rest =
    let a = account 0 log in
    let silent = has_nothing a.received (is_owed a.sent) in
    let all = cond a.sent.cut (is_full a.sent) silent in
    let whole : all ≡ true = and_right (not (is_owed a.sent) || a.sent.full) all
    (and_right (not a.sent.lost) ((not (is_owed a.sent) || a.sent.full) && all) (rest 0 (or_last a.watched))) in
    heard_quiet l (sym heard.heard ∙ silent_quiet (is_held a.received) a.received.quiet a.received.ended a.received.failed (is_owed a.sent)
    heard.ended (ap (λ c. cond c (is_full a.sent) silent) (sym heard.cut) ∙ whole))

-- ---- how long a wait is then

delay_as : (left : Option ℕ) (rest : Bool) → falls_due left (quiet_wait (sooner left None) rest listening.Quiet) ≡ false
    → lasts 8 (quiet_wait (sooner left None) rest listening.Quiet) ≡ true
delay_as None true e = refl
delay_as None false e = refl
delay_as (Some left) true e = grind (arith, nat_tests)
delay_as (Some left) false e = grind (arith, nat_tests)

sleep_as : (left : Option ℕ) → falls_due left (quiet_wait (sooner left None) true listening.Quiet) ≡ false
    → lasts 3600000 (quiet_wait (sooner left None) true listening.Quiet) ≡ true
sleep_as None e = refl
sleep_as (Some left) e = grind (arith, nat_tests)

pub long_enough : (log : List Step) (peers : List Peer) (l : Listening) (last : ℕ) (turn : Turn) (limit most : Option ℕ)
    → Stands log peers l last → IsTimed log turn → limit ≡ None → most ≡ longest_wait peers l turn limit
    → IsLongEnough turn.timekeeper.wall turn.timekeeper.start log most
long_enough log peers l last turn limit most stands timed none is = record {
  delay = λ idle. ap (lasts 8) (wait idle) ∙ delay_as (time_left turn) (list_all is_resting peers) (early idle);
  sleep = λ idle alone.
      let rest = are_resting log peers l last stands idle.resting alone in
      let long : most ≡ quiet_wait (sooner (time_left turn) None) true listening.Quiet = wait idle
      ∙ ap (λ r. quiet_wait (sooner (time_left turn) None) r listening.Quiet) rest in
      ap (lasts 3600000) long ∙ sleep_as (time_left turn)
      (ap (λ r. falls_due (time_left turn) (quiet_wait (sooner (time_left turn) None) r listening.Quiet)) (sym rest) ∙ early idle);
}
  where
    wall : ℕ
    wall = turn.timekeeper.wall

    start : ℕ
    start = turn.timekeeper.start

    wait : IsIdle turn.timekeeper.wall turn.timekeeper.start log most
        → most ≡ quiet_wait (sooner (time_left turn) None) (list_all is_resting peers) listening.Quiet
    wait idle =
        let left = sooner (time_left turn) None in
        let pending : is_pending turn.slack turn.busy ≡ false = ap (λ (t : Turn). is_pending t.slack t.busy) (sym timed.same)
        ∙ quiet_is (is_pending (times turn.timekeeper.wall turn.timekeeper.start log).turn.slack
        (times turn.timekeeper.wall turn.timekeeper.start log).turn.busy) idle.calm in
        let busy : list_any is_busy peers ≡ false = not_busy log peers l last stands idle.resting in
        is ∙ ap (longest_wait peers l turn) none
        ∙ ap (λ b. cond (b || list_any is_busy peers) (sooner left (Some (backpressure_delay turn)))
        (quiet_wait left (list_all is_resting peers) l)) pending
        ∙ ap (λ b. cond b (sooner left (Some (backpressure_delay turn))) (quiet_wait left (list_all is_resting peers) l)) busy
        ∙ ap (quiet_wait left (list_all is_resting peers)) (is_heard log l stands.heard idle.resting)

    early : (idle : IsIdle turn.timekeeper.wall turn.timekeeper.start log most)
        → falls_due (time_left turn) (quiet_wait (sooner (time_left turn) None) (list_all is_resting peers) listening.Quiet) ≡ false
    early idle = ap (falls_due (time_left turn)) (sym (wait idle))
        ∙ ap (λ (t : Turn). falls_due (time_left t) most) (sym timed.same) ∙ idle.early
