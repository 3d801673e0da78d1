-- A wait is brief while there is work for a peer, or something that a panel may have to be told.
use Rattle.std.proofs.Common.{◌≡◌, ◌∙◌, ℕ, Bool, true, false, not, List, refl, ap, sym}
use Rattle.std.proofs.Common.{arith, ⊎_elim, ◌&&◌, ◌||◌, cond, min, Option, Some, None, nat_le, true≢false}
use Rattle.std.specs.Prelude.{slice_index_or}
use Rattle.std.specs.List.{list_all, list_any}
use Rattle.std.proofs.lemmas.Bool.Decides.{nat_tests}
use Rattle.std.proofs.lemmas.List.Folds.{list_any_at}
use Rattle.srcp_peers.specs.declared.peer.Peer.{Peer}
use Rattle.srcp_peers.specs.declared.stay.Stay.{Stay}
use Rattle.srcp_peers.specs.declared.stay.Stay.TheVariants as stay
use Rattle.srcp_peers.specs.declared.turn.Listening.{Listening}
use Rattle.srcp_peers.specs.declared.turn.Turn.{Turn}
use Rattle.srcp_peers.specs.Accounts.{Account, account, is_at_rest, is_full, is_held, is_owed}
use Rattle.srcp_peers.specs.AllPeers.{IsAbsent}
use Rattle.srcp_peers.specs.Peers.{Agrees, StaysAs, is_busy, is_here, is_resting}
use Rattle.srcp_peers.specs.Steps.{Step}
use Rattle.srcp_peers.specs.Times.{ends_by}
use Rattle.srcp_peers.specs.Turns.{backpressure_delay, is_pending, time_left}
use Rattle.srcp_peers.specs.Waiting.{longest_wait, quiet_wait, sooner}
use Rattle.srcp_peers.proofs.PeersRestByAccount.{and_left, and_right, resting}
use Rattle.srcp_log.specs.Doors.{IsThere, Stands}
use Rattle.srcp_log.specs.Duties.{takes_input}
use Rattle.srcp_log.specs.KeptTimes.{IsTimed}
use Rattle.srcp_log.specs.Waits.{IsBriefOverWork, has_work, is_brief}
use Rattle.srcp_log.proofs.AcceptsAreAsked.{or_last}
use Rattle.srcp_log.proofs.SocketsStayStanding.{find, nobody}

-- the sooner of two waits is no longer than one of them
ends_soon : (delay : ℕ) (left : Option ℕ) → ends_by delay (sooner left (Some delay)) ≡ true
ends_soon delay None = by delay
  where
    by : (n : ℕ) → nat_le n n ≡ true
    by n = grind (arith, nat_tests)
ends_soon delay (Some left) = by left delay
  where
    by : (n m : ℕ) → nat_le (min n m) m ≡ true
    by n m = grind (arith, nat_tests)

-- with something to do
brief_then : (delay : ℕ) (left other : Option ℕ) (works : Bool) → works ≡ true
    → ends_by delay (cond works (sooner left (Some delay)) other) ≡ true
brief_then delay left other true e = ends_soon delay left
brief_then delay left other false e = absurd (true≢false (sym e))

-- a peer with work by its account is busy
busy_as : (a : Account) (p : Peer) → Agrees a p → has_work a ≡ true → is_busy p ≡ true
busy_as a p h work = by p.stay refl h.stays (and_left a.watched (not (is_at_rest a.sent a.received)) work)
  where
    rests : (b : Bool) → is_resting p ≡ b → not b ≡ true
    rests true e = ap not (sym (resting a p h e)) ∙ and_right a.watched (not (is_at_rest a.sent a.received)) work
    rests false e = refl

    by : (here : Stay) → p.stay ≡ here → StaysAs a.watched a.lingering p.outgoing here → a.watched ≡ true → is_busy p ≡ true
    by stay.Here is stays e = ap (λ s. is_here s && not (is_resting p)) is ∙ rests (is_resting p) refl
    by (stay.Draining since) is stays e = absurd (true≢false (sym e ∙ stays.0))
    by (stay.Shut since) is stays e = absurd (true≢false (sym e ∙ stays.0))

some_busy : (log : List Step) (peers : List Peer) (l : Listening) (last socket : ℕ) → Stands log peers l last
    → has_work (account socket log) ≡ true → list_any is_busy peers ≡ true
some_busy log peers l last socket stands work = ⊎_elim
    (λ (there : IsThere socket peers).
    let p : Peer = slice_index_or peers there.index nobody in
    list_any_at is_busy peers there.index nobody there.within
    (busy_as (account p.number log) p (stands.kept there.index nobody there.within)
    (ap (λ n. has_work (account n log)) (there.same nobody) ∙ work)))
    (λ (absent : IsAbsent socket peers). absurd (true≢false
    (sym (and_left (account socket log).watched (not (is_at_rest (account socket log).sent (account socket log).received)) work)
    ∙ (stands.closed socket absent).watched)))
    (find socket peers)

-- a peer of which input is held that the core takes has work
pub works_held : (a : Account) → takes_input a ≡ true → has_work a ≡ true
works_held a takes = by a.watched a.sent.cut (is_held a.received) a.sent.lost (not (is_owed a.sent) || a.sent.full) takes
  where
    rest : Bool
    rest = (a.received.quiet && (not a.received.ended && not a.received.failed)) || (a.received.ended && is_owed a.sent)

    by : (watched cut held lost flows : Bool) → (watched && (not cut && held)) ≡ true
        → (watched && not (not lost && (flows && cond cut (is_full a.sent) (not held && rest)))) ≡ true
    by false cut held lost flows e = absurd (true≢false (sym e))
    by true true held lost flows e = absurd (true≢false (sym e))
    by true false false lost flows e = absurd (true≢false (sym e))
    by true false true true flows e = refl
    by true false true false true e = refl
    by true false true false false e = refl

-- the wait that a turn makes
pub brief_over_work : (log : List Step) (peers : List Peer) (l : Listening) (last : ℕ) (turn : Turn) (limit most : Option ℕ)
    → Stands log peers l last → IsTimed log turn → most ≡ longest_wait peers l turn limit
    → IsBriefOverWork turn.timekeeper.wall turn.timekeeper.start log most
brief_over_work log peers l last turn limit most stands timed is = record {
  peers = λ socket work. brief (ap (λ b. is_pending turn.slack turn.busy || b) (some_busy log peers l last socket stands work)
      ∙ or_last (is_pending turn.slack turn.busy));
  panels = λ pending. brief (ap (λ b. b || list_any is_busy peers)
      (sym (ap (λ (t : Turn). is_pending t.slack t.busy) timed.same) ∙ pending));
}
  where
    brief : (is_pending turn.slack turn.busy || list_any is_busy peers) ≡ true
        → is_brief turn.timekeeper.wall turn.timekeeper.start log most ≡ true
    brief works = ap (λ (t : Turn). ends_by (backpressure_delay t) most) timed.same
        ∙ ap (ends_by (backpressure_delay turn)) is
        ∙ brief_then (backpressure_delay turn) (sooner (time_left turn) limit)
        (quiet_wait (sooner (time_left turn) limit) (list_all is_resting peers) l)
        (is_pending turn.slack turn.busy || list_any is_busy peers) works
