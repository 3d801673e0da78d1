-- How a peer lingers, by its account.
use Rattle.std.proofs.Common.{◌≡◌, ◌∙◌, ℕ, Bool, true, false, not, List, [], ◌++◌, drop, length, refl, ap, sym, subst, arith, ◌==◌}
use Rattle.std.proofs.Common.{true≢false, Option, append-nil, ⊎_elim}
use Rattle.std.specs.Prelude.{◌&&◌, ◌||◌, cond}
use Rattle.std.proofs.lemmas.List.{drop_all}
use Rattle.srcp_peers.specs.Steps.{Step}
use Rattle.srcp_peers.specs.declared.peer.Peer.{Peer}
use Rattle.srcp_peers.specs.declared.readiness.Input.{Input}
use Rattle.srcp_peers.specs.declared.readiness.Input.TheVariants as input
use Rattle.srcp_peers.specs.declared.readiness.Output.{Output}
use Rattle.srcp_peers.specs.declared.readiness.Output.TheVariants as output
use Rattle.srcp_peers.specs.declared.stay.Stay.{Stay}
use Rattle.srcp_peers.specs.declared.stay.Stay.TheVariants as stay
use Rattle.srcp_peers.specs.Accounts.{Account, Lingering, Received, Sent, account, clocked, clock_after}
use Rattle.srcp_peers.specs.Accounts.{is_held, is_overdue, is_owed, left_by_core}
use Rattle.srcp_peers.specs.Accounts.{may_close, may_end, may_fail}
use Rattle.srcp_peers.specs.Peers.{Agrees, ComesAs, IsKept, MayFail, ReadsAs, StaysAs, WritesAs, closable_as, is_closable, is_here, is_lost}
use Rattle.srcp_peers.specs.Peers.{is_wanting}
use Rattle.srcp_peers.proofs.PeersRestByAccount.{held_is, owed_is}
use Rattle.srcp_peers.proofs.StatesFollowSteps.{comes_finds, comes_starts, reads_here}
use Rattle.srcp_peers.proofs.UnreadPeersAreRead.{wants_less}

-- its socket took something of what is queued
pub stays_drop : (watched : Bool) (lingering : Lingering) (outgoing : List ℕ) (here : Stay) (count : ℕ)
    → StaysAs watched lingering outgoing here
    → StaysAs watched lingering (drop count outgoing) here
stays_drop watched lingering outgoing stay.Here count h = h
stays_drop watched lingering outgoing (stay.Draining since) count h = h
stays_drop watched lingering outgoing (stay.Shut since) count h =
    (h.0, h.1, h.2, h.3, ap (drop count) h.4 ∙ drop_all count [] (omega arith))

-- a clock was read
stays_clocked : (watched : Bool) (lingering : Lingering) (clock : ℕ) (outgoing : List ℕ) (here : Stay)
    → StaysAs watched lingering outgoing here
    → StaysAs watched (record lingering { clock = clock }) outgoing here
stays_clocked watched lingering clock outgoing stay.Here h = h
stays_clocked watched lingering clock outgoing (stay.Draining since) h = h
stays_clocked watched lingering clock outgoing (stay.Shut since) h = h

pub clocked_agrees : (a : Account) (p : Peer) (answer : Option ℕ) → Agrees a p → Agrees (clocked a answer) p
clocked_agrees a p answer h =
    assumption (stays_clocked a.watched a.lingering (clock_after a.lingering.clock answer) p.outgoing p.stay h.stays)

-- ---- the core closes it

pub left_agrees : (a : Account) (p : Peer) (since : ℕ) → p.stay ≡ stay.Here → a.lingering.clock ≡ since → Agrees a p
    → Agrees (left_by_core a) (record p { stay = stay.Draining since })
left_agrees a p since here clock h =
    let s : StaysAs a.watched a.lingering p.outgoing stay.Here = subst (StaysAs a.watched a.lingering p.outgoing) here h.stays in
    let stays : StaysAs false (left_by_core a).lingering p.outgoing (stay.Draining since) =
    (refl, s.1, ap (λ w. cond w a.lingering.clock a.lingering.since) s.0 ∙ clock, s.2) in
    let unread : false ≡ true → is_wanting p.input p.incoming ≡ true = λ e. absurd (true≢false (sym e)) in
    let starts = comes_starts a.received p.incoming p.input p.stay h.reads in
    let finds = comes_finds a.received p.incoming p.input p.stay h.reads in
    assumption (starts, finds, stays, unread)

-- one that the core closed before
stays_gone : (a : Account) (outgoing : List ℕ) (here : Stay) → is_here here ≡ false → StaysAs a.watched a.lingering outgoing here
    → StaysAs false (record a.lingering { since = cond a.watched a.lingering.clock a.lingering.since }) outgoing here
stays_gone a outgoing stay.Here e h = absurd (true≢false e)
stays_gone a outgoing (stay.Draining since) e h = (refl, h.1, ap (λ w. cond w a.lingering.clock a.lingering.since) h.0 ∙ h.2, h.3)
stays_gone a outgoing (stay.Shut since) e h = (refl, h.1, ap (λ w. cond w a.lingering.clock a.lingering.since) h.0 ∙ h.2, h.3, h.4)

pub gone_agrees : (a : Account) (p : Peer) → is_here p.stay ≡ false → Agrees a p → Agrees (left_by_core a) p
gone_agrees a p gone h =
    let unread : false ≡ true → is_wanting p.input p.incoming ≡ true = λ e. absurd (true≢false (sym e)) in
    assumption (stays_gone a p.outgoing p.stay gone h.stays, unread)

-- what was read of one that lingers is dropped
dropped_as : (received : Received) (incoming : List ℕ) (state : Input) (here : Stay) → is_here here ≡ false
    → ComesAs received incoming state here → ComesAs received [] state here
dropped_as received incoming state stay.Here e h = absurd (true≢false e)
dropped_as received incoming state (stay.Draining since) e h = h
dropped_as received incoming state (stay.Shut since) e h = h

pub kept_dropped : (log : List Step) (p : Peer) → is_here p.stay ≡ false → IsKept log p → IsKept log (record p { incoming = [] })
kept_dropped log p gone h =
    let a = account p.number log in
    let unread : (a.watched && a.unread) ≡ true → is_wanting p.input [] ≡ true =
    λ e. wants_less p.input p.incoming p.incoming [] (sym (append-nil p.incoming)) (h.unread e) in
    assumption (dropped_as a.received p.incoming p.input p.stay gone h.reads, unread)

-- ---- it is shut down

-- nothing is owed if nothing is queued, but to a socket that takes no more
owed_none : (sent : Sent) (outgoing : List ℕ) (state : Output) → is_lost state ≡ false → outgoing ≡ [] → WritesAs sent outgoing state
    → is_owed sent ≡ false
owed_none sent outgoing output.Open e none h = owed_is sent outgoing h.0 ∙ ap (λ (o : List ℕ). not (length o == 0)) none
owed_none sent outgoing output.Full e none h = owed_is sent outgoing h.0 ∙ ap (λ (o : List ℕ). not (length o == 0)) none
owed_none sent outgoing output.Lost e none h = absurd (true≢false e)

ends : (ended held owed : Bool) → ended ≡ true → held ≡ false → owed ≡ false → (ended && (not held && not owed)) ≡ true
ends ended held owed e h o = rw (e, h, o) refl

-- its end may be reported
pub may_end_then : (a : Account) (incoming outgoing : List ℕ) (state : Output) → a.received.gave ≡ a.received.handed ++ incoming
    → a.received.ended ≡ true → incoming ≡ [] → outgoing ≡ [] → is_lost state ≡ false → WritesAs a.sent outgoing state
    → may_end a ≡ true
may_end_then a incoming outgoing state came over none taken sound w =
    ends a.received.ended (is_held a.received) (is_owed a.sent) over
    (held_is a.received incoming came ∙ ap (λ (i : List ℕ). not (length i == 0)) none) (owed_none a.sent outgoing state sound taken w)

-- ---- it is closed

closes_late : (watched kept shut owed lost over : Bool) → watched ≡ false → kept ≡ true → (lost || over) ≡ true
    → ((not watched && kept) && ((shut && not owed) || (lost || over))) ≡ true
closes_late watched kept shut owed lost over w o e = rw (w, o, e) (by (shut && not owed))
  where
    by : (b : Bool) → (b || true) ≡ true
    by true = refl
    by false = refl

closes_shut : (watched kept shut owed lost over : Bool) → watched ≡ false → kept ≡ true → shut ≡ true → owed ≡ false
    → ((not watched && kept) && ((shut && not owed) || (lost || over))) ≡ true
closes_shut watched kept shut owed lost over w o s n = rw (w, o, s, n) refl

-- a write found that it takes no more
lost_is : (sent : Sent) (outgoing : List ℕ) (state : Output) → is_lost state ≡ true → WritesAs sent outgoing state → sent.lost ≡ true
lost_is sent outgoing output.Open e h = absurd (true≢false (sym e))
lost_is sent outgoing output.Full e h = absurd (true≢false (sym e))
lost_is sent outgoing output.Lost e h = h.1

or_lost : (x over lost : Bool) → (x || over) ≡ true → (x ≡ true → lost ≡ true) → (lost || over) ≡ true
or_lost true over lost e f = ap (λ b. b || over) (f refl)
or_lost false over lost e f = ap (λ b. lost || b) e ∙ by lost
  where
    by : (b : Bool) → (b || true) ≡ true
    by true = refl
    by false = refl

closable_then : (a : Account) (outgoing : List ℕ) (state : Output) (here : Stay) (clock : ℕ) → a.lingering.clock ≡ clock
    → closable_as clock state here ≡ true → WritesAs a.sent outgoing state → StaysAs a.watched a.lingering outgoing here
    → (may_close a ≡ true) × (a.watched ≡ false)
closable_then a outgoing state stay.Here clock is e w h = absurd (true≢false (sym e))
closable_then a outgoing state (stay.Draining since) clock is e w h = (
  closes_late a.watched a.lingering.kept a.lingering.shut (is_owed a.sent) a.sent.lost
      (is_overdue a.lingering.clock a.lingering.since) h.0 h.1
      (or_lost (is_lost state) (is_overdue a.lingering.clock a.lingering.since) a.sent.lost
      (ap (λ c. is_lost state || is_overdue c a.lingering.since) is ∙ ap (λ s. is_lost state || is_overdue clock s) h.2 ∙ e)
      (λ l. lost_is a.sent outgoing state l w)),
  h.0,
)
closable_then a outgoing state (stay.Shut since) clock is e w h = (by state w, h.0)
  where
    by : (o : Output) → WritesAs a.sent outgoing o → may_close a ≡ true
    by output.Open w = closes_shut a.watched a.lingering.kept a.lingering.shut (is_owed a.sent) a.sent.lost
        (is_overdue a.lingering.clock a.lingering.since) h.0 h.1 h.3 (owed_none a.sent outgoing output.Open refl h.4 w)
    by output.Full w = closes_shut a.watched a.lingering.kept a.lingering.shut (is_owed a.sent) a.sent.lost
        (is_overdue a.lingering.clock a.lingering.since) h.0 h.1 h.3 (owed_none a.sent outgoing output.Full refl h.4 w)
    by output.Lost w = closes_late a.watched a.lingering.kept a.lingering.shut (is_owed a.sent) a.sent.lost
        (is_overdue a.lingering.clock a.lingering.since) h.0 h.1 (ap (λ b. b || is_overdue a.lingering.clock a.lingering.since) w.1)

-- a peer that may be closed may be so by its account
pub may_close_then : (a : Account) (p : Peer) (clock : ℕ) → a.lingering.clock ≡ clock → is_closable clock p ≡ true → Agrees a p
    → (may_close a ≡ true) × (a.watched ≡ false)
may_close_then a p clock is e h = closable_then a p.outgoing p.output p.stay clock is e h.writes h.stays

-- ---- it is reported as lost

fails_read : (gone failed lost : Bool) → failed ≡ true → (gone || (failed || lost)) ≡ true
fails_read true failed lost e = refl
fails_read false failed lost e = ap (λ f. f || lost) e

fails_write : (gone failed lost : Bool) → lost ≡ true → (gone || (failed || lost)) ≡ true
fails_write true failed lost e = refl
fails_write false true lost e = refl
fails_write false false lost e = e

-- a peer that may be reported as lost may be so by its account
pub may_fail_then : (a : Account) (p : Peer) → p.stay ≡ stay.Here → MayFail p → Agrees a p → may_fail a ≡ true
may_fail_then a p here failed h = ⊎_elim
    (λ (e : p.input ≡ input.Failed).
    let r : ReadsAs a.received p.incoming input.Failed = subst (ReadsAs a.received p.incoming) e
    (reads_here a.received p.incoming p.input p.stay here h.reads) in
    fails_read (not a.watched) a.received.failed a.sent.lost r.1.0)
    (λ (e : is_lost p.output ≡ true).
    fails_write (not a.watched) a.received.failed a.sent.lost (lost_is a.sent p.outgoing p.output e h.writes))
    failed

-- one that lingers is not there by its account
pub gone_unwatched : (a : Account) (outgoing : List ℕ) (here : Stay) → is_here here ≡ false
    → StaysAs a.watched a.lingering outgoing here → a.watched ≡ false
gone_unwatched a outgoing stay.Here e h = absurd (true≢false e)
gone_unwatched a outgoing (stay.Draining since) e h = h.0
gone_unwatched a outgoing (stay.Shut since) e h = h.0
