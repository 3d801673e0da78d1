-- What holds of all sockets holds after a wait.
use Rattle.std.proofs.Common.{◌++◌, ◌≡◌, ◌∙◌, ℕ, ◌<◌, Bool, true, false, not, List, [], ◌∷◌, length, refl, ap, sym}
use Rattle.std.proofs.Common.{subst, ⊎_elim, ◌==◌, if◌then◌else◌, Option}
use Rattle.std.specs.Prelude.{All, ◌&&◌, ◌||◌, fold, slice_index_or, take}
use Rattle.std.proofs.lemmas.Bool.{cases_eq}
use Rattle.srcp_peers.specs.declared.peer.Peer.{Peer}
use Rattle.srcp_peers.specs.declared.turn.Listening.{Listening}
use Rattle.srcp_peers.specs.declared.turn.Listening.TheVariants as listening
use Rattle.srcp_peers.specs.declared.system.Ready.{Ready}
use Rattle.srcp_peers.specs.Steps.{Step, Waits}
use Rattle.srcp_peers.specs.Accounts.{Account, account, is_at_rest, is_short_wait}
use Rattle.srcp_peers.specs.Accounts.{waited, woken, woken_came, woken_sent, noted}
use Rattle.srcp_peers.specs.Peers.{after_wake, is_resting}
use Rattle.srcp_peers.specs.Listeners.{woken_listening}
use Rattle.srcp_peers.specs.AllPeers.{AreKept, AreThose, IsAbsent}
use Rattle.srcp_log.specs.Doors.{Closed, Fresh, Hears, Sound, Stands}
use Rattle.srcp_peers.proofs.PeersStayKept.{account_more, all_number, or_so, unless_long}
use Rattle.srcp_peers.proofs.OnePeerChanges.{absent_before, apart_later, waited_all, within_later}
use Rattle.srcp_log.proofs.SocketsStayStanding.{all_sound, not_listener}

-- a socket that was found ready has the same lists
pub woken_sound : (socket : ℕ) (a : Account) (ready : List Ready) → Sound a → Sound (fold (woken socket) a ready)
woken_sound socket a [] h = h
woken_sound socket a (one ∷ more) h = woken_sound socket (woken socket a one) more (by (one.socket == socket))
  where
    by : (b : Bool) → Sound (if b then record a {
      sent = woken_sent a.sent one.writable;
      received = woken_came a.received one.readable (one.closed || one.urgent);
    } else a)
    by true = record { took = h.took; handed = h.handed; honest = h.honest; rested = h.rested; rightly = h.rightly; served = h.served }
    by false = h

woken_fresh : (socket : ℕ) (a : Account) (ready : List Ready) → Fresh a → Fresh (fold (woken socket) a ready)
woken_fresh socket a [] h = h
woken_fresh socket a (one ∷ more) h = woken_fresh socket (woken socket a one) more (by (one.socket == socket))
  where
    by : (b : Bool) → Fresh (if b then record a {
      sent = woken_sent a.sent one.writable;
      received = woken_came a.received one.readable (one.closed || one.urgent);
    } else a)
    by true = record { written = h.written; took = h.took; gave = h.gave; handed = h.handed }
    by false = h

woken_closed : (socket : ℕ) (a : Account) (ready : List Ready) → Closed a → Closed (fold (woken socket) a ready)
woken_closed socket a [] h = h
woken_closed socket a (one ∷ more) h = woken_closed socket (woken socket a one) more (by (one.socket == socket))
  where
    by : (b : Bool) → Closed (if b then record a {
      sent = woken_sent a.sent one.writable;
      received = woken_came a.received one.readable (one.closed || one.urgent);
    } else a)
    by true = record { watched = h.watched; kept = h.kept }
    by false = h

-- the listener, when a socket was found ready
and_true : (b : Bool) → (b && true) ≡ b
and_true true = refl
and_true false = refl

and_false : (b : Bool) → (b && false) ≡ false
and_false true = refl
and_false false = refl

woken_hears : (a : Account) (l : Listening) (one : Ready) → Hears a l → Hears (woken 0 a one) (woken_listening l one)
woken_hears a l one h = by (one.socket == 0) (one.readable || (one.closed || one.urgent))
  where
    by : (b c : Bool) → Hears (if b then record a {
      sent = woken_sent a.sent one.writable;
      received = record a.received { quiet = a.received.quiet && not c; emptying = a.received.emptying || (one.closed || one.urgent) };
    } else a) (if b && c then listening.Ready else l)
    by true true = record {
      fresh = record { written = h.fresh.written; took = h.fresh.took; gave = h.fresh.gave; handed = h.fresh.handed };
      lost = h.lost;
      cut = h.cut;
      ended = h.ended;
      failed = h.failed;
      heard = and_false a.received.quiet;
    }
    by true false = record {
      fresh = record { written = h.fresh.written; took = h.fresh.took; gave = h.fresh.gave; handed = h.fresh.handed };
      lost = h.lost;
      cut = h.cut;
      ended = h.ended;
      failed = h.failed;
      heard = and_true a.received.quiet ∙ h.heard;
    }
    by false c = h

all_heard : (a : Account) (l : Listening) (ready : List Ready) → Hears a l → Hears (fold (woken 0) a ready) (fold woken_listening l ready)
all_heard a l [] h = h
all_heard a l (one ∷ more) h = all_heard (woken 0 a one) (woken_listening l one) more (woken_hears a l one h)

-- a listener that is quiet is at rest
rest_of_none : (cut lost full quiet ended failed : Bool) (written took gave handed : List ℕ) → written ≡ [] → took ≡ [] → gave ≡ []
    → handed ≡ []
    → cut ≡ false → lost ≡ false → quiet ≡ true → ended ≡ false → failed ≡ false → (emptying : Bool)
    → is_at_rest (record { written = written; took = took; full = full; lost = lost; cut = cut })
    (record { gave = gave; handed = handed; quiet = quiet; emptying = emptying; ended = ended; failed = failed }) ≡ true
rest_of_none cut lost full quiet ended failed written took gave handed w t g d c l q e f emptying = rw (w, t, g, d, c, l, q, e, f) refl

listener_rests : (a : Account) → Hears a listening.Quiet → is_at_rest a.sent a.received ≡ true
listener_rests a h = rest_of_none a.sent.cut a.sent.lost a.sent.full a.received.quiet a.received.ended a.received.failed a.sent.written
    a.sent.took a.received.gave a.received.handed
    h.fresh.written h.fresh.took h.fresh.gave h.fresh.handed h.cut h.lost h.heard h.ended h.failed a.received.emptying

-- an account as a wait is over
noted_sound : (a : Account) → Sound a → Sound (noted a)
noted_sound a h = record {
  took = h.took;
  handed = h.handed;
  honest = h.honest;
  rested = h.rested;
  rightly = h.rightly;
  served = h.served;
}

noted_fresh : (a : Account) → Fresh a → Fresh (noted a)
noted_fresh a h = record { written = h.written; took = h.took; gave = h.gave; handed = h.handed }

noted_closed : (a : Account) → Closed a → Closed (noted a)
noted_closed a h = record { watched = h.watched; kept = h.kept }

noted_hears : (a : Account) (l : Listening) → Hears a l → Hears (noted a) l
noted_hears a l h = record {
  fresh = record { written = h.fresh.written; took = h.fresh.took; gave = h.fresh.gave; handed = h.fresh.handed };
  lost = h.lost;
  cut = h.cut;
  ended = h.ended;
  failed = h.failed;
  heard = h.heard;
}

-- an account as a wait begins
waited_sound : (socket : ℕ) (a : Account) (most : Option ℕ) → Sound a
    → (not (a.watched || (socket == 0)) || (is_short_wait most || is_at_rest a.sent a.received)) ≡ true → Sound (waited socket a most)
waited_sound socket a most h rests = record {
  took = h.took;
  handed = h.handed;
  honest = h.honest;
  rested = ap (λ b. b && (not (a.watched || (socket == 0)) || (is_short_wait most || is_at_rest a.sent a.received))) h.rested ∙ rests;
  rightly = h.rightly;
  served = h.served;
}

unwatched : (watched listener rests : Bool) → watched ≡ false → listener ≡ false → (not (watched || listener) || rests) ≡ true
unwatched watched listener rests w l = rw (w, l) refl

pub stands_waited : (old new : List Step) (before after : List Peer) (most : Option ℕ) (count : ℕ) (ready : List Ready)
    (l : Listening) (last : ℕ)
    → (is_short_wait most ≡ false → All (λ peer. is_resting peer ≡ true) before) → (is_short_wait most ≡ false → l ≡ listening.Quiet)
    → new ≡ old ++ Waits most count ready ∷ [] → length after ≡ length before
    → ((k : ℕ) (d : Peer) → k < length before → slice_index_or after k d ≡ fold after_wake (slice_index_or before k d) (take count ready))
    → Stands old before l last → Stands new after (fold woken_listening l (take count ready)) last
stands_waited old new before after most count ready l last rest quiet tells long woke stands = record {
  kept = kept;
  apart = apart_later before after long those stands.apart;
  within = within_later last before after long those stands.within;
  sound = all_sound new after kept (λ socket absent. subst Sound (sym (more socket))
      (noted_sound (fold (woken socket) (waited socket (account socket old) most) (take count ready))
      (woken_sound socket (waited socket (account socket old) most) (take count ready)
      (waited_sound socket (account socket old) most (stands.sound socket)
      (rests socket (absent_before socket before after long those absent))))));
  fresh = λ socket above. subst Fresh (sym (more socket))
      (noted_fresh (fold (woken socket) (waited socket (account socket old) most) (take count ready))
      (woken_fresh socket (waited socket (account socket old) most) (take count ready)
      (let h : Fresh (account socket old) = stands.fresh socket above in
      record { written = h.written; took = h.took; gave = h.gave; handed = h.handed })));
  closed = λ socket absent. subst Closed (sym (more socket))
      (noted_closed (fold (woken socket) (waited socket (account socket old) most) (take count ready))
      (woken_closed socket (waited socket (account socket old) most) (take count ready)
      (let h : Closed (account socket old) = stands.closed socket (absent_before socket before after long those absent) in
      record { watched = h.watched; kept = h.kept })));
  heard = subst (λ (a : Account). Hears a (fold woken_listening l (take count ready))) (sym (more 0))
      (noted_hears (fold (woken 0) (waited 0 (account 0 old) most) (take count ready))
      (fold woken_listening l (take count ready))
      (all_heard (waited 0 (account 0 old) most) l (take count ready)
      (let h : Hears (account 0 old) l = stands.heard in
      record {
        fresh = record { written = h.fresh.written; took = h.fresh.took; gave = h.fresh.gave; handed = h.fresh.handed };
        lost = h.lost;
        cut = h.cut;
        ended = h.ended;
        failed = h.failed;
        heard = h.heard;
      })));
}
  where
    kept : AreKept new after
    kept = waited_all old new before after most count ready rest tells long woke stands.kept

    those : AreThose before after
    those k d lt = ap (λ (x : Peer). x.number) (woke k d lt) ∙ all_number (slice_index_or before k d) (take count ready)

    more : (socket : ℕ) → account socket new ≡ noted (fold (woken socket) (waited socket (account socket old) most) (take count ready))
    more socket = ap (account socket) tells ∙ account_more socket old (Waits most count ready)

    rests : (socket : ℕ) → IsAbsent socket before
        → (not ((account socket old).watched || (socket == 0))
        || (is_short_wait most || is_at_rest (account socket old).sent (account socket old).received)) ≡ true
    rests socket absent = ⊎_elim
        (λ (e : socket ≡ 0). or_so (not ((account socket old).watched || (socket == 0))) _
        (unless_long (is_short_wait most) _ (λ long. subst (λ (n : ℕ). is_at_rest (account n old).sent (account n old).received ≡ true)
        (sym e) (listener_rests (account 0 old) (subst (λ (x : Listening). Hears (account 0 old) x) (quiet long) stands.heard)))))
        (λ (ne : socket ≡ 0 → ⊥). unwatched (account socket old).watched (socket == 0) _
        (stands.closed socket absent).watched (not_listener socket ne))
        (cases_eq socket 0)
