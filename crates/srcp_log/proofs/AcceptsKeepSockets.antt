-- What holds of all sockets holds after an accept.
use Rattle.std.proofs.Common.{◌≡◌, ◌∙◌, ℕ, ◌<◌, ◌≤◌, ◌+◌, true, false, List, [], ◌∷◌, ◌++◌, length, refl, ap, sym}
use Rattle.std.proofs.Common.{subst, arith, ⊎_elim, ◌==◌, Ok, Err, true≢false}
use Rattle.std.specs.Prelude.{◌≢◌, slice_index_or, Result}
use Rattle.std.proofs.lemmas.Bool.{cases_eq, cases_lt}
use Rattle.std.proofs.lemmas.List.{length-append, get_or_push, get_or_append_left}
use Rattle.std.proofs.lemmas.List.Elements.{All-push}
use Rattle.std.specs.declared.io.ErrorKind.{ErrorKind}
use Rattle.srcp_peers.specs.declared.system.IoFailure.{IoFailure}
use Rattle.srcp_peers.specs.declared.system.IoFailure.TheVariants.{WouldBlock, Interrupted, Fatal}
use Rattle.srcp_peers.specs.declared.peer.Peer.{Peer}
use Rattle.srcp_peers.specs.declared.readiness.Input.TheVariants as input
use Rattle.srcp_peers.specs.declared.readiness.Output.TheVariants as output
use Rattle.srcp_peers.specs.declared.stay.Stay.TheVariants as stay
use Rattle.srcp_peers.specs.declared.turn.Listening.{Listening}
use Rattle.srcp_peers.specs.declared.turn.Listening.TheVariants as listening
use Rattle.srcp_peers.specs.Steps.{Accepts, Step, failure_of}
use Rattle.srcp_peers.specs.Accounts.{Account, accepted, account, account_step, heard, heard_failure}
use Rattle.srcp_peers.specs.Peers.{Agrees, IsKept, Spares}
use Rattle.srcp_door.specs.Pacing.{line_after}
use Rattle.srcp_peers.specs.declared.ending.Ending.TheVariants as ending
use Rattle.srcp_door.specs.declared.pacing.LineBoundary.TheVariants as boundary
use Rattle.srcp_peers.specs.Listeners.{listening_after_failure}
use Rattle.srcp_peers.specs.AllPeers.{AreApart, AreKept, IsAbsent}
use Rattle.srcp_log.specs.Doors.{Closed, Fresh, Hears, Sound, Stands, is_quiet}
use Rattle.srcp_peers.proofs.PeersStayKept.{account_more, alien, own, picks, skips, spares_after}
use Rattle.srcp_peers.proofs.OnePeerChanges.{kept_spared}
use Rattle.srcp_log.proofs.SocketsStayStanding.{absent_above, all_sound, not_listener}

abbrev pub new_peer : (service number : ℕ) → Peer
new_peer service number = record {
  number = number;
  outgoing = [];
  incoming = [];
  input = input.Ready;
  output = output.Open;
  backpressured = false;
  stay = stay.Here;
  share = record { line = boundary.At; rest = 0 };
  ending = ending.Open;
  awaits_reply = true;
  served = service;
  lines_left = 300;
}

-- what an accept says of the sockets
accept_new : (socket : ℕ) (a : Account) (answer : Result Unit ErrorKind) → (socket ≡ 0 → ⊥) → account_step socket a
    (Accepts socket answer) ≡ accepted a answer
accept_new socket a answer ne = skips (socket == 0) (record a { received = heard a.received answer }) _ (not_listener socket ne)
    ∙ picks (socket == socket) (accepted a answer) a (own socket)

accept_other : (socket number : ℕ) (a : Account) (answer : Result Unit ErrorKind) → (socket ≡ 0 → ⊥) → socket ≢ number
    → account_step socket a (Accepts number answer) ≡ a
accept_other socket number a answer ne differ = skips (socket == 0) (record a { received = heard a.received answer }) _
    (not_listener socket ne)
    ∙ skips (number == socket) (accepted a answer) a (alien number socket differ)

-- one that comes in leaves the others as they are
spares_come : (old new : List Step) (number : ℕ) (done : Unit {0}) (other : ℕ) → other ≢ number
    → new ≡ old ++ Accepts number (Ok done) ∷ [] → Spares other old new
spares_come old new number done other differ tells =
    spares_after other old new (Accepts number (Ok done)) tells (λ a. ⊎_elim
    (λ (e : other ≡ 0). subst (λ (n : ℕ). account_step n a (Accepts number (Ok done)) ≡ a) (sym e) refl)
    (λ (ne : other ≡ 0 → ⊥). accept_other other number a (Ok done) ne differ)
    (cases_eq other 0))

-- a new peer is what its account says
fresh_agrees : (service number : ℕ) (a : Account) (done : Unit {0}) → Fresh a → Sound a
    → Agrees (accepted a (Ok done)) (new_peer service number)
fresh_agrees service number a done f s = record {
  reads = (f.gave ∙ sym (ap (λ h. h ++ []) f.handed), (refl, refl, refl, refl));
  writes = (f.written ∙ sym (ap (λ h. h ++ []) f.took), refl, refl);
  cut = refl;
  stays = (refl, refl, refl);
  line = sym (ap (line_after boundary.At) f.handed);
  honest = s.honest;
  rested = s.rested;
  rightly = s.rightly;
  unread = λ e. absurd (true≢false (sym e));
  served = s.served;
}

-- an index of a list with one more
at_push : (P : Peer → Type 0) (peers : List Peer) (p : Peer) → ((k : ℕ) (d : Peer) → k < length peers → P (slice_index_or peers k d)) → P p
    → (k : ℕ) (d : Peer) → k < length (peers ++ p ∷ []) → P (slice_index_or (peers ++ p ∷ []) k d)
at_push P peers p all one k d lt = All-push P peers p all one k d lt

push_apart : (peers : List Peer) (p : Peer) → AreApart peers → IsAbsent p.number peers → AreApart (peers ++ p ∷ [])
push_apart peers p apart absent j k d lj lk differ e = ⊎_elim
    (λ (jl : j < length peers). ⊎_elim
    (λ (kl : k < length peers). apart j k d jl kl differ (sym (low j jl) ∙ e ∙ low k kl))
    (λ (kg : length peers ≤ k). absent j d jl (sym (low j jl) ∙ e ∙ last k (omega (arith, lk, kg, length-append peers (p ∷ [])))))
    (cases_lt k (length peers)))
    (λ (jg : length peers ≤ j). ⊎_elim
    (λ (kl : k < length peers). absent k d kl (sym (low k kl) ∙ sym e ∙ last j (omega (arith, lj, jg, length-append peers (p ∷ [])))))
    (λ (kg : length peers ≤ k). differ (omega (arith, lj, lk, jg, kg, length-append peers (p ∷ []))))
    (cases_lt k (length peers)))
    (cases_lt j (length peers))
  where
    low : (n : ℕ) → n < length peers → (slice_index_or (peers ++ p ∷ []) n d).number ≡ (slice_index_or peers n d).number
    low n lt = ap (λ (x : Peer). x.number) (get_or_append_left peers (p ∷ []) d n lt)

    last : (n : ℕ) → length peers ≡ n → (slice_index_or (peers ++ p ∷ []) n d).number ≡ p.number
    last n is = ap (λ (x : Peer). x.number) (get_or_push peers p d n is)

absent_push : (socket : ℕ) (peers : List Peer) (p : Peer) → IsAbsent socket (peers ++ p ∷ []) → IsAbsent socket peers × (socket ≢ p.number)
absent_push socket peers p absent = (
  λ k d lt e. absent k d (omega (arith, lt, length-append peers (p ∷ [])))
      (ap (λ (x : Peer). x.number) (get_or_append_left peers (p ∷ []) d k lt) ∙ e),
  λ e. absent (length peers) p (omega (arith, length-append peers (p ∷ [])))
      (ap (λ (x : Peer). x.number) (get_or_push peers p p (length peers) refl) ∙ sym e),
)

pub stands_come : (old new : List Step) (peers : List Peer) (l : Listening) (service last : ℕ) (done : Unit {0})
    → new ≡ old ++ Accepts (last + 1) (Ok done) ∷ [] → Stands old peers l last
    → Stands new (peers ++ new_peer service (last + 1) ∷ []) l (last + 1)
stands_come old new peers l service last done tells stands = record {
  kept = kept;
  apart = push_apart peers (new_peer service (last + 1)) stands.apart (absent_above last (last + 1) peers stands.within (omega arith));
  within = at_push (λ (p : Peer). (0 < p.number) × (p.number ≤ last + 1)) peers (new_peer service (last + 1))
      (λ k d lt. let w = stands.within k d lt in (w.0, (let m : (slice_index_or peers k d).number ≤ last = w.1 in omega (arith, m))))
      (omega arith, omega arith);
  sound = all_sound new (peers ++ new_peer service (last + 1) ∷ []) kept (λ socket absent.
      let there = absent_push socket peers (new_peer service (last + 1)) absent in
      subst Sound (sym (spares_come old new (last + 1) done socket there.1 tells)) (stands.sound socket));
  fresh = λ socket above.
      subst Fresh (sym (spares_come old new (last + 1) done socket (λ e. omega (arith, above, e)) tells))
      (stands.fresh socket (omega (arith, above)));
  closed = λ socket absent.
      let there = absent_push socket peers (new_peer service (last + 1)) absent in
      subst Closed (sym (spares_come old new (last + 1) done socket there.1 tells)) (stands.closed socket there.0);
  heard = subst (λ (a : Account). Hears a l) (sym (spares_come old new (last + 1) done 0 (λ e. omega (arith, e)) tells)) stands.heard;
}
  where
    old_kept : (k : ℕ) (d : Peer) → k < length peers → IsKept new (slice_index_or peers k d)
    old_kept k d lt =
        let w = stands.within k d lt in
        let m : (slice_index_or peers k d).number ≤ last = w.1 in
        kept_spared old new (slice_index_or peers k d)
        (spares_come old new (last + 1) done (slice_index_or peers k d).number (λ e. omega (arith, m, e)) tells) (stands.kept k d lt)

    one_kept : IsKept new (new_peer service (last + 1))
    one_kept =
        let more : account (last + 1) new ≡ accepted (account (last + 1) old) (Ok done) =
        ap (account (last + 1)) tells ∙ account_more (last + 1) old (Accepts (last + 1) (Ok done))
        ∙ accept_new (last + 1) (account (last + 1) old) (Ok done) (λ e. omega (arith, e)) in
        subst (λ (a : Account). Agrees a (new_peer service (last + 1))) (sym more)
        (fresh_agrees service (last + 1) (account (last + 1) old) done (stands.fresh (last + 1) (omega arith)) (stands.sound (last + 1)))

    kept : AreKept new (peers ++ new_peer service (last + 1) ∷ [])
    kept = at_push (IsKept new) peers (new_peer service (last + 1)) old_kept one_kept

-- one that is not quiet is heard otherwise, and still not as quiet
hears_loud : (a : Account) (l other : Listening) → is_quiet l ≡ false → is_quiet other ≡ false → Hears a l → Hears a other
hears_loud a l other was is h =
    record { fresh = h.fresh; lost = h.lost; cut = h.cut; ended = h.ended; failed = h.failed; heard = h.heard ∙ was ∙ sym is }

-- the system is asked again after a rest
pub stands_later : (log : List Step) (peers : List Peer) (l : Listening) (last : ℕ) → is_quiet l ≡ false
    → Stands log peers l last → Stands log peers listening.BackingOff last
stands_later log peers l last loud stands = record {
  kept = stands.kept;
  apart = stands.apart;
  within = stands.within;
  sound = stands.sound;
  fresh = stands.fresh;
  closed = stands.closed;
  heard = hears_loud (account 0 log) l listening.BackingOff loud refl stands.heard;
}

-- an accept that failed
refused_hears : (a : Account) (l : Listening) (said : IoFailure) → is_quiet l ≡ false → Hears a l
    → Hears (record a { received = heard_failure a.received said }) (listening_after_failure said)
refused_hears a l WouldBlock loud h = record {
  fresh = record { written = h.fresh.written; took = h.fresh.took; gave = h.fresh.gave; handed = h.fresh.handed };
  lost = h.lost;
  cut = h.cut;
  ended = h.ended;
  failed = h.failed;
  heard = refl;
}
refused_hears a l Interrupted loud h = hears_loud a l listening.Ready loud refl h
refused_hears a l Fatal loud h = hears_loud a l listening.BackingOff loud refl h

refused_sound : (a : Account) (said : IoFailure) → Sound a → Sound (record a { received = heard_failure a.received said })
refused_sound a WouldBlock h = record {
  took = h.took;
  handed = h.handed;
  honest = h.honest;
  rested = h.rested;
  rightly = h.rightly;
  served = h.served;
}
refused_sound a Interrupted h = h
refused_sound a Fatal h = h

refused_closed : (a : Account) (said : IoFailure) → Closed a → Closed (record a { received = heard_failure a.received said })
refused_closed a WouldBlock h = record { watched = h.watched; kept = h.kept }
refused_closed a Interrupted h = h
refused_closed a Fatal h = h

refused_fresh : (a : Account) (said : IoFailure) → Fresh a → Fresh (record a { received = heard_failure a.received said })
refused_fresh a WouldBlock h = record { written = h.written; took = h.took; gave = h.gave; handed = h.handed }
refused_fresh a Interrupted h = h
refused_fresh a Fatal h = h

spares_refused : (old new : List Step) (number : ℕ) (fault : ErrorKind) (other : ℕ) → (other ≡ 0 → ⊥)
    → new ≡ old ++ Accepts number (Err fault) ∷ [] → Spares other old new
spares_refused old new number fault other ne tells =
    spares_after other old new (Accepts number (Err fault)) tells (λ a. ⊎_elim
    (λ (e : other ≡ number). subst (λ (n : ℕ). account_step other a (Accepts n (Err fault)) ≡ a) e (accept_new other a (Err fault) ne))
    (λ (differ : other ≡ number → ⊥). accept_other other number a (Err fault) ne differ)
    (cases_eq other number))

pub stands_refused : (old new : List Step) (peers : List Peer) (l : Listening) (last number : ℕ) (fault : ErrorKind)
    → is_quiet l ≡ false → new ≡ old ++ Accepts number (Err fault) ∷ [] → Stands old peers l last
    → Stands new peers (listening_after_failure (failure_of fault)) last
stands_refused old new peers l last number fault loud tells stands = record {
  kept = λ k d lt.
      let some : 0 < (slice_index_or peers k d).number = (stands.within k d lt).0 in
      kept_spared old new (slice_index_or peers k d)
      (spares_refused old new number fault (slice_index_or peers k d).number (λ e. omega (arith, some, e)) tells) (stands.kept k d lt);
  apart = stands.apart;
  within = stands.within;
  sound = λ socket. ⊎_elim
      (λ (e : socket ≡ 0). subst (λ (n : ℕ). Sound (account n new)) (sym e)
      (subst Sound (sym more) (refused_sound (account 0 old) (failure_of fault) (stands.sound 0))))
      (λ (ne : socket ≡ 0 → ⊥). subst Sound (sym (spares_refused old new number fault socket ne tells)) (stands.sound socket))
      (cases_eq socket 0);
  fresh = λ socket above.
      subst Fresh (sym (spares_refused old new number fault socket (λ e. omega (arith, above, e)) tells)) (stands.fresh socket above);
  closed = λ socket absent. ⊎_elim
      (λ (e : socket ≡ 0). subst (λ (n : ℕ). Closed (account n new)) (sym e)
      (subst Closed (sym more) (refused_closed (account 0 old) (failure_of fault)
      (stands.closed 0 (subst (λ (n : ℕ). IsAbsent n peers) e absent)))))
      (λ (ne : socket ≡ 0 → ⊥). subst Closed (sym (spares_refused old new number fault socket ne tells)) (stands.closed socket absent))
      (cases_eq socket 0);
  heard = subst (λ (a : Account). Hears a (listening_after_failure (failure_of fault))) (sym more)
      (refused_hears (account 0 old) l (failure_of fault) loud stands.heard);
}
  where
    more : account 0 new ≡ record (account 0 old) { received = heard_failure (account 0 old).received (failure_of fault) }
    more = ap (account 0) tells ∙ account_more 0 old (Accepts number (Err fault))

-- a new peer, by the names that the function gives
pub stands_came : (old new : List Step) (peers items : List Peer) (peer : Peer) (l : Listening) (service last number : ℕ)
    (done : Unit {0})
    → number ≡ last + 1 → items ≡ peers ++ peer ∷ [] → peer ≡ new_peer service number
    → new ≡ old ++ Accepts number (Ok done) ∷ [] → Stands old peers l last → Stands new items l number
stands_came old new peers items peer l service last number done next pushed is tells stands =
    let accepts : new ≡ old ++ Accepts (last + 1) (Ok done) ∷ [] =
    subst (λ (n : ℕ). new ≡ old ++ Accepts n (Ok done) ∷ []) next tells in
    let received = stands_come old new peers l service last done accepts stands in
    let one : new_peer service (last + 1) ≡ peer = ap (new_peer service) (sym next) ∙ sym is in
    subst (λ (n : ℕ). Stands new items l n) (sym next)
    (subst (λ (ps : List Peer). Stands new ps l (last + 1)) (ap (λ (p : Peer). peers ++ p ∷ []) one ∙ sym pushed) received)
