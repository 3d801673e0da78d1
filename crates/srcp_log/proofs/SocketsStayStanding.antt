-- What holds of all sockets goes on from step to step.
use Rattle.std.proofs.Common.{◌++◌, ◌≡◌, ℕ, zero, suc, ◌<◌, ◌≤◌, true, false, List, [], ◌∷◌, length, refl, sym, ap, ◌∙◌}
use Rattle.std.proofs.Common.{subst, arith, ⊎_elim, inl, inr, ◌⊎◌, get_or, set, ◌==◌}
use Rattle.std.specs.Prelude.{◌≢◌, slice_index_or}
use Rattle.std.specs.Io.{StartsWith}
use Rattle.std.proofs.lemmas.Bool.{cases_eq}
use Rattle.std.proofs.lemmas.List.{length-set}
use Rattle.std.proofs.lemmas.Bool.Decides.{nat_tests}
use Rattle.srcp_peers.specs.declared.peer.Peer.{Peer}
use Rattle.srcp_peers.specs.declared.readiness.Input.TheVariants as input
use Rattle.srcp_peers.specs.declared.readiness.Output.{Output}
use Rattle.srcp_peers.specs.declared.readiness.Output.TheVariants as output
use Rattle.srcp_peers.specs.declared.stay.Stay.TheVariants as stay
use Rattle.srcp_peers.specs.declared.turn.Listening.{Listening}
use Rattle.srcp_peers.specs.Steps.{Step, Answers}
use Rattle.srcp_door.specs.Calls.{Call}
use Rattle.srcp_peers.specs.Accounts.{Account, account, account_step, answered_step}
use Rattle.srcp_peers.specs.Peers.{Agrees, IsKept, Spares, WritesAs}
use Rattle.srcp_peers.specs.declared.ending.Ending.TheVariants as ending
use Rattle.srcp_door.specs.declared.pacing.LineBoundary.TheVariants as boundary
use Rattle.srcp_peers.specs.AllPeers.{AreKept, AreThose, AreWithin, IsAbsent}
use Rattle.srcp_log.specs.Doors.{Closed, Fresh, Hears, Sound, Stands}
use Rattle.srcp_log.specs.Doors.{IsThere}
use Rattle.srcp_peers.proofs.StatesFollowSteps.{comes_starts, starts}
use Rattle.srcp_peers.proofs.PeersStayKept.{spares_after}
use Rattle.srcp_peers.proofs.OnePeerChanges.{absent_before, apart_later, kept_spared, set_kept, set_those, within_later}

-- ---- who is there

pub nobody : Peer
nobody = record {
  number = 0;
  outgoing = [];
  incoming = [];
  input = input.Ready;
  output = output.Open;
  backpressured = false;
  stay = stay.Here;
  share = record { line = boundary.At; rest = 0 };
  ending = ending.Open;
  awaits_reply = true;
  served = 0;
  lines_left = 300;
}

pub find : (socket : ℕ) (peers : List Peer) → IsThere socket peers ⊎ IsAbsent socket peers
find socket [] = inr (λ k d lt. absurd (omega (arith, lt)))
find socket (p ∷ more) = ⊎_elim
    (λ (e : p.number ≡ socket). inl (record { index = 0; within = omega arith; same = λ d. e }))
    (λ (ne : p.number ≡ socket → ⊥). ⊎_elim
    (λ (there : IsThere socket more). inl (record {
      index = suc there.index;
      within = omega
          (arith, there.within);
      same = λ d. there.same d;
    }))
    (λ (absent : IsAbsent socket more). inr (by ne absent))
    (find socket more))
    (cases_eq p.number socket)
  where
    by : (p.number ≡ socket → ⊥) → IsAbsent socket more → IsAbsent socket (p ∷ more)
    by ne absent zero d lt e = ne e
    by ne absent (suc k) d lt e = absent k d (omega (arith, lt)) e

-- ---- a peer that is what its account says is sound

pub sound_of : (a : Account) (p : Peer) → Agrees a p → Sound a
sound_of a p h = record {
  took = took p.output h.writes;
  handed = comes_starts a.received p.incoming p.input p.stay h.reads;
  honest = h.honest;
  rested = h.rested;
  rightly = h.rightly;
  served = h.served;
}
  where
    took : (o : Output) → WritesAs a.sent p.outgoing o → StartsWith a.sent.written a.sent.took
    took output.Open w = starts a.sent.written a.sent.took p.outgoing w.0
    took output.Full w = starts a.sent.written a.sent.took p.outgoing w.0
    took output.Lost w = w.0

-- all sockets are sound if the peers are kept and the others are
pub all_sound : (log : List Step) (peers : List Peer) → AreKept log peers
    → ((socket : ℕ) → IsAbsent socket peers → Sound (account socket log)) → (socket : ℕ) → Sound (account socket log)
all_sound log peers kept others socket = ⊎_elim
    (λ (there : IsThere socket peers).
    let h : Agrees (account (slice_index_or peers there.index nobody).number log) (slice_index_or peers there.index nobody) =
    kept there.index nobody there.within in
    subst (λ (n : ℕ). Sound (account n log)) (there.same nobody)
    (sound_of (account (slice_index_or peers there.index nobody).number log) (slice_index_or peers there.index nobody) h))
    (λ (absent : IsAbsent socket peers). others socket absent)
    (find socket peers)

-- ---- a door after steps of its peers

pub as_many : (before after old new : List Peer) → new ≡ after → length after ≡ length before → before ≡ old → length new ≡ length old
as_many before after old new is same was = ap length is ∙ same ∙ ap length was

pub absent_above : (last socket : ℕ) (peers : List Peer) → AreWithin last peers → last < socket → IsAbsent socket peers
absent_above last socket peers within above k d lt e =
    let w = within k d lt in
    let most : (slice_index_or peers k d).number ≤ last = w.1 in
    absurd (omega (arith, most, above, e))

pub absent_listener : (last : ℕ) (peers : List Peer) → AreWithin last peers → IsAbsent 0 peers
absent_listener last peers within k d lt e =
    let w = within k d lt in
    let some : 0 < (slice_index_or peers k d).number = w.0 in
    absurd (omega (arith, some, e))

pub not_listener : (socket : ℕ) → (socket ≡ 0 → ⊥) → (socket == 0) ≡ false
not_listener socket ne = grind (arith, nat_tests)

pub stands_turned : (old new : List Step) (before after : List Peer) (listening : Listening) (last : ℕ)
    → length after ≡ length before → AreKept new after → AreThose before after
    → ((other : ℕ) → IsAbsent other before → Spares other old new)
    → Stands old before listening last → Stands new after listening last
stands_turned old new before after listening last long kept those others stands = record {
  kept = kept;
  apart = apart_later before after long those stands.apart;
  within = within_later last before after long those stands.within;
  sound = all_sound new after kept (λ socket absent.
      subst Sound (sym (others socket (absent_before socket before after long those absent))) (stands.sound socket));
  fresh = λ socket above.
      subst Fresh (sym (others socket (absent_above last socket before stands.within above))) (stands.fresh socket above);
  closed = λ socket absent.
      let there = absent_before socket before after long those absent in
      subst Closed (sym (others socket there)) (stands.closed socket there);
  heard = subst (λ (a : Account). Hears a listening) (sym (others 0 (absent_listener last before stands.within))) stands.heard;
}

-- ---- a door after a step of one peer, or of none

pub stands_one : (old new : List Step) (peers : List Peer) (i : ℕ) (p q : Peer) (l : Listening) (last : ℕ) → i < length peers
    → IsKept new q → q.number ≡ (get_or peers i p).number
    → ((other : ℕ) → other ≢ (get_or peers i p).number → Spares other old new)
    → Stands old peers l last → Stands new (set peers i q) l last
stands_one old new peers i p q l last within kept same spares stands =
    stands_turned old new peers (set peers i q) l last (length-set peers i q)
    (set_kept old new peers i p q within stands.apart stands.kept kept spares)
    (set_those peers peers i p q within refl same (λ k d lt. refl))
    (λ other absent. spares other (λ e. absent i p within (sym e)))
    stands

pub stands_spared : (old new : List Step) (peers : List Peer) (l : Listening) (last : ℕ) → ((other : ℕ) → Spares other old new)
    → Stands old peers l last → Stands new peers l last
stands_spared old new peers l last spares stands =
    stands_turned old new peers peers l last refl
    (λ k d lt. kept_spared old new (slice_index_or peers k d) (spares (slice_index_or peers k d).number) (stands.kept k d lt))
    (λ k d lt. refl) (λ other absent. spares other) stands

pub stands_answered : (old new : List Step) (peers : List Peer) (l : Listening) (last : ℕ) (call : Call)
    → ((socket : ℕ) (a : Account) → answered_step socket a call ≡ a) → new ≡ old ++ Answers call ∷ []
    → Stands old peers l last → Stands new peers l last
stands_answered old new peers l last call nothing tells stands =
    stands_spared old new peers l last (λ other. spares_after other old new (Answers call) tells (λ a. nothing other a)) stands

-- a step that says nothing of any socket
pub stands_step : (old new : List Step) (peers : List Peer) (l : Listening) (last : ℕ) (step : Step)
    → ((socket : ℕ) (a : Account) → account_step socket a step ≡ a) → new ≡ old ++ step ∷ []
    → Stands old peers l last → Stands new peers l last
stands_step old new peers l last step nothing tells stands =
    stands_spared old new peers l last (λ other. spares_after other old new step tells (λ a. nothing other a)) stands
