-- What a door has delivered when it ends.
use Rattle.std.proofs.Common.{◌++◌, ◌∷◌, [], ◌≡◌, ◌∙◌, ℕ, ◌+◌, Bool, true, false, not, List, length, refl, ap, arith, ◌==◌, ◌⊎◌, inl, inr}
use Rattle.std.proofs.Common.{get_or, Option, Some, None, sym, subst, ⊎_elim, true≢false}
use Rattle.std.proofs.Common.{append-nil, append_assoc}
use Rattle.std.specs.Prelude.{All, ◌&&◌}
use Rattle.std.specs.List.{list_all}
use Rattle.std.proofs.lemmas.List.Folds.{list_all-append}
use Rattle.srcp_peers.specs.declared.peer.Peer.{Peer}
use Rattle.srcp_peers.specs.declared.readiness.Output.{Output}
use Rattle.srcp_peers.specs.declared.readiness.Output.TheVariants as output
use Rattle.srcp_peers.specs.declared.system.Ready.{Ready}
use Rattle.srcp_peers.specs.Accounts.{Sent, account, is_owed}
use Rattle.srcp_log.specs.Limits.{most_last_waits}
use Rattle.srcp_log.specs.Delivery.{AreDelivered, HasEnded, HasLooked, HasWaited, HaveEnded, IsAllDelivered, IsOver, is_last_wait}
use Rattle.srcp_log.specs.Doors.{AreStanding, IsThere}
use Rattle.srcp_peers.specs.AllPeers.{AreKept, IsAbsent}
use Rattle.srcp_peers.specs.Peers.{WritesAs, is_lost, is_waiting}
use Rattle.srcp_peers.specs.Steps.{Accepts, Answers, Clocks, Closes, Reads, SaysNothing, Shuts, Step, Waits, Writes}
use Rattle.srcp_peers.specs.Times.{KeepsTimes, Times, times, times_step}
use Rattle.srcp_peers.proofs.PeersRestByAccount.{and_left, and_right, owed_is}
use Rattle.srcp_log.proofs.SocketsStayStanding.{find, nobody}
use Rattle.srcp_log.proofs.WorkIsDone.{free_came, is_free}
use Rattle.srcp_peers.proofs.CallsAreOfTheDoor.{times_more}

-- nothing is queued that its socket may take
delivered_as : (sent : Sent) (outgoing : List ℕ) (state : Output) → (not (length outgoing == 0) && not (is_lost state)) ≡ false
    → WritesAs sent outgoing state → (is_owed sent ≡ false) ⊎ (sent.lost ≡ true)
delivered_as sent outgoing output.Open e h = inl (owed_is sent outgoing h.0 ∙ alone (not (length outgoing == 0)) e)
  where
    alone : (b : Bool) → (b && true) ≡ false → b ≡ false
    alone true f = f
    alone false f = refl
delivered_as sent outgoing output.Full e h = inl (owed_is sent outgoing h.0 ∙ alone (not (length outgoing == 0)) e)
  where
    alone : (b : Bool) → (b && true) ≡ false → b ≡ false
    alone true f = f
    alone false f = refl
delivered_as sent outgoing output.Lost e h = inr h.1

pub are_delivered : (log : List Step) (peers : List Peer) → AreKept log peers → All (λ peer. is_waiting peer ≡ false) peers
    → AreDelivered log peers
are_delivered log peers kept none k d lt =
    let p : Peer = get_or peers k d in
    delivered_as (account p.number log).sent p.outgoing p.output (none k d lt) (kept k d lt).writes

-- every socket that is not closed has a peer
is_all_delivered : (log : List Step) (peers : List Peer) → AreStanding log peers → AreDelivered log peers → IsAllDelivered log
is_all_delivered log peers standing delivered socket kept = ⊎_elim
    (λ (there : IsThere socket peers).
    subst (λ (n : ℕ). (is_owed (account n log).sent ≡ false) ⊎ ((account n log).sent.lost ≡ true)) (there.same nobody)
    (delivered there.index nobody there.within))
    (λ (absent : IsAbsent socket peers). absurd (true≢false (sym kept ∙ (standing.2.closed socket absent).kept)))
    (find socket peers)

pub has_ended : (until : ℕ) (old new : List Step) (peers : List Peer) → AreStanding new peers → HaveEnded until old new peers
    → HasEnded until old new
has_ended until old new peers standing ended = ⊎_elim
    (λ (delivered : AreDelivered new peers). inl (is_all_delivered new peers standing delivered))
    (λ (other : IsOver until new ⊎ HasWaited most_last_waits old new). inr other)
    ended

-- ---- how often it waited

pub waited_none : (log : List Step) → HasWaited 0 log log
waited_none log wall start = omega arith

pub waited_keeps : (count : ℕ) (old mid new : List Step) → HasWaited count old mid → KeepsTimes mid new → HasWaited count old new
waited_keeps count old mid new waited keeps wall start = ap (λ t. t.waits) (keeps wall start) ∙ waited wall start

pub waited_after : (count : ℕ) (old mid new : List Step) → KeepsTimes old mid → HasWaited count mid new → HasWaited count old new
waited_after count old mid new keeps waited wall start = waited wall start ∙ ap (λ t. t.waits + count) (keeps wall start)

same : (t : Times) (answer : Option ℕ) → (times_step t (Clocks answer)).waits ≡ t.waits
same t None = refl
same t (Some time) = refl

pub waited_clocked : (count : ℕ) (old mid new : List Step) (answer : Option ℕ) → new ≡ mid ++ Clocks answer ∷ []
    → HasWaited count old mid → HasWaited count old new
waited_clocked count old mid new answer tells waited wall start = ap (λ l. (times wall start l).waits) tells
    ∙ ap (λ x. x.waits) (times_more wall start mid (Clocks answer)) ∙ same (times wall start mid) answer ∙ waited wall start

pub waited_more : (count : ℕ) (old mid new : List Step) (most : Option ℕ) (n : ℕ) (ready : List Ready)
    → new ≡ mid ++ Waits most n ready ∷ [] → HasWaited count old mid → HasWaited (count + 1) old new
waited_more count old mid new most n ready tells waited wall start =
    let one : (times wall start new).waits ≡ (times wall start mid).waits + 1 =
    ap (λ l. (times wall start l).waits) tells ∙ ap (λ x. x.waits) (times_more wall start mid (Waits most n ready)) in
    let before = waited wall start in
    omega (arith, one, before)

-- ---- how long it waited

pub looked_none : (log : List Step) → HasLooked log log
looked_none log = ([], sym (append-nil log), refl)

pub looked_then : (old mid new : List Step) → HasLooked old mid → HasLooked mid new → HasLooked old new
looked_then old mid new first then = (
  first.0 ++ then.0,
  then.1 ∙ ap (λ (l : List Step). l ++ then.0) first.1 ∙ append_assoc old first.0 then.0,
  list_all-append is_last_wait first.0 then.0 ∙ ap (λ b. b && list_all is_last_wait then.0) first.2 ∙ then.2,
)

pub looked_step : (old new : List Step) (step : Step) → new ≡ old ++ step ∷ [] → is_last_wait step ≡ true → HasLooked old new
looked_step old new step tells is = (step ∷ [], tells, ap (λ b. b && true) is)

-- no wait came
free_waits : (step : Step) → is_free step ≡ true → is_last_wait step ≡ true
free_waits (Accepts number answer) e = refl
free_waits (Reads who buffer answer) e = refl
free_waits (Writes who bytes answer) e = refl
free_waits (Waits most count ready) e = absurd (true≢false (sym e))
free_waits (Shuts who) e = refl
free_waits (Closes who) e = refl
free_waits (Clocks answer) e = refl
free_waits (Answers call) e = refl

all_free : (came : List Step) → list_all is_free came ≡ true → list_all is_last_wait came ≡ true
all_free [] e = refl
all_free (step ∷ came) e = ap (λ b. b && list_all is_last_wait came) (free_waits step (and_left (is_free step) (list_all is_free came) e))
    ∙ all_free came (and_right (is_free step) (list_all is_free came) e)

pub looked_free : (old new : List Step) → SaysNothing old new → KeepsTimes old new → HasLooked old new
looked_free old new says keeps = (says.0, says.1, all_free says.0 (free_came old new says keeps))
